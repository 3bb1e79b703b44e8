-- How definitions see the code's table.
use Rattle.std.specs.Prelude.{List, map, Result, Ok, Err}
use Rattle.spk_cmds.specs.declared.command.CommandFault.{CommandFault}
use Rattle.spk_cmds.specs.declared.form.Form as code_form
use Rattle.spk_cmds.specs.declared.form.Forms as code_forms
use Rattle.spk_cmds.specs.declared.form.Forms.TheVariants as forms
use Rattle.spk_cmds.specs.declared.form.Row as code_row
use Rattle.spk_cmds.specs.declared.form.Styled as code_styled
use Rattle.spk_cmds.specs.Forms.{Form}
use Rattle.spk_cmds.specs.Table.{Styled, Forms, Unbuilt, One, Several, Row}
use Rattle.spk_cmds.specs.Views.{words_seen, form_seen}

abbrev pub styled_seen : code_styled.Styled → Styled
styled_seen styled = record { word = styled.word.now; form = form_seen styled.form }

abbrev pub styles_seen : List code_styled.Styled → List Styled
styles_seen styles = map styled_seen styles

abbrev pub forms_seen : code_forms.Forms → Forms
forms_seen forms.Unbuilt = Unbuilt
forms_seen (forms.One form) = One (form_seen form)
forms_seen (forms.Several place styles unbuilt) = Several place (styles_seen styles.now) (words_seen unbuilt.now)

abbrev pub row_seen : code_row.Row → Row
row_seen row = record { name = row.name.now; forms = forms_seen row.forms }

abbrev pub rows_seen : List code_row.Row → List Row
rows_seen rows = map row_seen rows

-- a form that was found
abbrev pub found_seen : Result code_form.Form CommandFault → Result Form CommandFault
found_seen (Ok form) = Ok (form_seen form)
found_seen (Err fault) = Err fault
