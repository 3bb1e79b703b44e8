use Rattle.std.proofs.Common.{◌∙◌, ap, sym}
use Rattle.spk_num.specs.Decimal.{millionths_of}
use Rattle.spk_script.specs.Formulas.{number_of}
use Rattle.spk_script.proofs.Parts.{number_begins}
use Rattle.spk_script.proofs.formula.part.token_at.Goals as goal

pub returns-then-is_number_byte : goal.returns-then-is_number_byte
returns-then-is_number_byte c =
    c.number_of.ensures ∙ ap (λ run. number_of c.args.place (millionths_of run)) c.number_run.ensures
    ∙ number_begins c.args.place c.args.text.now c.in-Some.following.now c.in-Some.first.now c.in-Some.ensures.cases.0
    (sym c.is_number_byte.ensures ∙ c.if-is_number_byte.true)
