-- Each command that the table reads is well-formed.
use Rattle.std.proofs.Common.{◌≡◌, ℕ, ◌≤◌, Bool, true, false, cond, List, [], ◌∷◌, length, Option, Some, None, Result, Ok, Err, ap, subst, refl, ◌∙◌, arith}
use Rattle.std.specs.Prelude.{codes, slice_get}
use Rattle.std.specs.Result.{IfOk}
use Rattle.std.specs.Str.{bytes_eq}
use Rattle.std.proofs.lemmas.List.{length-map}
use Rattle.spk_num.specs.Results.{IsPlainOrMemory}
use Rattle.spk_num.proofs.ResultLaws.{plain_is}
use Rattle.spk_cmds.specs.declared.command.AppStyle.TheVariants.{DiffusionOff, DiffusionLinear}
use Rattle.spk_cmds.specs.declared.command.Command.{Command}
use Rattle.spk_cmds.specs.declared.command.CommandFault.{CommandFault}
use Rattle.spk_cmds.specs.declared.command.CommandFault.TheVariants.{NotBuilt, UnknownStyle}
use Rattle.spk_cmds.specs.declared.command.DumpStyle.TheVariants as dump
use Rattle.spk_cmds.specs.declared.value.Value.{Value}
use Rattle.spk_cmds.specs.declared.value.Reading.{Reading}
use Rattle.spk_cmds.specs.Faults.{is_memory}
use Rattle.spk_cmds.specs.Kinds.{is_among}
use Rattle.spk_cmds.specs.Forms.{Form, UpTo, form_read}
use Rattle.spk_cmds.specs.Makers.{made}
use Rattle.spk_cmds.specs.Makers.Dump.{field_of, text_fields}
use Rattle.spk_cmds.specs.Values.{word_at, word_by, words_of}
use Rattle.spk_cmds.specs.Table as table
use Rattle.spk_cmds.specs.WellFormed.{IsFromTo, IsApp, IsWellFormed}
use Rattle.spk_cmds.proofs.ReadFacts.{IsReadBy, bind_ok, read_is_in}

-- what values of a form's kinds make is well-formed
abbrev pub IsSound : Form → Type 0
IsSound form = (reading : Reading) → IsReadBy form reading → IsWellFormed (made form.maker reading)

abbrev pub AreSoundStyles : List table.Styled → Type 0
AreSoundStyles [] = Unit {0}
AreSoundStyles (styled ∷ others) = IsSound styled.form × AreSoundStyles others

abbrev pub AreSoundForms : table.Forms → Type 0
AreSoundForms table.Unbuilt = Unit {0}
AreSoundForms (table.One form) = IsSound form
AreSoundForms (table.Several place styles unbuilt) = AreSoundStyles styles

abbrev pub AreSoundRows : List table.Row → Type 0
AreSoundRows [] = Unit {0}
AreSoundRows (row ∷ rows) = AreSoundForms row.forms × AreSoundRows rows

three : ◌≡◌ {A = ℕ} 3 3
three = refl

-- a cylinder's axis is one of three, whatever its word is
one_of_three : (first second : Bool) → cond first 0 (cond second 1 2) ≤ 2
one_of_three true second = omega arith
one_of_three false true = omega arith
one_of_three false false = omega arith

cylinder_sound : IsSound table.cylinder
cylinder_sound reading read = let axis = word_at reading.values 2 in assumption (three, one_of_three (bytes_eq axis (codes "x")) (bytes_eq axis (codes "y")))

-- so is diffusion, whatever its word is
one_of_two : (test : Bool) → IsApp (cond test DiffusionOff DiffusionLinear)
one_of_two true = tt
one_of_two false = tt

diffusion_sound : IsSound table.diffusion
diffusion_sound reading read = one_of_two (bytes_eq (word_at reading.values 1) (codes "off"))

-- so is a text dump, which has fields whether words name some or not
some_fields : (words : List Value) → length words ≤ 16 → IsFromTo 1 16 (length (text_fields words))
some_fields [] few = (omega arith, omega arith)
some_fields (word ∷ words) few =
    let as_many : length (text_fields (word ∷ words)) ≡ length (word ∷ words) = length-map (words_of (word ∷ words)) field_of ∙ length-map (word ∷ words) (λ v. word_by (Some v)) in
    (omega arith, omega arith)

text_dump_sound : IsSound (table.dump_form dump.Text (UpTo 16 table.field))
text_dump_sound reading read = assumption (some_fields reading.more read.1.0)

-- The same of the whole table. A new row changes nothing here, unless words choose a part of its command.
table_sound : AreSoundRows table.table
unfolding table.table
table_sound = assumption (three, cylinder_sound, diffusion_sound, text_dump_sound)

-- so is the form that words find
chosen : {A : Type 0} (P : A → Type 0) (test : Bool) (a b : A) (other : Option A) → P a → (other ≡ Some b → P b) → cond test (Some a) other ≡ Some b → P b
chosen P true a b other first later is = let its : a ≡ b = cc in subst P its first
chosen P false a b other first later is = later is

styled_sound : (styles : List table.Styled) (word : List ℕ) (form : Form) → AreSoundStyles styles → table.styled_found styles word ≡ Some form → IsSound form
styled_sound [] word form sound is = absurd (cc)
styled_sound (styled ∷ others) word form sound is =
    chosen IsSound (bytes_eq word styled.word) styled.form form (table.styled_found others word) sound.0 (styled_sound others word form sound.1) is

row_sound : (rows : List table.Row) (first : List ℕ) (forms : table.Forms) → AreSoundRows rows → table.row_found rows first ≡ Some forms → AreSoundForms forms
row_sound [] first forms sound is = absurd (cc)
row_sound (row ∷ rows) first forms sound is =
    chosen AreSoundForms (bytes_eq first row.name) row.forms forms (table.row_found rows first) sound.0 (row_sound rows first forms sound.1) is

refused : (test : Bool) (one other : CommandFault) (form : Form) → cond test (Err one) (Err other) ≡ Ok form → ⊥
refused true one other form is = cc
refused false one other form is = cc

decided_sound_by : (found : Option Form) (unbuilt : List (List ℕ)) (word : List ℕ) (form : Form) → ((form : Form) → found ≡ Some form → IsSound form) →
    table.decided_by found unbuilt word ≡ Ok form → IsSound form
decided_sound_by (Some found) unbuilt word form sound is = let its : found ≡ form = cc in sound form (ap (λ f. Some f) its)
decided_sound_by None unbuilt word form sound is = absurd (refused (is_among unbuilt word) (NotBuilt word) (UnknownStyle word) form is)

decided_sound : (styles : List table.Styled) (unbuilt : List (List ℕ)) (word : Option (List ℕ)) (form : Form) → AreSoundStyles styles →
    table.decided styles unbuilt word ≡ Ok form → IsSound form
decided_sound styles unbuilt None form sound is = absurd (cc)
decided_sound styles unbuilt (Some word) form sound is =
    decided_sound_by (table.styled_found styles word) unbuilt word form (λ form found. styled_sound styles word form sound found) is

form_sound : (forms : table.Forms) (first : List ℕ) (words : List (List ℕ)) (form : Form) → AreSoundForms forms → table.form_of forms first words ≡ Ok form → IsSound form
form_sound table.Unbuilt first words form sound is = absurd (cc)
form_sound (table.One its) first words form sound is = let same : its ≡ form = cc in subst IsSound same sound
form_sound (table.Several place styles unbuilt) first words form sound is = decided_sound styles unbuilt (slice_get words place) form sound is

found_sound_by : (forms : Option table.Forms) (first : List ℕ) (words : List (List ℕ)) (form : Form) → ((found : table.Forms) → forms ≡ Some found → AreSoundForms found) →
    table.form_found_by forms first words ≡ Ok form → IsSound form
found_sound_by None first words form sound is = absurd (cc)
found_sound_by (Some forms) first words form sound is = form_sound forms first words form (sound forms refl) is

found_sound : (first : List ℕ) (words : List (List ℕ)) (form : Form) → table.form_found first words ≡ Ok form → IsSound form
found_sound first words form is = found_sound_by (table.row_found table.table first) first words form (λ found its. row_sound table.table first found table_sound its) is

-- and the command that words make
read_sound : (words : List (List ℕ)) (command : Command) → table.command_read words ≡ Ok command → IsWellFormed command
unfolding table.command_read
read_sound [] command is = absurd (cc)
read_sound (first ∷ words) command is =
    let form = bind_ok (table.form_found first words) (λ form. table.read_by words form) command is in
    let reading = bind_ok (form_read form.0 words) (λ reading. Ok (made form.0.maker reading)) command form.1.1 in
    let its : made form.0.maker reading.0 ≡ command = cc (reading.1.1) in
    subst IsWellFormed its (found_sound first words form.0 form.1.0 reading.0 (read_is_in form.0 words reading.0 reading.1.0))

pub its_form : (words : List (List ℕ)) (result : Result Command CommandFault) → IsPlainOrMemory is_memory (table.command_read words) result → IfOk result IsWellFormed
its_form words (Ok command) same = read_sound words command (plain_is is_memory _ _ same)
its_form words (Err fault) same = tt
