-- `label L`: a place to which a jump may go.
use Rattle.std.specs.Prelude.{ℕ, Bool, false, ◌&&◌, List, [], ◌∷◌, position, codes, Option, Ok, Err, Result}
use Rattle.std.specs.Str.{bytes_eq}
use Rattle.spk_script.specs.Lines.{LogicalLine}
use Rattle.spk_script.specs.States.{State}
use Rattle.spk_script.specs.declared.fault.LineFault.{LineFault}
use Rattle.spk_script.specs.declared.fault.LineFault.TheVariants.{WrongWords}
use Rattle.spk_script.specs.declared.words.Word.{Word}

-- `label L` does nothing
abbrev pub after_label : State → List (List ℕ) → Result State LineFault
after_label state (label ∷ []) = Ok state
after_label state words = Err WrongWords

-- the place of the first line whose words, as they stand in the script, are `label` and this one
abbrev pub is_label_by : List ℕ → List Word → Bool
is_label_by label (first ∷ second ∷ []) = bytes_eq first.text (codes "label") && bytes_eq second.text label
is_label_by label words = false

abbrev pub label_place : List LogicalLine → List ℕ → Option ℕ
label_place lines label = position (λ line. is_label_by label line.words) lines
