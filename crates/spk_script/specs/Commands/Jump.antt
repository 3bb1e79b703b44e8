-- `jump SELF L`: goes to a label.
use Rattle.std.specs.Prelude.{ℕ, ◌+◌, List, [], ◌∷◌, codes, false, Option, Some, None, Ok, Err, Result, if◌then◌else◌}
use Rattle.std.specs.Str.{bytes_eq}
use Rattle.spk_script.specs.Commands.Label.{label_place}
use Rattle.spk_script.specs.Lines.{LogicalLine}
use Rattle.spk_script.specs.States.{State}
use Rattle.spk_script.specs.declared.fault.LineFault.{LineFault}
use Rattle.spk_script.specs.declared.fault.LineFault.TheVariants.{WrongWords, OtherFile, NoSuchLabel}

-- `jump SELF L`: the machine stands at that line, unless the jump is skipped
abbrev pub at_label : State → List ℕ → Option ℕ → Result State LineFault
at_label state label None = Err (NoSuchLabel label)
at_label state label (Some place) = Ok (record state { place = place + 1 })

abbrev pub with_jump : List LogicalLine → State → List ℕ → List ℕ → Result State LineFault
with_jump lines state file label =
    if state.skips then Ok (record state { skips = false })
    else (if bytes_eq file (codes "SELF") then at_label state label (label_place lines label) else Err OtherFile)

abbrev pub after_jump : List LogicalLine → State → List (List ℕ) → Result State LineFault
after_jump lines state (file ∷ label ∷ []) = with_jump lines state file label
after_jump lines state words = Err WrongWords
