use Rattle.std.proofs.Common.{◌≡◌, ℕ, List, drop}
use Rattle.std.specs.Option.{option_or}
use Rattle.spk_script.specs.Commands.Label.{label_place}
use Rattle.spk_script.specs.Tables.{labels_of}
use Rattle.spk_script.proofs.LabelPlaces.{label_from}
use Rattle.spk_script.proofs.labels.Labels.of.Given as goal

-- the labels so far, and those from here on
abbrev pub invariant-loop-place : goal.invariant-loop-place
invariant-loop-place l =
    (label : List ℕ) → option_or (labels_of l.labels.places label) (label_from label l.place (drop l.place l.lines))
    ≡ label_place l.lines label
