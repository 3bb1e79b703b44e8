-- What the tables of a script say of it.
use Rattle.std.specs.Prelude.{◌≡◌, ℕ, List, length}
use Rattle.spk_script.specs.declared.labels.Labels.{Labels}
use Rattle.spk_script.specs.declared.command_table.CommandTable.{CommandTable}
use Rattle.spk_script.specs.Lines.{LogicalLine}
use Rattle.spk_script.specs.CommandPlaces.{IsTableUpTo}
use Rattle.spk_script.specs.Commands.Label.{label_place}
use Rattle.spk_script.specs.Tables.{labels_of}

pub record IsLabelled (lines : List LogicalLine) (labels : Labels) (commands : CommandTable) : Type 0 where
  pub labelled : (label : List ℕ) → labels_of labels.places label ≡ label_place lines label
  pub commanded : IsTableUpTo lines commands.places.items (length lines)
