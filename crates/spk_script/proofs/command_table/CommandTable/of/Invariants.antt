use Rattle.spk_script.specs.CommandPlaces.{IsTableUpTo}
use Rattle.spk_script.proofs.command_table.CommandTable.of.Given as goal

abbrev pub invariant-loop-place : goal.invariant-loop-place
invariant-loop-place l = IsTableUpTo l.lines l.places.items l.place
