use Rattle.std.proofs.Common.{◌≡◌, length, take, drop}
use Rattle.spk_lattice.specs.Regions.{unknown_part, ArePlaces}
use Rattle.spk_lattice.proofs.regions.Regions.places_of.Given as goal

abbrev pub invariant-loop-part : goal.invariant-loop-part
invariant-loop-part l = record {
  known : unknown_part l.self l.parts ≡ unknown_part l.self (drop l.part-index l.parts);
  places : ArePlaces l.self (length l.self) (take l.part-index l.parts) l.places.items;
}
