use Rattle.std.proofs.Common.{◌≡◌, ◌≤◌, take}
use Rattle.spk_potts.specs.Energies.{unlike}
use Rattle.spk_potts.proofs.energy.unlike.Given as goal

abbrev pub invariant-loop-value : goal.invariant-loop-value
invariant-loop-value l = record {
  so_far : l.count ≡ unlike l.own (take l.value-index l.near);
  few : l.count ≤ l.value-index;
}
