use Rattle.std.proofs.Common.{◌≡◌, ◌+◌, ◌≤◌, count_by, take}
use Rattle.spk_lattice.specs.Neighbours.{nb}
use Rattle.spk_patch.proofs.NearValues.{counts_by_id}
use Rattle.spk_patch.proofs.patch.PatchView.count_near.Given as goal

abbrev pub invariant-near : goal.invariant-near
invariant-near l = record {
  so_far : l.count ≡ count_by (counts_by_id l.self-inside.values l.value l.but) (take l.k (nb l.self-inside.lattice (l.i + 1)));
  few : l.count ≤ l.k;
}
