use Rattle.std.proofs.Common.{◌≡◌, take, length}
use Rattle.spk_lattice.specs.Neighbours.{nb}
use Rattle.spk_lattice.proofs.reach.neighbours.Given as goal

abbrev pub invariant-loop-k : goal.invariant-loop-k
invariant-loop-k l = record {
  all : length l.ids ≡ 26;
  so_far : take l.k l.ids ≡ take l.k (nb l.grid l.id);
}
