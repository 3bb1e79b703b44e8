use Rattle.std.proofs.Common.{◌≡◌, ◌+◌, ◌-◌, length, take, map}
use Rattle.std.specs.Prelude.{slice_index}
use Rattle.spk_lattice.specs.Neighbours.{nb}
use Rattle.spk_patch.proofs.patch.PatchView.read_near.Given as goal

abbrev pub invariant-near : goal.invariant-near
invariant-near l = record {
  all : length l.near ≡ l.degree;
  read : take l.k l.near ≡ map (λ id. slice_index l.self-inside.values (id - 1)) (take l.k (nb l.self-inside.lattice (l.i + 1)));
}
