use Rattle.std.proofs.Common.{◌≡◌, ℕ, ◌<◌, false, length, get_or, Some}
use Rattle.spk_lattice.specs.Regions.{holds, name_at, named_shapes}
use Rattle.spk_lattice.proofs.regions.answer.answer_at.Given as goal

abbrev pub invariant-loop-k : goal.invariant-loop-k
invariant-loop-k l = record {
  many : length l.answers ≡ 128;
  known : (k : ℕ) → k < l.k → holds (named_shapes l.regions) (name_at (named_shapes l.regions) k) l.point ≡ Some (get_or l.answers k false);
}
