use Rattle.std.proofs.Common.{◌≡◌, ℕ, [], ◌<◌, length}
use Rattle.spk_solve.specs.Groups.{kept_at}
use Rattle.spk_solve.proofs.group.blocks.make_trees.Given as goal

abbrev pub invariant-bins : goal.invariant-bins
invariant-bins l = record {
  long : length l.trees.items ≡ l.counter;
  empty : (bin : ℕ) → bin < l.counter → kept_at l.trees.items bin ≡ record { list = []; room = l.blocks };
}
