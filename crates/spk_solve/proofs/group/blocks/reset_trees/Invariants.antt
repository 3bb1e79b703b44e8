use Rattle.std.proofs.Common.{◌≡◌, ℕ, ◌<◌, ◌≤◌, length, replicate}
use Rattle.spk_solve.specs.Groups.{kept_at}
use Rattle.spk_solve.proofs.group.blocks.reset_trees.Given as goal

abbrev pub invariant-bins : goal.invariant-bins
invariant-bins l = record {
  long : length l.trees.items ≡ length l.fn.trees.items;
  zeros : (bin : ℕ) → bin < l.bin → kept_at l.trees.items bin ≡ record { list = replicate l.blocks 0; room = (kept_at l.fn.trees.items bin).room };
  later : (bin : ℕ) → l.bin ≤ bin → kept_at l.trees.items bin ≡ kept_at l.fn.trees.items bin;
}
