use Rattle.std.proofs.Common.{◌≡◌, ℕ, ◌^◌, ◌<◌, ◌≤◌, drop, length}
use Rattle.std.specs.Prelude.{slice_index}
use Rattle.spk_solve.specs.SumTrees.{IsOffAbove}
use Rattle.spk_solve.proofs.sum_tree.raise.Given as goal

abbrev pub invariant-up : goal.invariant-up
invariant-up l = record {
  off : IsOffAbove l.nodes.items l.base l.at l.old l.new;
  small : (m : ℕ) → m < l.at → slice_index l.nodes.items m < 2 ^ 62;
  length : length l.nodes.items ≡ length l.fn.nodes.items;
  leaves : (n : ℕ) → l.base ≤ n → drop n l.nodes.items ≡ drop n l.fn.nodes.items;
}

abbrev pub decreases-up : goal.decreases-up
decreases-up l = l.at
