use Rattle.std.proofs.Common.{◌≡◌, ℕ, ◌+◌, ◌*◌, ◌^◌, ◌-◌, ◌≤◌}
use Rattle.spk_solve.specs.SumTrees.{start}
use Rattle.spk_solve.proofs.sum_tree.form_of.Given as goal

abbrev pub invariant-loop-base : goal.invariant-loop-base
invariant-loop-base l = record {
  base : l.base ≡ start l.depth;
  shallow : 2 ^ l.depth ≤ 4 * l.n + 4;
  deep : l.depth ≤ l.base;
  least : (e : ℕ) → l.n ≤ 15 * start e + 1 → l.base ≤ start e;
  small : l.base ≤ 8388608;
}

abbrev pub decreases-loop-base : goal.decreases-loop-base
decreases-loop-base l = l.n - l.base
