use Rattle.std.proofs.Common.{◌≡◌, ◌+◌}
use Rattle.spk_solve.specs.SumTrees.{prefix_sum}
use Rattle.spk_solve.proofs.sum_tree.child_of.Given as goal

abbrev pub invariant-scan : goal.invariant-scan
invariant-scan l = prefix_sum l.nodes.items l.place + l.rest ≡ prefix_sum l.fn.nodes.items l.fn.first + l.fn.target
