use Rattle.std.proofs.Common.{◌≡◌, ◌+◌, ◌*◌, ◌<◌, ◌≤◌}
use Rattle.std.specs.Prelude.{slice_index}
use Rattle.spk_solve.specs.SumTrees.{prefix_sum, start}
use Rattle.spk_solve.proofs.sum_tree.SumTree.find.Given as goal

abbrev pub invariant-levels : goal.invariant-levels
invariant-levels g l = record {
  from : start l.level ≤ l.place;
  to : l.place ≤ 16 * start l.level;
  split : prefix_sum l.self-inside.nodes.items l.place + l.rest ≡ prefix_sum l.self-inside.nodes.items (start l.level) + l.target;
  left : l.rest < slice_index l.self-inside.nodes.items l.place;
  cost : l.steps ≡ l.fn.steps + l.level;
}
