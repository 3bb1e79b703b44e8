use Rattle.std.proofs.Common.{◌≡◌, ◌+◌, ◌≤◌, drop}
use Rattle.spk_turn.specs.Ready.{IsRightBut}
use Rattle.spk_turn.specs.Slots.{places}
use Rattle.spk_turn.proofs.refresh.refresh.Given as goal

abbrev pub invariant-loop-other : goal.invariant-loop-other
invariant-loop-other g l = record {
  but : IsRightBut (g.A.App.rules l.app) (g.V.View.sight l.view) (places l.slots) (g.S.Solver.list l.solver) (drop l.other-index l.other-items);
  cost : l.steps ≤ l.fn.steps + l.other-index;
  capacity : g.S.Solver.capacity l.solver ≡ g.S.Solver.capacity l.fn.solver;
}
