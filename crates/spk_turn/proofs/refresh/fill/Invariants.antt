use Rattle.std.proofs.Common.{◌≡◌, ◌+◌}
use Rattle.spk_turn.specs.Slots.{places}
use Rattle.spk_turn.proofs.Anew.{FirstRight}
use Rattle.spk_turn.proofs.refresh.fill.Given as goal

abbrev pub invariant-slots : goal.invariant-slots
invariant-slots g l = record {
  first : FirstRight (g.A.App.rules l.app) (g.V.View.sight l.view) (places l.fn.slots) (g.S.Solver.list l.solver) l.slot;
  cost : l.steps ≡ l.fn.steps + l.slot;
  capacity : g.S.Solver.capacity l.solver ≡ g.S.Solver.capacity l.fn.solver;
}
