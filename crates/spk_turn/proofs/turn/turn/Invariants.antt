use Rattle.std.proofs.Common.{◌≡◌, ℕ, ◌+◌, ◌*◌, ◌-◌, ◌≤◌, length}
use Rattle.spk_sched.specs.Turns.{no_counts, turn_from, turn_of}
use Rattle.spk_turn.specs.Ready.{IsReady, sector_on, propensities_in}
use Rattle.spk_turn.specs.Slots.{places, slot_count}
use Rattle.spk_turn.proofs.Costs.{AllReach, accepted_only}
use Rattle.spk_turn.proofs.Steps.{state_with}
use Rattle.spk_turn.proofs.turn.turn.Given as goal

abbrev pub invariant-events : goal.invariant-events
invariant-events g l = record {
  state : turn_from (sector_on (g.A.App.rules l.app) g.S.Solver.rule (g.V.View.sight l.fn.view) (places l.slots)) (l.window - l.counter) l.window l.local (state_with (g.V.View.sight l.view).values l.stream l.counts)
      ≡ turn_of (sector_on (g.A.App.rules l.app) g.S.Solver.rule (g.V.View.sight l.fn.view) (places l.slots)) l.window (state_with (g.V.View.sight l.fn.view).values l.fn.stream no_counts);
  counts : l.counts ≡ accepted_only l.counter;
  within : l.local ≤ l.window;
  near : (g.V.View.sight l.view).near ≡ (g.V.View.sight l.fn.view).near;
  all : length (g.V.View.sight l.view).values ≡ length (g.V.View.sight l.fn.view).values;
  frame : g.V.View.frame l.view ≡ g.V.View.frame l.fn.view;
  ready : IsReady (g.A.App.rules l.app) (g.V.View.whole l.view) (g.A.App.PROP + g.A.App.STEP) (g.V.View.sight l.view);
  afresh : g.S.Solver.list l.solver ≡ propensities_in (g.A.App.rules l.app) (g.V.View.sight l.view) (places l.slots);
  capacity : g.S.Solver.capacity l.solver ≡ g.S.Solver.capacity l.fn.solver;
  cost : (most : ℕ) → AllReach (g.V.View.sight l.fn.view) (g.A.App.PROP + g.A.App.STEP) most → l.steps ≤ l.fn.steps + l.counter * (most + 1) + l.counter * g.S.Solver.reach (slot_count l.slots);
}
