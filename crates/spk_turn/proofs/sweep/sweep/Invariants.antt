use Rattle.std.proofs.Common.{◌≡◌, ◌+◌, ◌-◌, length}
use Rattle.spk_sched.specs.Turns.{picks_from, sweep_of}
use Rattle.spk_solve.specs.Choice.{Rule}
use Rattle.spk_turn.specs.Ready.{IsReady, sector_on}
use Rattle.spk_turn.specs.Slots.{places}
use Rattle.spk_turn.proofs.Steps.{state_with}
use Rattle.spk_turn.proofs.sweep.sweep.Given as goal

abbrev pub invariant-picks : goal.invariant-picks
invariant-picks g l = record {
  state : (rule : Rule) → picks_from l.style (sector_on (g.A.App.rules l.app) rule (g.V.View.sight l.fn.view) (places l.slots)) (length (places l.slots) - l.k) l.k (state_with (g.V.View.sight l.view).values l.stream l.counts)
      ≡ sweep_of l.style (sector_on (g.A.App.rules l.app) rule (g.V.View.sight l.fn.view) (places l.slots)) (state_with (g.V.View.sight l.fn.view).values l.fn.stream l.fn.counts);
  near : (g.V.View.sight l.view).near ≡ (g.V.View.sight l.fn.view).near;
  all : length (g.V.View.sight l.view).values ≡ length (g.V.View.sight l.fn.view).values;
  frame : g.V.View.frame l.view ≡ g.V.View.frame l.fn.view;
  ready : IsReady (g.A.App.rules l.app) (g.V.View.whole l.view) (g.A.App.PROP + g.A.App.STEP) (g.V.View.sight l.view);
}
