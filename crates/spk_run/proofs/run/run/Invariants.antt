use Rattle.spk_sched.specs.Globals.{kinetics_of}
use Rattle.spk_run.specs.Running.{IsReady, RunsOn, display_of}
use Rattle.spk_run.specs.Solvers.{rule_of, style_of}
use Rattle.spk_run.proofs.run.run.Given as goal

abbrev pub invariant-loop-step : goal.invariant-loop-step
invariant-loop-step g l = record {
  on : RunsOn (g.W.World.state l.fn.world) (g.W.World.state l.world) (display_of l.fn.room.output.log l.fn.room.with_energy l.fn.room.writer) (kinetics_of (g.A.App.rules l.app) (rule_of (style_of l.fn.room.solver))) l.plan l.fn.domain l.fn.dumps l.step l.running;
  ready : IsReady (g.A.App.rules l.app) l.plan.sweep l.running;
}
