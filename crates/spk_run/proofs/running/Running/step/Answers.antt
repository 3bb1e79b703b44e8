use Rattle.std.proofs.Common.{◌+◌, sym, ◌∙◌}
use Rattle.spk_sched.specs.Globals.{kinetics_of}
use Rattle.spk_sched.proofs.PlanLaws.{whole_plan, mark_is, steps_are}
use Rattle.spk_run.proofs.RunSteps.{runs_marked, runs_unmarked, shown_turned}
use Rattle.spk_run.proofs.running.Running.step.Goals as goal

pub returns-then-mark_after-clause-runs : goal.returns-then-mark_after-clause-runs
returns-then-mark_after-clause-runs g c = λ start display rule domain given on.
    let turned = c.turn.ensures.done rule c.args.plan.now domain c.args.step c.requires.one_sector (whole_plan c.args.plan.now c.known.ensures.no_fault) (sym c.sweep.ensures) c.window.ensures on.has_done in
    let below = rw (steps_are c.args.plan.now c.requires.one_sector) at c.requires.step in
    let marked = sym (mark_is c.args.plan.now c.args.step c.requires.one_sector) ∙ (sym c.mark_after.ensures ∙ c.if-mark_after.true) in
    let shown = shown_turned display c.args.self.now c.turn.new.self c.turn.ensures.with_energy c.turn.ensures.teller on.shown in
    runs_marked start _ _ display (kinetics_of (g.A.App.rules c.args.app.now) rule) c.args.plan.now domain given c.args.step _ c.args.self.now c.turn.new.self c.tell.new.self c.requires.one_sector below marked c.line_after.ensures
    c.turn.ensures.dumps c.turn.ensures.teller turned (c.tell.ensures.done (kinetics_of (g.A.App.rules c.args.app.now) rule) c.args.plan.now domain (c.args.step + 1) turned) (c.tell.ensures.shown display shown) c.tell.ensures.dumps
    (c.tell.ensures.telling display rule c.args.plan.now domain (c.args.step + 1) c.requires.one_sector turned shown) on

pub returns-else-mark_after-clause-runs : goal.returns-else-mark_after-clause-runs
returns-else-mark_after-clause-runs g c = λ start display rule domain given on.
    let below = rw (steps_are c.args.plan.now c.requires.one_sector) at c.requires.step in
    let unmarked = sym (mark_is c.args.plan.now c.args.step c.requires.one_sector) ∙ (sym c.mark_after.ensures ∙ c.if-mark_after.false) in
    runs_unmarked start _ display (kinetics_of (g.A.App.rules c.args.app.now) rule) c.args.plan.now domain given c.args.step c.args.self.now c.turn.new.self below unmarked c.turn.ensures.dumps c.turn.ensures.teller
    (c.turn.ensures.done rule c.args.plan.now domain c.args.step c.requires.one_sector (whole_plan c.args.plan.now c.known.ensures.no_fault) (sym c.sweep.ensures) c.window.ensures on.has_done)
    (shown_turned display c.args.self.now c.turn.new.self c.turn.ensures.with_energy c.turn.ensures.teller on.shown) on

pub returns-then-mark_after-clause-ready : goal.returns-then-mark_after-clause-ready
returns-then-mark_after-clause-ready g c = rw c.sweep.ensures at (c.tell.ensures.ready _ _ c.turn.ensures.ready)
