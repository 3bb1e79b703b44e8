use Rattle.std.proofs.Common.{◌≡◌, ◌≤◌, List, true, map, sym, ap, subst, ◌∙◌, arith}
use Rattle.spk_report.specs.Output.{prints}
use Rattle.spk_run.proofs.DumpTelling.{shows_same}
use Rattle.spk_run.proofs.RunSteps.{dumps_left_none, ends_in_time, ends_telling, first_left, has_done_telling, marks_left_none, show_telling, shown_telling, starts_telling, step_fits}
use Rattle.spk_run.proofs.Tellers.{tells_same}
use Rattle.spk_run.specs.declared.dump.DumpState.{DumpState}
use Rattle.spk_run.specs.declared.output.Output.{Output}
use Rattle.spk_run.specs.Dumps.{started}
use Rattle.spk_run.specs.Output.{header_text}
use Rattle.spk_run.specs.Running.{display_of}
use Rattle.spk_run.specs.Runs.{domain_at, passed_marks, tells_mark, tells_marks, tells_run}
use Rattle.spk_run.specs.Solvers.{rule_of, style_of}
use Rattle.spk_run.specs.Telling.{GoesOnTelling, Tells}
use Rattle.spk_sched.specs.Globals.{kinetics_of}
use Rattle.spk_sched.specs.Plans.{cycles, marks_from, steps}
use Rattle.spk_sched.proofs.PlanLaws.{elapsed_none, steps_are}
use Rattle.spk_run.proofs.run.run.Goals as goal

pub tell-requires-2-clause-show : goal.tell-requires-2-clause-show
tell-requires-2-clause-show g c =
    let ready = c.new-running.ensures.ready in
    show_telling c.new-running.result c.new-running.result.piece c.tell.new.self ready.show.piece (c.tell.ensures.can_tell ready.show.tell) (shows_same _ _ c.tell.ensures.writer) ready.show

pub tell-requires-2-clause-late : goal.tell-requires-2-clause-late
tell-requires-2-clause-late g c =
    let has = c.new-running.ensures.done c.args.plan.now (sym c.sweep.ensures) in
    omega (arith, has.time, elapsed_none c.args.plan.now, ends_in_time c.args.plan.now c.known.ensures.no_fault, c.requires.start)

pub loop-step-init : goal.loop-step-init
loop-step-init g c =
    let display = display_of c.args.room.output.log c.args.room.with_energy c.args.room.writer in
    let kinetics = kinetics_of (g.A.App.rules c.args.app.now) (rule_of (style_of c.args.room.solver)) in
    let settings = c.args.plan.now in
    let domain = c.args.domain in
    let running = c.new-running.result in
    let begun = map (started domain.time) c.args.dumps in
    let has = has_done_telling kinetics settings domain 0 running running.piece running.dumps c.tell.new.self (c.new-running.ensures.done settings (sym c.sweep.ensures)) in
    let log = ap (λ (output : Output). output.log) c.new-running.ensures.output in
    let made = c.new-running.ensures.shown c.args.room.output.log in
    let shown = shown_telling display running running.piece running.dumps c.tell.new.self (shows_same _ _ c.tell.ensures.writer) made in
    let left = first_left settings domain c.args.dumps c.tell-2.new.self.dumps _ running.dumps c.new-running.ensures.dumps has.time c.tell-2.ensures.dumps in
    let header : Tells display.log (prints display.log (header_text display.with_energy)) _ _ running.teller c.tell.new.self =
    tells_same display.log _ _ _ _ _ _ (ap (prints display.log) (c.header.ensures ∙ ap header_text made.with_energy)) (c.tell.ensures.telling display.log) in
    let mark = subst (λ (ds : List DumpState). Tells display.log (tells_mark display kinetics.application true (domain_at kinetics settings domain 0) ds) (g.W.World.state c.tell.new.world) (g.W.World.state c.tell-2.new.world) c.tell.new.self c.tell-2.new.self.teller) c.new-running.ensures.dumps
    (c.tell-2.ensures.telling display (rule_of (style_of c.args.room.solver)) settings domain 0 c.requires.one_sector has shown) in
    let whole = tells_run display kinetics settings domain c.args.dumps in
    let goes = mark _ whole _ (header _ whole _ (starts_telling (g.W.World.state c.args.world.now) display kinetics settings domain c.args.dumps running.teller c.new-running.ensures.written log)) in
    let ready = rw c.sweep.ensures at c.new-running.ensures.ready in
    record {
      on = record {
        has_done = c.tell-2.ensures.done kinetics settings domain 0 has;
        shown = c.tell-2.ensures.shown display shown;
        dumps = ap (passed_marks settings domain (marks_from settings 0)) left;
        goes = subst (λ (ds : List DumpState). GoesOnTelling (g.W.World.state c.args.world.now) (g.W.World.state c.tell-2.new.world) display.log c.tell-2.new.self.teller whole (tells_marks display kinetics settings domain (marks_from settings 0) ds)) (sym left) goes;
      };
      ready = c.tell-2.ensures.ready _ _ (record {
        kept = ready.kept;
        values = ready.values;
        show = show_telling running running.piece c.tell.new.self ready.show.piece (c.tell.ensures.can_tell ready.show.tell) (shows_same _ _ c.tell.ensures.writer) ready.show;
      });
    }

pub step-requires-clause-step : goal.step-requires-clause-step
step-requires-clause-step g c = rw c.steps-step-end.ensures at c.loop-step-test.true

pub step-requires-clause-fits : goal.step-requires-clause-fits
step-requires-clause-fits g c = step_fits c.args.plan.now _ c.args.domain.time _ c.requires.one_sector (rw c.requires.start at (ends_in_time c.args.plan.now c.known.ensures.no_fault)) c.loop-step.invariant.on.has_done.time

pub loop-step-preserved : goal.loop-step-preserved
loop-step-preserved g c = record {
  on = c.step.ensures.runs _ _ _ _ _ c.loop-step.invariant.on;
  ready = c.step.ensures.ready;
}

pub returns-clause-domain : goal.returns-clause-domain
returns-clause-domain g c =
    let all : c.loop-step.step ≡ steps c.args.plan.now = omega (arith, c.steps-step-end.ensures) in
    c.finish.ensures.domain _ c.args.plan.now c.args.domain c.requires.one_sector c.known.ensures.run
    (rw (← all) c.loop-step.invariant.on.has_done)

pub returns-clause-dumps : goal.returns-clause-dumps
returns-clause-dumps g c =
    let past : cycles c.args.plan.now ≤ c.loop-step.step = rw (c.steps-step-end.ensures, steps_are c.args.plan.now c.requires.one_sector) at c.loop-step-test.false in
    c.finish.ensures.dumps ∙ sym (dumps_left_none c.args.plan.now c.args.domain c.loop-step.step c.loop-step.running.dumps past) ∙ c.loop-step.invariant.on.dumps

pub returns-clause-wrote : goal.returns-clause-wrote
returns-clause-wrote g c =
    let past : cycles c.args.plan.now ≤ c.loop-step.step = rw (c.steps-step-end.ensures, steps_are c.args.plan.now c.requires.one_sector) at c.loop-step-test.false in
    rw c.finish.ensures.written (ends_telling _ _ _ _ _ _ (marks_left_none _ _ c.args.plan.now c.args.domain c.loop-step.step c.loop-step.running.dumps past) c.loop-step.invariant.on.goes)
