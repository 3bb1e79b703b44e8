use Rattle.std.proofs.Common.{◌∙◌, sym}
use Rattle.spk_run.specs.Prepared.{display_for, kinetics_for}
use Rattle.spk_run.proofs.CommandSteps.{nothing_runs, runs_whole, runs_no_further, run_session}
use Rattle.spk_run.proofs.state.SessionState.run_with.Goals as goal

pub returns-in_default-clause-wrote : goal.returns-in_default-clause-wrote
returns-in_default-clause-wrote g c = nothing_runs _ _ _ _ _ (sym c.take.ensures.value ∙ c.in_default.is) c.take.ensures.after

pub returns-in_err-written-clause-wrote : goal.returns-in_err-written-clause-wrote
returns-in_err-written-clause-wrote g c =
    runs_no_further _ _ c.args.self.now _ (display_for c.args.prepared) (kinetics_for c.args.prepared) c.args.prepared.plan c.in-Some.domain _ _ c.from_residual.ensures.1 (sym c.take.ensures.value ∙ c.in-Some.is)
    (rw (c.in_err-written.was, c.replace-dumps.ensures.value) at c.run-domain.ensures.wrote)

pub returns-in_err-written-clause-session : goal.returns-in_err-written-clause-session
returns-in_err-written-clause-session g c =
    run_session _ c.args.self.now (display_for c.args.prepared) (kinetics_for c.args.prepared) c.args.prepared.plan c.in-Some.domain _ _ _ _ c.from_residual.ensures.1 (sym c.take.ensures.value ∙ c.in-Some.is)
    c.run-domain.ensures.domain (rw c.replace-dumps.ensures.value at c.run-domain.ensures.dumps)

pub returns-clause-wrote : goal.returns-clause-wrote
returns-clause-wrote g c =
    runs_whole _ _ c.args.self.now (display_for c.args.prepared) (kinetics_for c.args.prepared) c.args.prepared.plan c.in-Some.domain _ _ (sym c.take.ensures.value ∙ c.in-Some.is)
    c.run-domain.ensures.domain (rw c.replace-dumps.ensures.value at c.run-domain.ensures.dumps) (rw (c.in_ok-written.was, c.replace-dumps.ensures.value) at c.run-domain.ensures.wrote)
