use Rattle.spk_run.proofs.CommandSteps.{done_out_of_memory, runnable_for, starts_for, trials_for}
use Rattle.spk_run.proofs.state.SessionState.run.Goals as goal

pub returns-in_err-prepared-clause-wrote : goal.returns-in_err-prepared-clause-wrote
returns-in_err-prepared-clause-wrote g c = done_out_of_memory _ _ c.from_residual.ensures.1

pub run_with-requires-clause-runnable : goal.run_with-requires-clause-runnable
run_with-requires-clause-runnable g c = runnable_for c.args.self.now c.args.length c.in-Some.prepared (rw c.in-Some.is at c.in_ok-prepared.ensures) c.requires.free

pub run_with-requires-clause-start : goal.run_with-requires-clause-start
run_with-requires-clause-start g c = starts_for c.args.self.now c.args.length c.in-Some.prepared (rw c.in-Some.is at c.in_ok-prepared.ensures)

pub run_with-requires-clause-sweeps : goal.run_with-requires-clause-sweeps
run_with-requires-clause-sweeps g c = trials_for c.args.self.now c.args.length c.in-Some.prepared (rw c.in-Some.is at c.in_ok-prepared.ensures) c.requires.free
