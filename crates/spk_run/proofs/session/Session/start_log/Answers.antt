use Rattle.spk_run.proofs.CommandSteps.{out_of_memory, write_failed}
use Rattle.spk_run.proofs.session.Session.start_log.Goals as goal

pub returns-in_err-output : goal.returns-in_err-output
returns-in_err-output g c = out_of_memory _ c.from_residual.ensures.1

pub returns-in_err-start_log : goal.returns-in_err-start_log
returns-in_err-start_log g c = write_failed _ _ c.from_residual-in_err-start_log.ensures.1 (rw c.in_ok-output.ensures at c.in_err-start_log.ensures)
