use Rattle.spk_run.proofs.Outputs.{no_log_started, log_started, log_not_started}
use Rattle.spk_run.proofs.output.Output.start_log.Goals as goal

pub returns-in_default : goal.returns-in_default
returns-in_default g c = no_log_started _ _ c.in_default.is

pub returns-in-Ok : goal.returns-in-Ok
returns-in-Ok g c = log_started _ _ _ _ c.in-Some.is (rw (← c.as_str.ensures) c.in-Ok.ensures.ok) c.in-Ok.ensures.cause

pub returns-in-Err : goal.returns-in-Err
returns-in-Err g c =
    rw c.log_target.ensures (log_not_started _ _ _ _ _ c.in-Some.is (rw (← c.as_str.ensures) c.in-Err.ensures.err) c.in-Err.ensures.cause)
