use Rattle.std.proofs.Common.{◌≡◌, ◌<◌, length, arith}
use Rattle.std.proofs.lemmas.Bool.Decides.{nat_tests}
use Rattle.spk_run.proofs.Outputs.{no_log, empty_for_log, log_written, log_failed}
use Rattle.spk_run.proofs.output.Output.log.Goals as goal

pub returns-in_default-clause-wrote : goal.returns-in_default-clause-wrote
returns-in_default-clause-wrote g c = no_log _ _ _ c.in_default.is

pub returns-then-is_empty-clause-wrote : goal.returns-then-is_empty-clause-wrote
returns-then-is_empty-clause-wrote g c =
    let empty : length c.args.text.now ≡ 0 = grind (arith, nat_tests) in
    empty_for_log _ _ _ _ c.in-Some.is empty

pub returns-in-Ok-clause-wrote : goal.returns-in-Ok-clause-wrote
returns-in-Ok-clause-wrote g c =
    let some : 0 < length c.args.text.now = grind (arith, nat_tests) in
    log_written _ _ _ _ _ c.in-Some.is some (rw (← c.as_str.ensures) c.in-Ok.ensures.ok) c.in-Ok.ensures.cause

pub returns-in-Err-clause-wrote : goal.returns-in-Err-clause-wrote
returns-in-Err-clause-wrote g c =
    let some : 0 < length c.args.text.now = grind (arith, nat_tests) in
    rw c.log_target.ensures (log_failed _ _ _ _ _ _ c.in-Some.is some (rw (← c.as_str.ensures) c.in-Err.ensures.err) c.in-Err.ensures.cause)
