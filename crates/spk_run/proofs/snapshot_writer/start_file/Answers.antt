use Rattle.spk_run.proofs.SnapshotWrites.{not_started, file_started, file_not_started}
use Rattle.spk_run.proofs.snapshot_writer.start_file.Goals as goal

pub returns-then-not-starting : goal.returns-then-not-starting
returns-then-not-starting g c = not_started _ c.args.name.now c.args.starting c.if-not-starting.true

pub returns-in-Ok : goal.returns-in-Ok
returns-in-Ok g c = file_started _ _ c.args.name.now c.args.starting c.if-not-starting.false c.in-Ok.ensures.ok c.in-Ok.ensures.cause

pub returns-in-Err : goal.returns-in-Err
returns-in-Err g c = file_not_started _ _ c.args.name.now c.args.starting c.in-Err.failed c.if-not-starting.false c.in-Err.ensures.err c.in-Err.ensures.cause
