use Rattle.std.proofs.Common.{Err, ◌∙◌}
use Rattle.spk_run.proofs.Sessions.{command_out_of_memory}
use Rattle.spk_run.proofs.SiteFileReads.{found_file, missing_file, long_file, file_read, read_without_memory, bytes_read, not_read}
use Rattle.spk_run.proofs.state.SessionState.read_sites.Goals as goal

pub returns-in_err-name-clause-wrote : goal.returns-in_err-name-clause-wrote
returns-in_err-name-clause-wrote g c = command_out_of_memory _ _ c.from_residual.ensures.1

pub returns-in-Ok-clause-wrote : goal.returns-in-Ok-clause-wrote
returns-in-Ok-clause-wrote g c =
    bytes_read c.args.self.now c.read_bytes.new.self c.args.file.now c.as_str-2.result.now c.in-Ok.bytes _ c.read_bytes.result c.as_str-2.ensures c.in-Ok.ensures.same c.in-Ok.ensures.cause
    (found_file c.args.self.now (g.W.World.state c.args.world.now).told c.args.file.now c.as_str-2.result.now c.in-Ok.bytes c.in-Ok.ensures.content)
    (rw c.deref.ensures.value at c.read_bytes.ensures.read)

pub returns-in-Err-Missing-clause-wrote : goal.returns-in-Err-Missing-clause-wrote
returns-in-Err-Missing-clause-wrote g c =
    rw (c.in_ok-name.ensures, c.as_str.ensures)
    (file_read c.args.self.now c.args.file.now c.as_str-2.result.now (Err c.in-Err-Missing.field-0) _ c.as_str-2.ensures c.in-Err-Missing.ensures.same c.in-Err-Missing.ensures.cause
    (missing_file c.args.self.now (g.W.World.state c.args.world.now).told c.args.file.now c.as_str-2.result.now (rw c.in-Err-Missing.field-0-is at c.in-Err-Missing.ensures.content)))

pub returns-in-Err-TooLong-clause-wrote : goal.returns-in-Err-TooLong-clause-wrote
returns-in-Err-TooLong-clause-wrote g c =
    rw (c.in_ok-name.ensures, c.as_str.ensures)
    (file_read c.args.self.now c.args.file.now c.as_str-2.result.now (Err c.in-Err-TooLong.field-0) _ c.as_str-2.ensures c.in-Err-TooLong.ensures.same c.in-Err-TooLong.ensures.cause
    (long_file c.args.self.now (g.W.World.state c.args.world.now).told c.args.file.now c.as_str-2.result.now (rw c.in-Err-TooLong.field-0-is at c.in-Err-TooLong.ensures.content)))

pub returns-in-Err-Failed-clause-wrote : goal.returns-in-Err-Failed-clause-wrote
returns-in-Err-Failed-clause-wrote g c =
    not_read c.args.self.now c.args.file.now c.in_ok-name.name (c.in_ok-name.ensures ∙ c.as_str.ensures) c.in-Err-Failed.ensures.same (rw c.in-Err-Failed.field-0-is at c.in-Err-Failed.ensures.cause)

pub returns-in-Err-Memory-clause-wrote : goal.returns-in-Err-Memory-clause-wrote
returns-in-Err-Memory-clause-wrote g c =
    read_without_memory c.args.self.now c.args.file.now (Err c.in-Err-Memory.field-0) c.in-Err-Memory.ensures.same c.in-Err-Memory.ensures.cause
