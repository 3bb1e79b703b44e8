use Rattle.std.proofs.Common.{length}
use Rattle.spk_cmds.proofs.commands.+row_found.Given as goal

abbrev pub decreases-row_found : goal.decreases-row_found
decreases-row_found l = length l.rows.now
