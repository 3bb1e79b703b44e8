use Rattle.std.proofs.Common.{length}
use Rattle.spk_cmds.proofs.option_values.+log_in.Given as goal

abbrev pub decreases-log_in : goal.decreases-log_in
decreases-log_in l = length l.asked.now
