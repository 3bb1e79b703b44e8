use Rattle.std.proofs.Common.{length}
use Rattle.spk_cmds.proofs.option_values.+workers_in.Given as goal

abbrev pub decreases-workers_in : goal.decreases-workers_in
decreases-workers_in l = length l.asked.now
