use Rattle.std.proofs.Common.{length}
use Rattle.spk_cmds.proofs.option_values.+echo_in.Given as goal

abbrev pub decreases-echo_in : goal.decreases-echo_in
decreases-echo_in l = length l.asked.now
