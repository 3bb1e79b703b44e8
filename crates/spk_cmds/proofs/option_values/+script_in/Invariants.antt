use Rattle.std.proofs.Common.{length}
use Rattle.spk_cmds.proofs.option_values.+script_in.Given as goal

abbrev pub decreases-script_in : goal.decreases-script_in
decreases-script_in l = length l.asked.now
