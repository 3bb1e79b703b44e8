use Rattle.std.proofs.Common.{length}
use Rattle.spk_cmds.proofs.reader.+value_all.Given as goal

abbrev pub decreases-value_all : goal.decreases-value_all
decreases-value_all l = length l.kinds.now
