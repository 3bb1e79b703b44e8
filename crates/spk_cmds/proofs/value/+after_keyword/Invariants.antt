use Rattle.std.proofs.Common.{length}
use Rattle.spk_cmds.proofs.value.+after_keyword.Given as goal

abbrev pub decreases-after_keyword : goal.decreases-after_keyword
decreases-after_keyword l = length l.pairs.now
