use Rattle.std.proofs.Common.{length}
use Rattle.spk_cmds.proofs.reader.+value_pairs.Given as goal

abbrev pub decreases-value_pairs : goal.decreases-value_pairs
decreases-value_pairs l = length l.words.now
