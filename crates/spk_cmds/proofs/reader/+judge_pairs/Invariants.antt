use Rattle.std.proofs.Common.{◌-◌, length}
use Rattle.spk_cmds.proofs.reader.+judge_pairs.Given as goal

abbrev pub decreases-judge_pairs : goal.decreases-judge_pairs
decreases-judge_pairs l = length l.words.now - l.place
