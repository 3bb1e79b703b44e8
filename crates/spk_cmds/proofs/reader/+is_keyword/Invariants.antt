use Rattle.std.proofs.Common.{length}
use Rattle.spk_cmds.proofs.reader.+is_keyword.Given as goal

abbrev pub decreases-is_keyword : goal.decreases-is_keyword
decreases-is_keyword l = length l.keywords.now
