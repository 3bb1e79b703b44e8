use Rattle.std.proofs.Common.{length}
use Rattle.spk_cmds.proofs.reader.+keyword_kind.Given as goal

abbrev pub decreases-keyword_kind : goal.decreases-keyword_kind
decreases-keyword_kind l = length l.keywords.now
