use Rattle.std.proofs.Common.{length}
use Rattle.spk_cmds.proofs.commands.+styled_found.Given as goal

abbrev pub decreases-styled_found : goal.decreases-styled_found
decreases-styled_found l = length l.styles.now
