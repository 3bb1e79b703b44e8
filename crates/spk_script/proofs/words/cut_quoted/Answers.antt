use Rattle.std.proofs.Common.{sym}
use Rattle.spk_script.proofs.Cuts.{quoted_next}
use Rattle.spk_script.proofs.words.cut_quoted.Goals as goal

pub returns-in-Some : goal.returns-in-Some
returns-in-Some c = quoted_next c.args.text.now c.in-Some.end (sym c.in-Some.ensures) c.requires
