use Rattle.std.proofs.Common.{◌≡◌, length}
use Rattle.spk_cmds.specs.Forms.{each_formed}
use Rattle.spk_cmds.specs.Views.{kind_seen}
use Rattle.spk_cmds.proofs.reader.judge_each.Given as goal

-- the words that are left come to what all do
abbrev pub invariant-loop-left : goal.invariant-loop-left
invariant-loop-left l = each_formed (kind_seen l.kind) l.left ≡ each_formed (kind_seen l.kind) l.fn.words

abbrev pub decreases-loop-left : goal.decreases-loop-left
decreases-loop-left l = length l.left
