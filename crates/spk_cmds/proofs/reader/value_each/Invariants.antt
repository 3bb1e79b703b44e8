use Rattle.std.proofs.Common.{◌≡◌, length}
use Rattle.spk_cmds.specs.Forms.{each_valued}
use Rattle.spk_cmds.specs.Views.{kind_seen}
use Rattle.spk_cmds.proofs.reader.value_each.Given as goal

-- the words that are left come to what all do
abbrev pub invariant-loop-left : goal.invariant-loop-left
invariant-loop-left l = each_valued l.values (kind_seen l.kind) l.left ≡ each_valued l.fn.values (kind_seen l.kind) l.fn.words

abbrev pub decreases-loop-left : goal.decreases-loop-left
decreases-loop-left l = length l.left
