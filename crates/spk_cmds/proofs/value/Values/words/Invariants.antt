use Rattle.std.proofs.Common.{◌≡◌, take}
use Rattle.spk_cmds.specs.Values.{words_of}
use Rattle.spk_cmds.proofs.value.Values.words.Given as goal

abbrev pub invariant-loop-value : goal.invariant-loop-value
invariant-loop-value l = l.words.items ≡ words_of (take l.value-index l.value-items)
