use Rattle.std.proofs.Common.{◌≡◌, take}
use Rattle.spk_script.proofs.commands.variable.values_of.Given as goal

abbrev pub invariant-loop-word : goal.invariant-loop-word
invariant-loop-word l = l.values ≡ take l.word-index l.words
