use Rattle.std.proofs.Common.{◌≡◌, length, take}
use Rattle.spk_patch.proofs.values.copy_words.Given as goal

abbrev pub invariant-words : goal.invariant-words
invariant-words l = record {
  all : length l.bytes.items ≡ length l.words;
  so_far : take l.i l.bytes.items ≡ take l.i l.words;
}
