use Rattle.std.proofs.Common.{◌≡◌, true, length}
use Rattle.std.specs.List.{list_all}
use Rattle.spk_script.specs.Words.{is_allowed, words_of}
use Rattle.spk_script.specs.Cuts.{put_words}
use Rattle.spk_script.proofs.words.words_of.Given as goal

-- the words so far stand before those of what is left
abbrev pub invariant-loop-words : goal.invariant-loop-words
invariant-loop-words l = record {
  words : words_of l.fn.text ≡ put_words l.words.items (words_of l.left);
  allowed : list_all is_allowed l.left ≡ true;
}

abbrev pub decreases-loop-words : goal.decreases-loop-words
decreases-loop-words l = length l.left
