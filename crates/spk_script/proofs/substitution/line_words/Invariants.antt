use Rattle.std.proofs.Common.{drop}
use Rattle.spk_script.specs.Substitution.{substituted_words}
use Rattle.spk_script.specs.Tables.{environment_of}
use Rattle.spk_script.proofs.LineWords.{HoldsDone}
use Rattle.spk_script.proofs.substitution.line_words.Given as goal

-- the line so far, before the words that are left
abbrev pub invariant-loop-word : goal.invariant-loop-word
invariant-loop-word l =
    HoldsDone (environment_of l.variables) (substituted_words (environment_of l.variables) l.words) l.line (drop l.word-index l.words)
