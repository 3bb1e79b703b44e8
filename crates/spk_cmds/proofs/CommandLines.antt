-- Reading a command line, word by word.
use Rattle.std.proofs.Common.{◌≡◌, ℕ, ◌+◌, ◌<◌, ◌≤◌, Bool, true, false, cond, List, [], ◌∷◌, length, map, Option, Some, None, Result, Ok, Err, refl, sym, ap, ◌∙◌, subst, arith}
use Rattle.std.specs.Prelude.{IfOk}
use Rattle.spk_cmds.specs.declared.options.Options.{Options}
use Rattle.spk_cmds.specs.declared.options.Usage.{Usage}
use Rattle.spk_cmds.specs.declared.options.Usage.TheVariants.{Word}
use Rattle.spk_cmds.specs.CommandLine.{Line, is_an_option, named_by, script_in, word_read, finished, options_from, options_of}
use Rattle.spk_cmds.specs.Inputs.{IsFile}
use Rattle.spk_cmds.specs.Usages.{OptionsTo}
use Rattle.spk_cmds.proofs.ReaderSteps.{after_one}
use Rattle.spk_cmds.proofs.SomeWords.{StandsAt, one_and_more}

-- no word more, one more, and one that can't stand there
end_of : (line : Line) (place : ℕ) → options_from line place [] ≡ finished line place
unfolding options_from
end_of line place = refl

next_of : (line next : Line) (place : ℕ) (word : List ℕ) (words : List (List ℕ)) → word_read line place word ≡ Some next →
    options_from line place (word ∷ words) ≡ options_from next (place + 1) words
unfolding options_from
next_of line next place word words is = rw (is, options_from) refl

bad_of : (line : Line) (place : ℕ) (word : List ℕ) (words : List (List ℕ)) → word_read line place word ≡ None → options_from line place (word ∷ words) ≡ Err place
unfolding options_from
bad_of line place word words is = rw (is, options_from) refl

-- the same of words that have bytes
module _ {A : Type 0} (bytes : A → List ℕ) (left : List A) (word : A) (line : Line) (place : ℕ) (some : 1 ≤ length left) (first : StandsAt left 0 word) where
  pub one_word_more : (next : Line) → word_read line place (bytes word) ≡ Some next → options_from line place (map bytes left) ≡ options_from next (place + 1) (map bytes (after_one left))
  one_word_more next is =
      sym (ap (λ ws. options_from line place (map bytes ws)) (one_and_more left word some first)) ∙ next_of line next place (bytes word) (map bytes (after_one left)) is

  pub one_bad_word : word_read line place (bytes word) ≡ None → options_from line place (map bytes left) ≡ Err place
  one_bad_word is = sym (ap (λ ws. options_from line place (map bytes ws)) (one_and_more left word some first)) ∙ bad_of line place (bytes word) (map bytes (after_one left)) is

-- where no words are left, what is finished is that of the whole
pub all_read : {A : Type 0} (bytes : A → List ℕ) (left : List A) (line : Line) (place : ℕ) (whole : Result Options ℕ) (result : Result Options Usage) →
    length left < 1 → options_from line place (map bytes left) ≡ whole → OptionsTo (finished line place) result → OptionsTo whole result
all_read bytes [] line place whole result none is to = subst (λ plain. OptionsTo plain result) (sym (end_of line place) ∙ is) to
all_read bytes (word ∷ left) line place whole result none is to = absurd (omega arith)

pub its_options : (plain : Result Options ℕ) (result : Result Options Usage) → OptionsTo plain result → IfOk result (λ options. plain ≡ Ok options)
its_options plain (Ok options) to = to
its_options plain (Err usage) to = tt

pub its_place : (plain : Result Options ℕ) (result : Result Options Usage) (at : ℕ) → OptionsTo plain result → result ≡ Err (Word at) → plain ≡ Err at
its_place plain result at to is = subst (OptionsTo plain) is to

-- the script comes from a file
abbrev NamesFile : Result Options ℕ → Type 0
NamesFile (Ok options) = IsFile options.input
NamesFile (Err place) = Unit {0}

ends_named : (line : Line) (place : ℕ) (an_option : Bool) (script : Option (List ℕ)) → NamesFile (cond an_option (named_by line.vars line.asked place script) (Err place))
ends_named line place true None = tt
ends_named line place true (Some script) = tt
ends_named line place false script = tt

from_file_by : (words : List (List ℕ)) (line : Line) (place : ℕ) (word : List ℕ) (read : Option Line) → ((next : Line) (place : ℕ) → NamesFile (options_from next place words)) →
    word_read line place word ≡ read → NamesFile (options_from line place (word ∷ words))
from_file_by words line place word None others is = rw (bad_of line place word words is) tt
from_file_by words line place word (Some next) others is = rw (next_of line next place word words is) (others next (place + 1))

from_file : (words : List (List ℕ)) (line : Line) (place : ℕ) → NamesFile (options_from line place words)
from_file [] line place = rw (end_of line place) (ends_named line place (is_an_option line.awaited) (script_in line.asked))
from_file (word ∷ words) line place = from_file_by words line place word (word_read line place word) (from_file words) refl

pub its_input : (words : List (List ℕ)) (result : Result Options Usage) → OptionsTo (options_of words) result → IfOk result (λ options. IsFile options.input)
its_input words (Ok options) to = let names : NamesFile (Ok options) = subst NamesFile to (from_file words _ 1) in names
its_input words (Err usage) to = tt
