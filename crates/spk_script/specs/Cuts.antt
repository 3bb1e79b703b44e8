-- The first word of what is left of a line, cut off from it.
use Rattle.std.specs.Prelude.{◌≡◌, ℕ, ◌<◌, Bool, true, false, ◌||◌, List, [], ◌∷◌, Option, Some, None, length}
use Rattle.std.specs.List.{list_all}
use Rattle.std.specs.Str.{IsAscii}
use Rattle.spk_script.specs.declared.words.Word.{Word}
use Rattle.spk_script.specs.declared.words.Cut.{Cut}
use Rattle.spk_script.specs.declared.words.Cut.TheVariants.{End, Open, Next}
use Rattle.spk_script.specs.Words.{is_allowed, is_blank, is_comment, is_quote, Context, put_word, words_after, words_of}

-- the bytes that end a bare word
abbrev pub ends_bare : ℕ → Bool
ends_bare b = is_blank b || is_comment b

-- a text that doesn't begin with a blank, and one that begins with a bare word
abbrev pub BeginsVisibly : List ℕ → Type 0
BeginsVisibly [] = Unit {0}
BeginsVisibly (b ∷ text) = is_blank b ≡ false

abbrev pub BeginsBare : List ℕ → Type 0
BeginsBare [] = ⊥
BeginsBare (b ∷ text) = (is_blank b ≡ false) × (is_comment b ≡ false) × (is_quote b ≡ false)

-- words one by one before those of a rest
abbrev pub put_words : List Word → Option (List Word) → Option (List Word)
put_words [] rest = rest
put_words (word ∷ words) rest = put_word word (put_words words rest)

-- one word before the words of a shorter rest
pub record IsNext (following : Context) (text bytes : List ℕ) (quoted : Bool) (rest : List ℕ) : Type 0 where
  pub words : words_after following text ≡ put_word (record { text = bytes; quoted = quoted }) (words_of rest)
  pub ascii : IsAscii bytes
  pub allowed : list_all is_allowed rest ≡ true
  pub shorter : length rest < length text

-- what a text begins with, after what stands before it
abbrev pub Cuts : Context → List ℕ → Cut → Type 0
Cuts following text End = words_after following text ≡ Some []
Cuts following text Open = words_after following text ≡ None
Cuts following text (Next bytes quoted rest) = IsNext following text bytes.now quoted rest.now
