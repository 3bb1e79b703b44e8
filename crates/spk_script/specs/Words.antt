-- The words of a line of a script, before names in them are replaced: bare words and quoted ones.
use Rattle.std.specs.Prelude.{ℕ, Bool, true, false, ◌||◌, ◌&&◌, ◌==◌, nat_le, if◌then◌else◌, List, [], ◌∷◌, Option, Some, None}
use Rattle.spk_script.specs.declared.words.Word.{Word}

-- the bytes that a script may have: tab, line feed, carriage return, and those that can be seen
abbrev pub is_allowed : ℕ → Bool
is_allowed b = (b == 9) || (b == 10) || (b == 13) || (nat_le 32 b && nat_le b 126)

abbrev pub is_blank : ℕ → Bool
is_blank b = (b == 32) || (b == 9) || (b == 13)

-- a comment begins at a `#`, and a quoted word begins and ends at a `"`
abbrev pub is_comment : ℕ → Bool
is_comment b = b == 35

abbrev pub is_quote : ℕ → Bool
is_quote b = b == 34

-- what stands before a byte of a line: no word, a part of a bare word, or a quoted word that isn't closed
pub data Context : Type 0 where
  Blank : Context
  Bare : Context
  Quoted : Context

-- one word more before the words, and one byte more before the first word
abbrev pub put_word : Word → Option (List Word) → Option (List Word)
put_word word None = None
put_word word (Some words) = Some (word ∷ words)

abbrev pub put_byte : ℕ → Option (List Word) → Option (List Word)
put_byte b None = None
put_byte b (Some []) = Some []
put_byte b (Some (word ∷ words)) = Some (record word { text = b ∷ word.text } ∷ words)

abbrev pub end_of : Bool → Word
end_of quoted = record { text = []; quoted = quoted }

-- The words of what is left of a line, from the left; the first is the rest of the word that has begun. A comment ends
-- the line outside quotes, also inside a word. A quote that begins a word and has no partner leaves no words at all; a
-- quote inside a bare word is plain. What follows a closing quote begins a new word.
unfoldable pub words_after : Context → List ℕ → Option (List Word)
words_after Blank [] = Some []
words_after Blank (b ∷ text) =
    if is_comment b then Some []
    else (if is_blank b then words_after Blank text
    else (if is_quote b then words_after Quoted text else put_byte b (words_after Bare text)))
words_after Bare [] = Some (end_of false ∷ [])
words_after Bare (b ∷ text) =
    if is_comment b then Some (end_of false ∷ [])
    else (if is_blank b then put_word (end_of false) (words_after Blank text) else put_byte b (words_after Bare text))
words_after Quoted [] = None
words_after Quoted (b ∷ text) = if is_quote b then put_word (end_of true) (words_after Blank text) else put_byte b (words_after Quoted text)

-- the words of a line, where each quote that begins a word is closed
abbrev pub words_of : List ℕ → Option (List Word)
words_of text = words_after Blank text
