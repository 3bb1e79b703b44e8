-- The words of a line while it is read from the left.
use Rattle.std.specs.Prelude.{◌≡◌, ℕ, ◌+◌, ◌<◌, Bool, true, false, if◌then◌else◌, List, [], ◌∷◌, ◌++◌, length, filter, Ok, string_bytes}
use Rattle.std.specs.List.{sum_by}
use Rattle.spk_script.specs.declared.line_buffer.LineBuffer.{LineBuffer}
use Rattle.spk_script.specs.declared.words.Word.{Word}
use Rattle.spk_script.specs.Words.{is_blank}
use Rattle.spk_script.specs.Values.{Environment}
use Rattle.spk_script.specs.Substitution.{is_not_empty, substituted}

-- the words that have ended, and the text of the word that hasn't
pub record OpenLine : Type 0 where
  pub words : List (List ℕ)
  pub text : List ℕ

-- the bytes of the words with one blank after each, and those of the open word
abbrev pub size_of : OpenLine → ℕ
size_of line = sum_by (λ word. length word + 1) line.words + length line.text

abbrev pub with_text : OpenLine → List ℕ → OpenLine
with_text line text = record line { text = line.text ++ text }

-- a word that wasn't quoted and has no text is none
abbrev pub last_word : Bool → List ℕ → List (List ℕ)
last_word true text = text ∷ []
last_word false text = filter is_not_empty (text ∷ [])

abbrev pub ended : Bool → OpenLine → OpenLine
ended quoted line = record { words = line.words ++ last_word quoted line.text; text = [] }

-- text that wasn't quoted ends a word at each blank
unfoldable pub with_bare : OpenLine → List ℕ → OpenLine
with_bare line [] = line
with_bare line (b ∷ text) = if is_blank b then with_bare (ended false line) text else with_bare (with_text line (b ∷ [])) text

abbrev pub with_part : Bool → OpenLine → List ℕ → OpenLine
with_part true line text = with_text line text
with_part false line text = with_bare line text

-- Up to the limit a buffer keeps the line and the bytes that are left. Past it only that the line is too long is known.
pub record IsKept (buffer : LineBuffer) (line : OpenLine) : Type 0 where
  pub words : buffer.words.items ≡ line.words
  pub text : string_bytes buffer.text ≡ line.text
  pub room : buffer.room + size_of line ≡ 4097

abbrev pub HoldsBy : Bool → LineBuffer → OpenLine → Type 0
HoldsBy true buffer line = 4097 < size_of line
HoldsBy false buffer line = IsKept buffer line

abbrev pub Holds : LineBuffer → OpenLine → Type 0
Holds buffer line = HoldsBy buffer.too_long buffer line

-- the text of a word, by which a buffer has been extended
pub record IsExtended (variables : Environment) (word : Word) (before now : LineBuffer) : Type 0 where
  pub text : List ℕ
  pub is : substituted variables word.text ≡ Ok text
  pub holds : (line : OpenLine) → Holds before line → Holds now (ended word.quoted (with_part word.quoted line text))

-- the part of a text up to its first blank, and what comes after that
pub record IsCut (text part rest : List ℕ) : Type 0 where
  pub is : (line : OpenLine) → with_bare line text ≡ with_bare (ended false (with_text line part)) rest
  pub shorter : length rest < length text
