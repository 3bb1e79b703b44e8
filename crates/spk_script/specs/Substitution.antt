-- The words of a line with the names in them replaced.
use Rattle.std.specs.Prelude.{ℕ, ◌+◌, ◌-◌, Bool, true, false, ◌==◌, nat_lt, if◌then◌else◌, List, [], ◌∷◌, ◌++◌, length, map, filter, sum, Ok, Err, Result}
use Rattle.std.specs.List.{slice_split}
use Rattle.spk_script.specs.declared.fault.LineFault.{LineFault}
use Rattle.spk_script.specs.declared.words.Word.{Word}
use Rattle.spk_script.specs.declared.fault.LineFault.TheVariants.{LineTooLong, UnknownVariable}
use Rattle.spk_num.specs.Results.{◌>>=◌}
use Rattle.spk_script.specs.Words.{is_blank}
use Rattle.spk_script.specs.Values.{Environment, variable_text}

-- what stands before a byte of a word: text, a `$`, or a `${` with a part of a name
pub data Naming : Type 0 where
  Plain : Naming
  Dollar : Naming
  Braces : List ℕ → Naming

-- text before the substituted rest
abbrev pub put_text : List ℕ → Result (List ℕ) LineFault → Result (List ℕ) LineFault
put_text text rest = rest >>= λ following. Ok (text ++ following)

-- `$c`, of one byte, and `${name}` are replaced by the text of the variable with that name, from the left. That text isn't
-- looked at again. A name that doesn't end is that of no variable.
unfoldable pub substituted_after : Environment → Naming → List ℕ → Result (List ℕ) LineFault
substituted_after variables Plain [] = Ok []
substituted_after variables Plain (b ∷ text) =
    if b == 36 then substituted_after variables Dollar text else put_text (b ∷ []) (substituted_after variables Plain text)
substituted_after variables Dollar [] = Err (UnknownVariable [])
substituted_after variables Dollar (b ∷ text) =
    if b == 123 then substituted_after variables (Braces []) text
    else (variable_text variables (b ∷ []) >>= λ value. put_text value (substituted_after variables Plain text))
substituted_after variables (Braces name) [] = Err (UnknownVariable name)
substituted_after variables (Braces name) (b ∷ text) =
    if b == 125 then (variable_text variables name >>= λ value. put_text value (substituted_after variables Plain text))
    else substituted_after variables (Braces (name ++ b ∷ [])) text

abbrev pub substituted : Environment → List ℕ → Result (List ℕ) LineFault
substituted variables text = substituted_after variables Plain text

-- A word that wasn't quoted is cut at blanks, and is none where nothing else is in it. A quoted one stays.
abbrev pub is_not_empty : List ℕ → Bool
is_not_empty text = nat_lt 0 (length text)

abbrev pub cut_at_blanks : Bool → List ℕ → List (List ℕ)
cut_at_blanks true text = text ∷ []
cut_at_blanks false text = filter is_not_empty (slice_split is_blank text)

-- the words of a line, replaced from the left
unfoldable pub substituted_words : Environment → List Word → Result (List (List ℕ)) LineFault
substituted_words variables [] = Ok []
substituted_words variables (word ∷ words) = do
  text ← substituted variables word.text
  rest ← substituted_words variables words
  Ok (cut_at_blanks word.quoted text ++ rest)

-- the bytes of words with one blank between them
abbrev pub line_length : List (List ℕ) → ℕ
line_length words = sum (map (λ word. length word + 1) words) - 1

abbrev pub fitted : List (List ℕ) → Result (List (List ℕ)) LineFault
fitted words = if nat_lt 4096 (line_length words) then Err LineTooLong else Ok words

-- the words of a line with names replaced, no more than 4096 bytes in all
abbrev pub line_words : Environment → List Word → Result (List (List ℕ)) LineFault
line_words variables words = substituted_words variables words >>= fitted
