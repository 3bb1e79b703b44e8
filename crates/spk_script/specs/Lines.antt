-- The logical lines of a script: its physical lines, joined where one continues in the next, each with its words.
use Rattle.std.specs.Prelude.{◌≡◌, ℕ, ◌+◌, ◌-◌, Bool, false, not, ◌==◌, nat_lt, if◌then◌else◌, List, [], ◌∷◌, ◌++◌, length, get_or, take, map, reverse, Option, Some, None, Result, Ok, Err}
use Rattle.std.specs.List.{slice_split, position, concat, find}
use Rattle.spk_script.specs.declared.words.Word.{Word}
use Rattle.spk_script.specs.declared.script.ScriptFault.{ScriptFault}
use Rattle.spk_script.specs.declared.script.ScriptFault.TheVariants.{TooLong, NotAscii, TooManyLines, OpenQuote, Memory}
use Rattle.spk_script.specs.Words.{is_allowed, is_blank, words_of}

-- a logical line: the number of its first physical line, counted from 1, these lines as they stand, each with a line
-- feed, and the words
pub record LogicalLine : Type 0 where
  pub number : ℕ
  pub raw : List ℕ
  pub words : List Word

-- a line with a word is a command
abbrev pub is_command : LogicalLine → Bool
is_command line = nat_lt 0 (length line.words)

-- the physical lines, without their line feeds; where nothing stands after the last line feed, that is no line
abbrev pub is_empty_at_end : List (List ℕ) → Bool
is_empty_at_end parts = length (get_or parts (length parts - 1) []) == 0

abbrev pub without_empty_end : List (List ℕ) → List (List ℕ)
without_empty_end parts = if is_empty_at_end parts then take (length parts - 1) parts else parts

abbrev pub physical_lines : List ℕ → List (List ℕ)
physical_lines script = without_empty_end (slice_split (λ b. b == 10) script)

-- A line continues in the next where its last byte that isn't blank is an ampersand. It gives then what stands before this
-- one, and else all that it has.
abbrev pub past_blanks : List ℕ → List ℕ
past_blanks [] = []
past_blanks (b ∷ bytes) = if is_blank b then past_blanks bytes else b ∷ bytes

abbrev pub from_end : List ℕ → List ℕ
from_end line = past_blanks (reverse line)

abbrev pub continues_by : List ℕ → Bool
continues_by [] = false
continues_by (b ∷ before) = b == 38

abbrev pub given_by : List ℕ → List ℕ → List ℕ
given_by line [] = line
given_by line (b ∷ before) = if b == 38 then reverse before else line

abbrev pub continues : List ℕ → Bool
continues line = continues_by (from_end line)

abbrev pub given : List ℕ → List ℕ
given line = given_by line (from_end line)

-- The physical lines of each logical line: all but the last continue. After the script's last line nothing is joined.
abbrev pub with_first : List ℕ → List (List (List ℕ)) → List (List (List ℕ))
with_first line [] = (line ∷ []) ∷ []
with_first line (run ∷ runs) = (line ∷ run) ∷ runs

abbrev pub runs_of : List (List ℕ) → List (List (List ℕ))
runs_of [] = []
runs_of (line ∷ lines) = if continues line then with_first line (runs_of lines) else (line ∷ []) ∷ runs_of lines

-- what is echoed of a logical line, and what its words are cut from
abbrev pub raw_of : List (List ℕ) → List ℕ
raw_of run = concat (map (λ line. line ++ 10 ∷ []) run)

abbrev pub text_of : List (List ℕ) → List ℕ
text_of run = concat (map given run)

-- a logical line with this number, where its quotes are closed
abbrev pub with_words : ℕ → List ℕ → Option (List Word) → Option LogicalLine
with_words number raw None = None
with_words number raw (Some words) = Some (record { number = number; raw = raw; words = words })

abbrev pub logical_line : ℕ → List (List ℕ) → Option LogicalLine
logical_line number run = with_words number (raw_of run) (words_of (text_of run))

-- the logical lines from a number on, or the number of the first one in which a quote isn't closed
abbrev pub put_line : ℕ → Option LogicalLine → Result (List LogicalLine) ScriptFault → Result (List LogicalLine) ScriptFault
put_line number None lines = Err (OpenQuote number)
put_line number (Some line) (Err fault) = Err fault
put_line number (Some line) (Ok lines) = Ok (line ∷ lines)

abbrev pub logical_lines : ℕ → List (List (List ℕ)) → Result (List LogicalLine) ScriptFault
logical_lines number [] = Ok []
logical_lines number (run ∷ runs) = put_line number (logical_line number run) (logical_lines (number + length run) runs)

-- The logical lines of a script, or its first fault: it has more than 1048576 bytes, a byte at this place that no script
-- may have, more than 100000 physical lines, or a quote that isn't closed.
abbrev pub lines_of_few : List (List ℕ) → Result (List LogicalLine) ScriptFault
lines_of_few lines = if nat_lt 100000 (length lines) then Err TooManyLines else logical_lines 1 (runs_of lines)

abbrev pub lines_of_allowed : List ℕ → Option ℕ → Result (List LogicalLine) ScriptFault
lines_of_allowed script (Some place) = Err (NotAscii place)
lines_of_allowed script None = lines_of_few (physical_lines script)

abbrev pub lines_of : List ℕ → Result (List LogicalLine) ScriptFault
lines_of script =
    if nat_lt 1048576 (length script) then Err TooLong else lines_of_allowed script (position (λ b. not (is_allowed b)) script)

-- out of memory is no fault of the script
abbrev pub IsFault : Result (List LogicalLine) ScriptFault → ScriptFault → Type 0
IsFault lines TooLong = lines ≡ Err TooLong
IsFault lines (NotAscii place) = lines ≡ Err (NotAscii place)
IsFault lines TooManyLines = lines ≡ Err TooManyLines
IsFault lines (OpenQuote number) = lines ≡ Err (OpenQuote number)
IsFault lines Memory = Unit

-- the logical line with this number
abbrev pub line_numbered : List LogicalLine → ℕ → Option LogicalLine
line_numbered lines number = find (λ line. line.number == number) lines
