-- Whole numbers: how a word is read as one. The rule is our own.
use Rattle.std.specs.Prelude.{ℕ, ◌&&◌, nat_lt, nat_le, if◌then◌else◌, List, length, Option, Some, None}
use Rattle.std.specs.Option.{option_and_then}
use Rattle.std.specs.List.{list_all}
use Rattle.std.specs.Char.{is_ascii_digit}
use Rattle.std.specs.Str.Parse.{digits_value}

-- a number in a range, both ends taken
abbrev pub within : ℕ → ℕ → ℕ → Option ℕ
within low high n = if nat_le low n && nat_le n high then Some n else None

-- a whole number has 1 to 18 digits
abbrev pub whole_of : List ℕ → Option ℕ
whole_of word = if list_all is_ascii_digit word && nat_lt 0 (length word) && nat_le (length word) 18 then Some (digits_value 10 word) else None

abbrev pub whole_within : ℕ → ℕ → List ℕ → Option ℕ
whole_within low high word = option_and_then (within low high) (whole_of word)
