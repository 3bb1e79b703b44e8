-- Words that are digits, read as a number of 32 bits.
use Rattle.std.proofs.Common.{◌≡◌, ℕ, ◌^◌, ◌<◌, true, List, length, Result, Ok, Err, inl, inr, sym, rules}
use Rattle.std.proofs.lemmas.Bool.{cases_lt}
use Rattle.std.proofs.lemmas.Str.Parse.{IsNumeralModel, numerals_by_value, parse_digits}
use Rattle.std.specs.Char.{is_ascii_digit}
use Rattle.std.specs.List.{list_all}
use Rattle.std.specs.Result.{OkIff}
use Rattle.std.specs.Str.Parse.{digits_value, ParsesUnsigned}
use Rattle.spk_cmds.specs.Numbers.{Fits}

tells_digits : IsNumeralModel (λ word. list_all is_ascii_digit word ≡ true) (digits_value 10)
tells_digits = numerals_by_value _ (search rules)

by_cases : {E : Type 0} (word : List ℕ) (read : Result ℕ E) → OkIff read ((0 < length word) × (digits_value 10 word < 2 ^ 32)) (digits_value 10 word) → 0 < length word → Fits word read
by_cases word (Ok n) is some = sym is.1
by_cases word (Err e) is some =
    elim (cases_lt (digits_value 10 word) (2 ^ 32)) [
      | inl less ↦ absurd (is (some, less))
      | inr more ↦ more
    ]

-- digits are read as what they are worth, where that fits
pub digits_fit : {E : Type 0} (word : List ℕ) (read : Result ℕ E) → ParsesUnsigned 32 10 word read → list_all is_ascii_digit word ≡ true → 0 < length word → Fits word read
digits_fit word read parses digits some = by_cases word read (parse_digits tells_digits 32 word read parses digits) some
