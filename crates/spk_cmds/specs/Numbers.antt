-- Numbers of the command line.
use Rattle.std.specs.Prelude.{◌≡◌, ℕ, ◌≤◌, ◌^◌, List, Result, Ok, Err}
use Rattle.std.specs.Str.Parse.{digits_value}

-- what digits are worth, where 32 bits are enough for it
abbrev pub Fits : {E : Type 0} → List ℕ → Result ℕ E → Type 0
Fits word (Ok n) = digits_value 10 word ≡ n
Fits word (Err e) = 2 ^ 32 ≤ digits_value 10 word
