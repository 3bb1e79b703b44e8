-- How many bytes a printed number has.
use Rattle.std.proofs.Common.{ℕ, ◌+◌, ◌/◌, ◌^◌, ◌<◌, ◌≤◌, length, decimal, arith}
use Rattle.std.proofs.lemmas.Fmt.{decimal_nonempty, length-decimal-le}

pub length_decimal : (n : ℕ) → n < 2 ^ 64 → length (decimal n) ≤ 20
length_decimal n h = length-decimal-le 20 n (omega arith) (omega arith) h

-- a fraction with a leading 1, of six digits
pub length_six_digits : (n : ℕ) → n < 1000000 → length (decimal (1000000 + n)) ≤ 7
length_six_digits n h = length-decimal-le 7 (1000000 + n) (omega arith) (omega arith) (omega arith)

-- the whole part of a time
pub length_whole_time : (n : ℕ) → n < 2 ^ 64 → length (decimal (n / 1000000000)) ≤ 11
length_whole_time n h = length-decimal-le 11 (n / 1000000000) (omega arith) (omega arith) (omega arith)

pub ruleset lengths = (decimal_nonempty, length_decimal, length_six_digits)
