-- Printed numbers, as words of a line.
use Rattle.std.proofs.Common.{◌≡◌, ℕ, ◌+◌, ◌/◌, ◌%◌, ◌^◌, ◌<◌, ◌≤◌, true, List, ◌∷◌, length, decimal, Some, refl, arith, rules}
use Rattle.std.proofs.lemmas.Bool.{ltb-true}
use Rattle.std.proofs.lemmas.Bool.Decides.{nat_tests}
use Rattle.std.proofs.lemmas.Fmt.{decimal_nonempty, length-decimal-le, digits_decimal, digits_value-decimal}
use Rattle.std.proofs.lemmas.List.Elements.{All-append, All-cons, All-drop, All-from_get_or, All-weaker}
use Rattle.std.proofs.lemmas.List.Sums.{AllPass-from_list_all}
use Rattle.std.proofs.lemmas.Str.Parse.{IsNumeralModel, numerals_by_value, tells_by_index}
use Rattle.std.specs.Char.{is_ascii_digit}
use Rattle.std.specs.List.{All, list_all}
use Rattle.std.specs.Prelude.{nat_lt, nat_le}
use Rattle.std.specs.Str.Parse.{digits_value}
use Rattle.spk_num.specs.Decimal.{nine_digits, ticks_text}
use Rattle.spk_num.specs.Whole.{whole_of}

-- the test that `whole_of` makes of digits
tells_digits : IsNumeralModel (λ word. list_all is_ascii_digit word ≡ true) (digits_value 10)
tells_digits = numerals_by_value _ (search rules)

-- a printed number is read as that number
pub whole_of_decimal : (n : ℕ) → n < 2 ^ 32 → whole_of (decimal n) ≡ Some n
whole_of_decimal n small =
    let fits : n < 2 ^ 64 = omega arith in
    let digits : list_all is_ascii_digit (decimal n) ≡ true = digits_decimal tells_digits n fits in
    let bytes : 0 < length (decimal n) = decimal_nonempty n fits in
    let few : length (decimal n) ≤ 18 = length-decimal-le 18 n (omega arith) (omega arith) fits in
    let some : nat_lt 0 (length (decimal n)) ≡ true = grind (arith, nat_tests) in
    let short : nat_le (length (decimal n)) 18 ≡ true = grind (arith, nat_tests) in
    let value : digits_value 10 (decimal n) ≡ n = digits_value-decimal tells_digits n fits in
    rw (digits, some, short, value) refl

-- all bytes are above a bound, where a test says so
pub bytes_above : (low : ℕ) (text : List ℕ) → list_all (nat_lt low) text ≡ true → All (λ b. low < b) text
bytes_above low text is =
    All-weaker (λ b. nat_lt low b ≡ true) (λ b. low < b) (λ b above. ltb-true low b above) text (AllPass-from_list_all (nat_lt low) text is)

-- the bytes of a printed number are above those of blanks
pub decimal_above : (n : ℕ) → n < 2 ^ 64 → All (λ b. 32 < b) (decimal n)
decimal_above n fits =
    All-from_get_or (λ b. 32 < b) (decimal n) 0 (λ k within. omega (arith, digits_decimal (numerals_by_value _ tells_by_index) n fits k within))

-- and so are those of a printed time
pub ticks_above : (time : ℕ) → time < 2 ^ 64 → All (λ b. 32 < b) (ticks_text time)
ticks_above time fits =
    All-append (λ b. 32 < b) (decimal (time / 1000000000)) (46 ∷ nine_digits (time % 1000000000)) (decimal_above (time / 1000000000) (omega arith))
    (All-cons (λ b. 32 < b) 46 (nine_digits (time % 1000000000)) (omega arith)
    (All-drop (λ b. 32 < b) 1 (decimal (1000000000 + time % 1000000000)) (decimal_above (1000000000 + time % 1000000000) (omega arith))))
