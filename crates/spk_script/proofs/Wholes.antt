-- The text of a whole number is read as that number.
use Rattle.std.proofs.Common.{◌≡◌, ℕ, ◌*◌, ◌^◌, ◌<◌, true, false, List, [], ◌∷◌, length, Ok, pos, decimal, refl, ap, ◌∙◌, arith}
use Rattle.std.specs.Prelude.{nat_lt, ◌==◌}
use Rattle.std.specs.List.{prefix_len}
use Rattle.std.specs.Char.{is_ascii_digit, digit_value}
use Rattle.std.specs.Str.Parse.{AllDigits, IsNumeral, digits_value}
use Rattle.std.proofs.lemmas.Bool.Decides.{nat_tests}
use Rattle.std.proofs.lemmas.List.{take_all, drop_all}
use Rattle.std.proofs.lemmas.Fmt.{decimal_is_IsNumeral}
use Rattle.spk_num.specs.Decimal.{Numeral, leading_digits, after_digits, places_in, after_places, magnitude, value_of, millionths_of, numeral}

digit_is_digit : (c : ℕ) → digit_value c < 10 → is_ascii_digit c ≡ true
digit_is_digit c below = grind (arith, nat_tests)

digit_is_no_sign : (c : ℕ) → digit_value c < 10 → (c == 45) ≡ false
digit_is_no_sign c below = grind (arith, nat_tests)

all_digits : (ds : List ℕ) → AllDigits 10 ds → prefix_len is_ascii_digit ds ≡ length ds
all_digits [] digits = refl
all_digits (d ∷ ds) digits = rw (digit_is_digit d digits.0) (omega (arith, all_digits ds digits.1))

start_of_digits : (ds : List ℕ) → AllDigits 10 ds → leading_digits ds ≡ ds
start_of_digits ds digits = take_all (prefix_len is_ascii_digit ds) ds (omega (arith, all_digits ds digits))

after_all : (ds : List ℕ) → AllDigits 10 ds → after_digits ds ≡ []
after_all ds digits = drop_all (length (leading_digits ds)) ds (omega (arith, ap length (start_of_digits ds digits)))

abbrev unsigned_numeral : List ℕ → List ℕ → Numeral
unsigned_numeral prefix following = record { negative = false; whole = prefix; places = places_in following; rest = after_places following }

unsigned : (d : ℕ) (ds : List ℕ) → digit_value d < 10 → numeral (d ∷ ds) ≡ unsigned_numeral (leading_digits (d ∷ ds)) (after_digits (d ∷ ds))
unsigned d ds below = rw (digit_is_no_sign d below) refl

numeral_of_digits : (ds : List ℕ) → IsNumeral 10 ds → numeral ds ≡ unsigned_numeral ds []
numeral_of_digits [] digits = absurd (omega (arith, digits.0))
numeral_of_digits (d ∷ ds) digits =
    unsigned d ds digits.1.0 ∙ ap (λ prefix. unsigned_numeral prefix (after_digits (d ∷ ds))) (start_of_digits (d ∷ ds) digits.1)
    ∙ ap (unsigned_numeral (d ∷ ds)) (after_all (d ∷ ds) digits.1)

-- a number with no places, which isn't too large
value_of_whole : (len : ℕ) (ds : List ℕ) (n : ℕ) → 0 < length ds → digits_value 10 ds ≡ n → n < 2 ^ 32 →
    value_of len (unsigned_numeral ds []) ≡ Ok (pos (n * 1000000))
value_of_whole len ds n long is small =
    let some : (length ds == 0) ≡ false = grind (arith, nat_tests) in
    let magnitude_is : magnitude (unsigned_numeral ds []) ≡ n * 1000000 = omega (arith, is) in
    let fits : nat_lt (10 ^ 18) (n * 1000000) ≡ false = grind (arith, nat_tests) in
    rw (some, magnitude_is, fits) refl

pub millionths_of_decimal : (n : ℕ) → n < 2 ^ 32 → millionths_of (decimal n) ≡ Ok (pos (n * 1000000))
millionths_of_decimal n small =
    let is = decimal_is_IsNumeral n (omega arith) in
    ap (value_of (length (decimal n))) (numeral_of_digits (decimal n) is.0)
    ∙ value_of_whole (length (decimal n)) (decimal n) n is.0.0 is.1 small
