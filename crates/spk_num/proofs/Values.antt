-- What the digits of a decimal number are worth, with a cap on the whole part and six places.
use Rattle.std.proofs.Common.{◌≡◌, ℕ, ◌+◌, ◌-◌, ◌*◌, ◌^◌, ◌<◌, ◌≤◌, List, [], ◌++◌, length, get_or, take, drop, replicate, min, cond, ltb, Some, None, refl, ap, ◌∙◌, sym, inl, inr, arith, length-take, append-nil}
use Rattle.std.proofs.lemmas.Bool.{cases_lt, cond_above}
use Rattle.std.proofs.lemmas.Bool.Decides.{nat_tests}
use Rattle.std.proofs.lemmas.Int.Digits.{digits_value_more}
use Rattle.std.proofs.lemmas.List.{take_all, take-append-le, drop_all, drop-replicate, take-replicate, get_or-take, get_or_append_left, get_or-append_right, get_or-replicate, length-replicate}
use Rattle.std.proofs.lemmas.List.Folds.{length-prefix_len}
use Rattle.std.proofs.lemmas.List.Sums.{prefix_len_passes}
use Rattle.std.proofs.lemmas.Str.{digit_value_digit}
use Rattle.std.proofs.lemmas.Str.Parse.{numerals_by_value, tells_by_index, digits_value_short}
use Rattle.std.proofs.Math.Seq.{take-append-add}
use Rattle.std.specs.Char.{IsAsciiDigit, is_ascii_digit, digit_value}
use Rattle.std.specs.List.{prefix_len}
use Rattle.std.specs.Prelude.{EachIndex, slice_index, true}
use Rattle.std.specs.Str.Parse.{digits_value}
use Rattle.spk_num.specs.Decimal.{leading_digits}

digit_from_test : (digit : ℕ) → is_ascii_digit digit ≡ true → IsAsciiDigit digit
digit_from_test digit h = grind (arith, nat_tests)

-- the leading digits are digits
pub leading_digits_are_digits : (text : List ℕ) (k : ℕ) → k < length (leading_digits text) → IsAsciiDigit (get_or (leading_digits text) k 0)
leading_digits_are_digits text k h =
    let within : k < prefix_len is_ascii_digit text = rw (length-prefix_len is_ascii_digit text) at h in
    rw (get_or-take (prefix_len is_ascii_digit text) text k 0 within)
    (digit_from_test (get_or text k 0) (prefix_len_passes is_ascii_digit text k 0 within))

pub take_leading_digits : (text : List ℕ) → take (length (leading_digits text)) text ≡ leading_digits text
take_leading_digits text = ap (λ k. take k text) (length-prefix_len is_ascii_digit text)

-- a digit more, under a cap
pub capped_step : (value limit digit : ℕ) → IsAsciiDigit digit → min (min value limit * 10 + (digit - 48)) limit ≡ min (value * 10 + digit_value digit) limit
capped_step value limit digit h = omega (arith, digit_value_digit digit h)

pub ruleset capped = (digits_value_more, capped_step)

-- a list that is filled up to a length, in the two ways to say it
filled_long : (xs : List ℕ) (m y : ℕ) → m ≤ length xs → take m xs ++ drop m (replicate m y) ≡ take m (xs ++ replicate m y)
filled_long xs m y h =
    let none : drop m (replicate m y) ≡ [] = drop_all m (replicate m y) (rw length-replicate (omega arith)) in
    rw (none, take-append-le m xs (replicate m y) h) (append-nil (take m xs))

filled_short : (xs : List ℕ) (n m y : ℕ) → length xs + n ≡ m → take (length xs) xs ++ drop (length xs) (replicate m y) ≡ take m (xs ++ replicate m y)
filled_short xs n m y e =
    let rest : drop (length xs) (replicate m y) ≡ replicate n y =
    let left : m - length xs ≡ n = omega arith in rw (drop-replicate (length xs) m y, left) in
    let part : take n (replicate m y) ≡ replicate n y = take-replicate n m y (omega arith) in
    let whole : take m (xs ++ replicate m y) ≡ xs ++ replicate n y =
    ap (λ k. take k (xs ++ replicate m y)) (sym e) ∙ (take-append-add xs (replicate m y) n ∙ ap (λ ys. xs ++ ys) part) in
    rw (rest, whole, take_all (length xs) xs (omega arith))

filled : (xs : List ℕ) (m y : ℕ) → take (min (length xs) m) xs ++ drop (min (length xs) m) (replicate m y) ≡ take m (xs ++ replicate m y)
filled xs m y =
    elim (cases_lt m (length xs)) [
      | inl long ↦ let is : min (length xs) m ≡ m = omega arith in rw is (filled_long xs m y (omega arith))
      | inr short ↦ let is : min (length xs) m ≡ length xs = omega arith in rw is (filled_short xs (m - length xs) m y (omega arith))
    ]

pub six_places_are : (places : List ℕ) → take (min (length places) 6) places ++ drop (min (length places) 6) (replicate 6 48) ≡ take 6 (places ++ replicate 6 48)
six_places_are places = filled places 6 48

filled_with : (P : ℕ → Type 0) (xs : List ℕ) (m y : ℕ) → EachIndex xs (λ k. P (get_or xs k 0)) → P y → EachIndex (take m (xs ++ replicate m y)) (λ k. P (get_or (take m (xs ++ replicate m y)) k 0))
filled_with P xs m y each here k h =
    let below : k < m = omega (arith, simp length-take at h) in
    rw (get_or-take m (xs ++ replicate m y) k 0 below)
    (elim (cases_lt k (length xs)) [
      | inl before ↦ rw (get_or_append_left xs (replicate m y) 0 k before) (each k before)
      | inr after ↦ rw (get_or-append_right xs (replicate m y) (length xs) k 0 refl after, get_or-replicate m (k - length xs) y 0 (omega arith)) here
    ])

pub six_places_are_digits : (places : List ℕ) → EachIndex places (λ k. IsAsciiDigit (slice_index places k)) → EachIndex (take 6 (places ++ replicate 6 48)) (λ k. IsAsciiDigit (slice_index (take 6 (places ++ replicate 6 48)) k))
six_places_are_digits places digits = filled_with IsAsciiDigit places 6 48 digits (omega arith, omega arith)

pub six_places_below : (places : List ℕ) → EachIndex places (λ k. IsAsciiDigit (slice_index places k)) → digits_value 10 (take 6 (places ++ replicate 6 48)) < 1000000
six_places_below places digits =
    digits_value_short (numerals_by_value _ tells_by_index) (take 6 (places ++ replicate 6 48)) 6
    (six_places_are_digits places digits) (rw length-take (omega arith))

-- where the capped parts are at most 10^18 millionths, nothing was capped
pub uncapped : (units millionths whole places : ℕ) → units ≡ min whole 1000000000001 → millionths ≡ min places 1000000 → places < 1000000 → units * 1000000 + millionths ≤ 10 ^ 18 → Some (units * 1000000 + millionths) ≡ cond (ltb (10 ^ 18) (whole * 1000000 + places)) None (Some (whole * 1000000 + places))
uncapped units millionths whole places u m below small =
    let same : units * 1000000 + millionths ≡ whole * 1000000 + places = omega arith in
    cond_above (10 ^ 18) (whole * 1000000 + places) None (Some (whole * 1000000 + places)) (Some (units * 1000000 + millionths)) (omega arith) (ap Some same)
