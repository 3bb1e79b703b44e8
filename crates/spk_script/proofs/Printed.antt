-- Printed numbers are ASCII.
use Rattle.std.proofs.Common.{ℕ, zero, suc, ◌+◌, ◌/◌, ◌%◌, ◌<◌, true, false, cond, List, [], ◌∷◌, ◌++◌, ◌==◌, decimal, ℤ, pos, arith}
use Rattle.std.specs.Prelude.{int_lt, unsigned_abs}
use Rattle.std.specs.Fmt.{digits, digits_onto, digit_glyph}
use Rattle.std.specs.List.{All}
use Rattle.std.specs.Str.{IsAscii}
use Rattle.std.proofs.lemmas.Bool.Decides.{nat_tests}
use Rattle.std.proofs.lemmas.List.Elements.{All-nil, All-cons, All-head, All-tail, All-append, All-drop}
use Rattle.std.proofs.lemmas.Str.Ascii.{IsAscii-from_all}
use Rattle.spk_num.specs.Decimal.{onto_trimmed, without_last_zeros, six_digits, fraction_text, sign_text, decimal_text}

abbrev IsAsciiByte : ℕ → Type 0
IsAsciiByte b = b < 128

-- the digits of a number
digit_holds : (d : ℕ) → d < 10 → digit_glyph false d < 128
digit_holds d small = grind (arith, nat_tests)

digits_hold : (k n : ℕ) (acc : List ℕ) → All IsAsciiByte acc → All IsAsciiByte (digits_onto k 10 false n acc)
digits_hold zero n acc holds = holds
digits_hold (suc k) n acc holds =
    let more = digit_glyph false (n % 10) ∷ acc in
    let small : digit_glyph false (n % 10) < 128 = digit_holds (n % 10) (omega arith) in
    let more_hold : All IsAsciiByte more = All-cons IsAsciiByte (digit_glyph false (n % 10)) acc small holds in
    elim (n / 10 == 0) as (λ c. All IsAsciiByte (cond c more (digits_onto k 10 false (n / 10) more))) [
      | true ↦ more_hold
      | false ↦ digits_hold k (n / 10) more more_hold
    ]

decimal_holds : (n : ℕ) → All IsAsciiByte (decimal n)
unfolding digits
decimal_holds n = digits_hold 64 n [] (All-nil IsAsciiByte)

-- a fraction, and a sign
onto_trimmed_holds : (d : ℕ) (ds : List ℕ) → d < 128 → All IsAsciiByte ds → All IsAsciiByte (onto_trimmed d ds)
onto_trimmed_holds d [] digit holds =
    elim (d == 48) as (λ c. All IsAsciiByte (cond c [] (d ∷ []))) [
      | true ↦ All-nil IsAsciiByte
      | false ↦ All-cons IsAsciiByte d [] digit holds
    ]
onto_trimmed_holds d (e ∷ es) digit holds = All-cons IsAsciiByte d (e ∷ es) digit holds

trimmed_holds : (ds : List ℕ) → All IsAsciiByte ds → All IsAsciiByte (without_last_zeros ds)
trimmed_holds [] holds = holds
trimmed_holds (d ∷ ds) holds =
    onto_trimmed_holds d (without_last_zeros ds) (All-head IsAsciiByte d ds holds) (trimmed_holds ds (All-tail IsAsciiByte d ds holds))

fraction_holds : (n : ℕ) → All IsAsciiByte (fraction_text n)
fraction_holds n =
    elim (n == 0) as (λ c. All IsAsciiByte (cond c [] (46 ∷ without_last_zeros (six_digits n)))) [
      | true ↦ All-nil IsAsciiByte
      | false ↦ All-cons IsAsciiByte 46 (without_last_zeros (six_digits n)) (omega arith)
          (trimmed_holds (six_digits n) (All-drop IsAsciiByte 1 (decimal (1000000 + n)) (decimal_holds (1000000 + n))))
    ]

sign_holds : (z : ℤ) → All IsAsciiByte (sign_text z)
sign_holds z =
    elim (int_lt z (pos 0)) as (λ c. All IsAsciiByte (cond c (45 ∷ []) [])) [
      | true ↦ All-cons IsAsciiByte 45 [] (omega arith) (All-nil IsAsciiByte)
      | false ↦ All-nil IsAsciiByte
    ]

-- a decimal number
pub decimal_is_ascii : (z : ℤ) → IsAscii (decimal_text z)
decimal_is_ascii z =
    IsAscii-from_all (decimal_text z)
    (All-append IsAsciiByte (sign_text z) (decimal (unsigned_abs z / 1000000) ++ fraction_text (unsigned_abs z % 1000000)) (sign_holds z)
    (All-append IsAsciiByte (decimal (unsigned_abs z / 1000000)) (fraction_text (unsigned_abs z % 1000000))
    (decimal_holds (unsigned_abs z / 1000000)) (fraction_holds (unsigned_abs z % 1000000))))
