-- Quotients of whole numbers with a sign, and when they are exact.
use Rattle.std.proofs.Common.{◌≡◌, ℕ, zero, suc, ◌^◌, ◌<◌, ◌≤◌, true, false, ℤ, pos, negsuc, neg_ℤ, refl, sym, ap, ◌∙◌, arith, ◌*ℤ◌, lit<, to_z, of_z, Result}
use Rattle.std.specs.Int.{w128}
use Rattle.std.specs.Prelude.{FitsSigned, unsigned_abs, int_div, int_rem, ◌==◌}
use Rattle.std.proofs.Math.Nat.{div-le_self}
use Rattle.std.proofs.lemmas.Bool.Decides.{nat_tests}
use Rattle.std.proofs.lemmas.Int.{to_z-of_z, fits_signed_from_abs, fits_signed_mul, rem_below}
use Rattle.spk_script.specs.declared.fault.LineFault.{LineFault}
use Rattle.spk_script.specs.Values.{within, quotient}

-- a number whose bits are 0
zero_bits : (z : ℤ) → FitsSigned w128 z → of_z w128 z ≡ 0 → unsigned_abs z ≡ 0
zero_bits (pos n) fits is = is
zero_bits (negsuc n) fits is = absurd (omega (arith, fits.sfits))

bits_zero : (z : ℤ) → unsigned_abs z ≡ 0 → of_z w128 z ≡ 0
bits_zero (pos n) is = is
bits_zero (negsuc n) is = absurd (omega (arith, is))

small_abs : (z : ℤ) → FitsSigned w128 z → unsigned_abs z ≤ 2 ^ 127
small_abs (pos n) fits = omega (arith, fits.sfits)
small_abs (negsuc n) fits = fits.sfits

abs_neg : (n : ℕ) → unsigned_abs (neg_ℤ (pos n)) ≡ n
abs_neg zero = refl
abs_neg (suc n) = refl

quotient_small : (a d : ℤ) → unsigned_abs (int_div a d) ≤ unsigned_abs a
quotient_small (pos a) (pos d) = div-le_self a d
quotient_small (pos a) (negsuc d) = rw abs_neg (div-le_self a (suc d))
quotient_small (negsuc a) (pos d) = rw abs_neg (div-le_self (suc a) d)
quotient_small (negsuc a) (negsuc d) = div-le_self (suc a) (suc d)

quotient_is : (a d : ℤ) → (unsigned_abs d == 0) ≡ false → (unsigned_abs (int_rem a d) == 0) ≡ true → quotient a d ≡ within (int_div a d)
quotient_is a d some whole = rw (some, whole) refl

is_zero : (n : ℕ) → n ≡ 0 → (n == 0) ≡ true
is_zero n is = grind (arith, nat_tests)

not_zero : (n : ℕ) → 0 < n → (n == 0) ≡ false
not_zero n some = grind (arith, nat_tests)

-- a quotient that the program computes, where it has no rest
pub exact_quotient : (a d : ℤ) (result : Result ℤ LineFault) → FitsSigned w128 a → FitsSigned w128 d → unsigned_abs a < 2 ^ 127 →
    (of_z w128 d ≡ 0 → ⊥) →
    of_z w128 (int_rem (to_z w128 (of_z w128 a)) (to_z w128 (of_z w128 d))) ≡ 0 →
    result ≡ within (to_z w128 (of_z w128 (int_div (to_z w128 (of_z w128 a)) (to_z w128 (of_z w128 d))))) →
    result ≡ quotient a d
exact_quotient a d result a_fits d_fits small some whole is =
    let least : 0 < unsigned_abs d = grind (arith, bits_zero d, some) in
    let divisor_small : unsigned_abs d ≤ 2 ^ 127 = small_abs d d_fits in
    let less : unsigned_abs (int_rem a d) < 2 ^ 127 = omega (arith, rem_below a d least) in
    let rest : of_z w128 (int_rem a d) ≡ 0 = rw (to_z-of_z w128 a a_fits, to_z-of_z w128 d d_fits) at whole in
    let none : unsigned_abs (int_rem a d) ≡ 0 = zero_bits (int_rem a d) (fits_signed_from_abs w128 (int_rem a d) less) rest in
    let small_too : unsigned_abs (int_div a d) < 2 ^ 127 = omega (arith, quotient_small a d) in
    let found : result ≡ within (to_z w128 (of_z w128 (int_div a d))) =
    is ∙ ap (λ x. within (to_z w128 (of_z w128 (int_div x (to_z w128 (of_z w128 d)))))) (to_z-of_z w128 a a_fits)
    ∙ ap (λ x. within (to_z w128 (of_z w128 (int_div a x)))) (to_z-of_z w128 d d_fits) in
    found ∙ ap within (to_z-of_z w128 (int_div a d) (fits_signed_from_abs w128 (int_div a d) small_too))
    ∙ sym (quotient_is a d (not_zero (unsigned_abs d) least) (is_zero (unsigned_abs (int_rem a d)) none))

-- a product that the program computes
pub product_is : (a b x y : ℤ) → unsigned_abs a ≤ 10 ^ 18 → unsigned_abs b ≤ 10 ^ 18 → x ≡ a → y ≡ b →
    to_z w128 (of_z w128 (to_z w128 (of_z w128 x) *ℤ to_z w128 (of_z w128 y))) ≡ a *ℤ b
product_is a b x y a_small b_small x_is y_is =
    let a_same : to_z w128 (of_z w128 x) ≡ a = ap (λ z. to_z w128 (of_z w128 z)) x_is
    ∙ to_z-of_z w128 a (fits_signed_from_abs w128 a (omega (arith, a_small))) in
    let b_same : to_z w128 (of_z w128 y) ≡ b = ap (λ z. to_z w128 (of_z w128 z)) y_is
    ∙ to_z-of_z w128 b (fits_signed_from_abs w128 b (omega (arith, b_small))) in
    let fits : FitsSigned w128 (a *ℤ b) = fits_signed_mul w128 a b (10 ^ 18) (10 ^ 18) a_small b_small (lit< tt) in
    ap (λ z. to_z w128 (of_z w128 (z *ℤ to_z w128 (of_z w128 y)))) a_same ∙ ap (λ z. to_z w128 (of_z w128 (a *ℤ z))) b_same
    ∙ to_z-of_z w128 (a *ℤ b) fits
