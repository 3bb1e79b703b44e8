-- No weight is above 1, and one is 1 where the energy doesn't rise.
use Rattle.std.proofs.Common.{ℕ, zero, suc, ◌*◌, ◌/◌, ◌%◌, ◌^◌, ◌≤◌, ◌==◌, nat_lt, Bool, true, false, if◌then◌else◌, arith}
use Rattle.std.specs.Prelude.{ℤ, pos, int_lt, unsigned_abs}
use Rattle.spk_num.specs.Weights.{attenuated, series, factor_of, weight_of}
use Rattle.spk_num.proofs.WeightSteps.{at_most_first, no_factors, first_factor, inverse_e}

pub attenuated_at_most : (m x : ℕ) → attenuated m x ≤ x
attenuated_at_most zero x = rw (no_factors x) (omega arith)
attenuated_at_most (suc m) x =
    let y : ℕ = x * 404487723187 / 2 ^ 40 in
    rw (first_factor m x, inverse_e) (omega (arith, attenuated_at_most m y))

either : (P : ℕ → Type 0) (b : Bool) (x y : ℕ) → P x → P y → P (if b then x else y)
either P true x y first second = first
either P false x y first second = second

factor_small : (y : ℕ) → factor_of y ≤ 2 ^ 30
factor_small y =
    let start : ℕ = series (y % 2 ^ 32) in
    either (λ n. n ≤ 2 ^ 30) (nat_lt (y / 2 ^ 32) 22) (attenuated (y / 2 ^ 32) start / 2 ^ 10) 0
    (omega (arith, attenuated_at_most (y / 2 ^ 32) start, at_most_first 16 (2 ^ 40) 0 (y % 2 ^ 32))) (omega arith)

pub weight_small : (dE : ℤ) (t : ℕ) → weight_of dE t ≤ 2 ^ 30
unfolding weight_of
weight_small dE t =
    let rise : ℕ = factor_of (unsigned_abs dE * 10 ^ 6 * 2 ^ 32 / t) in
    either (λ n. n ≤ 2 ^ 30) (int_lt (pos 0) dE) (if t == 0 then 0 else rise) (2 ^ 30)
    (either (λ n. n ≤ 2 ^ 30) (t == 0) 0 rise (omega arith) (factor_small (unsigned_abs dE * 10 ^ 6 * 2 ^ 32 / t))) (omega arith)
