-- The weight of a change of energy at a temperature, exp(-dE / t). This is a whole-number rule of our own.
use Rattle.std.specs.Prelude.{ℕ, zero, suc, ◌+◌, ◌-◌, ◌*◌, ◌/◌, ◌%◌, ◌^◌, ◌==◌, if◌then◌else◌, nat_lt, ℤ, pos, int_lt, unsigned_abs}

-- k terms of the series for exp(-f / 2^32), with signs in turn, from the j-th on, which is given
unfoldable pub alternating : ℕ → ℕ → ℕ → ℕ → ℕ
alternating zero term j f = 0
alternating (suc k) term j f = term - alternating k (term * f / (2 ^ 32 * (j + 1))) (j + 1) f

-- exp(-f / 2^32) in units of 2^-40, by 16 terms; f is at most 2^32, so no term passes the one before
abbrev pub series : ℕ → ℕ
series f = alternating 16 (2 ^ 40) 0 f

-- x, multiplied m times by exp(-1)
unfoldable pub attenuated : ℕ → ℕ → ℕ
attenuated zero x = x
attenuated (suc m) x = attenuated m (x * series (2 ^ 32) / 2 ^ 40)

-- exp(-y / 2^32) in units of 2^-30, and 0 where y / 2^32 is 22 or more
abbrev pub factor_of : ℕ → ℕ
factor_of y = if nat_lt (y / 2 ^ 32) 22 then attenuated (y / 2 ^ 32) (series (y % 2 ^ 32)) / 2 ^ 10 else 0

-- the weight of a change dE at a temperature of t millionths, in units of 2^-30: exp(-dE / t), but at most 1
unfoldable pub weight_of : ℤ → ℕ → ℕ
weight_of dE t =
    if int_lt (pos 0) dE then (if t == 0 then 0 else factor_of (unsigned_abs dE * 10 ^ 6 * 2 ^ 32 / t))
    else 2 ^ 30
