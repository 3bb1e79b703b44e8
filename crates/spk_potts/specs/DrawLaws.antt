-- Draws below a bound.
use Rattle.std.proofs.Common.{ℕ, ◌-◌, ◌*◌, ◌<◌, arith}
use Rattle.std.proofs.Math.Nat.{div-lt_iff_lt-mul, mul-lt-mul_of_pos_right}
use Rattle.spk_num.specs.Draws.{next_state, below_of}

-- a draw below n is below n
pub below_is_below : (n x : ℕ) → 0 < n → below_of n (next_state x) < n
below_is_below n x some =
    let less : next_state x - 1 < 2147483646 = omega arith in
    let product : (next_state x - 1) * n < n * 2147483646 = omega (arith, mul-lt-mul_of_pos_right {m = next_state x - 1} {n = 2147483646} {k = n} less some) in
    (div-lt_iff_lt-mul {k = 2147483646} {x = (next_state x - 1) * n} {y = n} (omega arith)).1 product
