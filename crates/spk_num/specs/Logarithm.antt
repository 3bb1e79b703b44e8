-- The negative logarithm of a draw, and the waiting time that it gives. These are whole-number rules of our own.
use Rattle.std.specs.Prelude.{ℕ, zero, suc, ◌+◌, ◌-◌, ◌*◌, ◌/◌, ◌^◌, min, max, if◌then◌else◌, nat_lt}

-- how often a number is doubled, at most k times, until it is at least 2^30
unfoldable pub doublings : ℕ → ℕ → ℕ
doublings zero x = 0
doublings (suc k) x = if nat_lt x (2 ^ 30) then 1 + doublings k (2 * x) else 0

-- the shift of a draw x: x * 2^shift is at least 2^30 and below 2^31
abbrev pub shift_of : ℕ → ℕ
shift_of x = doublings 30 x

-- k more bits of the logarithm of y, put after the bits b; y is from 2^31 to 2^32, which stands for 1 to 2
unfoldable pub log_bits : ℕ → ℕ → ℕ → ℕ
log_bits zero y b = b
log_bits (suc k) y b =
    if nat_lt (y * y / 2 ^ 31) (2 ^ 32) then log_bits k (y * y / 2 ^ 31) (2 * b)
    else log_bits k (y * y / 2 ^ 31 / 2) (2 * b + 1)

-- the negative logarithm to base 2 of the draw x over 2^31, in units of 2^-24
abbrev pub neg_log_two : ℕ → ℕ
neg_log_two x = (shift_of x + 1) * 2 ^ 24 - log_bits 24 (x * 2 ^ (shift_of x + 1)) 0

-- the natural one, in units of 2^-24
abbrev pub neg_log_of : ℕ → ℕ
neg_log_of x = 11629080 * neg_log_two x / 2 ^ 24

-- the waiting time in ticks, where the total of the propensities is in units of 2^-30
abbrev pub wait_of : ℕ → ℕ → ℕ
wait_of total x = min (2 ^ 63 - 1) (max 1 (neg_log_of x * 64 * 10 ^ 9 / total))
