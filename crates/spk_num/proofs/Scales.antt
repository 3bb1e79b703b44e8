-- Division by the number of pairs, by a multiplication.
use Rattle.std.proofs.Common.{ℕ, ◌+◌, ◌*◌, ◌/◌, ◌^◌, ◌<◌, ◌≤◌, arith}

pub product_small : (pair total : ℕ) → pair < 4611686009837453316 → total < 2 ^ 63 → pair * total < 2 ^ 125
product_small pair total small few = grind arith

-- the guess is the quotient or one less
pub guess_low : (p : ℕ) → p / 2 ^ 61 * 9223372054034645016 / 2 ^ 64 * 4611686009837453316 ≤ p
guess_low p = omega arith

pub guess_high : (p : ℕ) → p < 2 ^ 125 → p < (p / 2 ^ 61 * 9223372054034645016 / 2 ^ 64 + 2) * 4611686009837453316
guess_high p small = omega arith

pub ruleset scales = (product_small, guess_low, guess_high)
