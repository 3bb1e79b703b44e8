-- How large a square can be.
use Rattle.std.proofs.Common.{ℕ, ◌*◌, ◌≤◌}
use Rattle.std.proofs.Math.Nat.{mul-le-mul}

-- the square of a distance between two lengths of at most 10^7 units each, in millionths of half units
pub square_limit : (n : ℕ) → n ≤ 40000000000000 → n * n ≤ 1600000000000000000000000000
square_limit n h = mul-le-mul h h
