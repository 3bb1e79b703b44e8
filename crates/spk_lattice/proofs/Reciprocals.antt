-- Division by a multiplication.
use Rattle.std.proofs.Common.{◌≡◌, ℕ, suc, ◌+◌, ◌*◌, ◌/◌, ◌%◌, ◌^◌, ◌<◌, ◌≤◌, arith, subst}

-- a product with the reciprocal lies between the quotient and the next number, in units of T = d * m + t
not_less : (d q r m t : ℕ) → q * t ≤ q * d → q * (d * m + t) ≤ (d * q + r) * (m + 1)
not_less d q r m t few = omega arith

less : (d q r m t : ℕ) → suc r * m ≤ d * m → d * q + r < m → (d * q + r) * (m + 1) < (q + 1) * (d * m + t)
less d q r m t few small = omega arith

scaled : (q product : ℕ) → q * 2 ^ 44 ≤ product → product < (q + 1) * 2 ^ 44 → product / 2 ^ 44 ≡ q
scaled q product low high = omega arith

pub parts : (n d : ℕ) → 0 < d → d * (n / d) + n % d ≡ n
parts n d some = omega arith

times : (k a b : ℕ) → a ≤ b → k * a ≤ k * b
times k a b less = grind arith

mul_mono : (a b k : ℕ) → a ≤ b → a * k ≤ b * k
mul_mono a b k less = grind arith

at_least : (d : ℕ) → 0 < d → d ≤ 4194304 → 4194304 ≤ 2 ^ 44 / d
at_least d some few = grind arith

pub quotient : (n d : ℕ) → n < 4194304 → 0 < d → d ≤ 4194304 → n * (2 ^ 44 / d + 1) / 2 ^ 44 ≡ n / d
quotient n d small some few =
    let q : ℕ = n / d in
    let m : ℕ = 2 ^ 44 / d in
    let many : 4194304 ≤ m = at_least d some few in
    let low : q * 2 ^ 44 ≤ n * (m + 1) = subst (λ k. q * 2 ^ 44 ≤ k * (m + 1)) (parts n d some)
    (subst (λ whole. q * whole ≤ (d * q + n % d) * (m + 1)) (parts (2 ^ 44) d some) (not_less d q (n % d) m (2 ^ 44 % d) (times q (2 ^ 44 % d) d (omega arith)))) in
    let high : n * (m + 1) < (q + 1) * 2 ^ 44 = subst (λ k. k * (m + 1) < (q + 1) * 2 ^ 44) (parts n d some)
    (subst (λ whole. (d * q + n % d) * (m + 1) < (q + 1) * whole) (parts (2 ^ 44) d some) (less d q (n % d) m (2 ^ 44 % d) (mul_mono (suc (n % d)) d m (omega arith)) (omega (arith, parts n d some, many)))) in
    scaled q (n * (m + 1)) low high
