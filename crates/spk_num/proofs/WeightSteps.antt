-- Weights, two terms of a series or one factor at a time.
use Rattle.std.proofs.Common.{◌≡◌, ℕ, ◌+◌, ◌-◌, ◌*◌, ◌/◌, ◌^◌, ◌<◌, ◌≤◌, zero, suc, refl, sym, arith}
use Rattle.spk_num.specs.Weights.{alternating, attenuated, series}

-- no term is left to take
pub no_terms : (term j f : ℕ) → alternating zero term j f ≡ 0
unfolding alternating
no_terms term j f = refl

-- the first of more terms
pub first_term : (k term j f : ℕ) → alternating (suc k) term j f ≡ term - alternating k (term * f / (2 ^ 32 * (j + 1))) (j + 1) f
unfolding alternating
first_term k term j f = refl

-- a series is at most its first term
pub at_most_first : (k term j f : ℕ) → alternating k term j f ≤ term
at_most_first zero term j f = rw (no_terms term j f) (omega arith)
at_most_first (suc k) term j f = rw (first_term k term j f) (omega arith)

-- where all of `n` terms are taken, none is left
pub terms_done : (n made term j f : ℕ) → n ≤ made → alternating (n - made) term j f ≡ 0
terms_done n made term j f all =
    let none_left : n - made ≡ zero = omega arith in
    rw (none_left, no_terms) refl

-- two terms more: the first is added, and the second is taken from it
pub two_terms : (n pair term taken next f : ℕ) → 2 * (pair + 1) ≤ n → taken ≤ term → next ≤ taken →
    taken ≡ term * f / (2 ^ 32 * (2 * pair + 1)) → next ≡ taken * f / (2 ^ 32 * (2 * pair + 2)) →
    alternating (n - 2 * pair) term (2 * pair) f ≡ term - taken + alternating (n - 2 * (pair + 1)) next (2 * (pair + 1)) f
two_terms n pair term taken next f more second third taken_is next_is =
    let left = n - (2 * pair + 2) in
    let two_more : n - 2 * pair ≡ suc (suc left) = omega arith in
    let number : 2 * pair + 1 + 1 ≡ 2 * pair + 2 = omega arith in
    let following : 2 * (pair + 1) ≡ 2 * pair + 2 = omega arith in
    rw (two_more, first_term (suc left) term (2 * pair) f, sym taken_is, first_term left taken (2 * pair + 1) f, number, sym next_is)
    (rw following (omega (arith, at_most_first left next (2 * pair + 2) f)))

-- exp(-1) by the series
pub inverse_e : series (2 ^ 32) ≡ 404487723187
unfolding alternating
inverse_e = refl

-- no factor is left to take
pub no_factors : (x : ℕ) → attenuated zero x ≡ x
unfolding attenuated
no_factors x = refl

-- the first of more factors
pub first_factor : (m x : ℕ) → attenuated (suc m) x ≡ attenuated m (x * series (2 ^ 32) / 2 ^ 40)
unfolding attenuated
first_factor m x = refl

-- where so many of `m` factors are taken, one more leaves fewer to take
pub factors_left : (m made x : ℕ) → made < m → attenuated (m - (made + 1)) (x * 404487723187 / 2 ^ 40) ≡ attenuated (m - made) x
factors_left m made x less =
    let one_more : m - made ≡ suc (m - (made + 1)) = omega arith in
    rw (one_more, first_factor, inverse_e) refl

-- where all of `m` factors are taken, none is left
pub factors_done : (m made x : ℕ) → m ≤ made → attenuated (m - made) x ≡ x
factors_done m made x all =
    let none_left : m - made ≡ zero = omega arith in
    rw (none_left, no_factors) refl

-- how terms are counted down
pub ruleset terms = (two_terms, terms_done)

-- how factors are counted down
pub ruleset factors = (factors_left, factors_done)
