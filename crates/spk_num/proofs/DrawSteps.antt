-- Draws, one at a time.
use Rattle.std.proofs.Common.{◌≡◌, ℕ, ◌+◌, ◌-◌, ◌<◌, ◌≤◌, zero, suc, refl, arith}
use Rattle.spk_num.specs.Draws.{after_draws, next_state}

-- the draws after a first one
pub draws_more : (k x : ℕ) → after_draws (suc k) x ≡ after_draws k (next_state x)
unfolding after_draws
draws_more k x = refl

-- no draw leaves the state as it is
pub draws_none : (x : ℕ) → after_draws zero x ≡ x
unfolding after_draws
draws_none x = refl

-- where so many of `n` draws are made, one more leaves fewer to make
pub draws_left : (n made x : ℕ) → made < n → after_draws (n - (made + 1)) (next_state x) ≡ after_draws (n - made) x
draws_left n made x less =
    let one_more : n - made ≡ suc (n - (made + 1)) = omega arith in
    rw (one_more, draws_more) refl

-- where all of `n` draws are made, none is left
pub draws_done : (n made x : ℕ) → n ≤ made → after_draws (n - made) x ≡ x
draws_done n made x all =
    let none_left : n - made ≡ zero = omega arith in
    rw (none_left, draws_none) refl

-- how draws are counted down
pub ruleset draws = (draws_left, draws_done)
