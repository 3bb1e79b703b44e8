-- Park and Miller's minimal standard generator, how a stream starts, and how a draw becomes a choice.
-- The generator is theirs. How a stream starts and how a draw becomes a choice are our own rules.
use Rattle.std.specs.Prelude.{ℕ, zero, suc, ◌+◌, ◌-◌, ◌*◌, ◌/◌, ◌%◌, ◌^◌}

-- the state after a draw, which is the draw itself
abbrev pub next_state : ℕ → ℕ
next_state x = 16807 * x % 2147483647

-- the state after so many draws
unfoldable pub after_draws : ℕ → ℕ → ℕ
after_draws zero x = x
after_draws (suc k) x = after_draws k (next_state x)

-- the state of the stream with this number, for this seed: its first 16 draws are discarded
abbrev pub start_state : ℕ → ℕ → ℕ
start_state seed number = after_draws 16 (1 + (seed + 100003 * (number + 1)) % 2147483646)

-- a number below n, from one draw
abbrev pub below_of : ℕ → ℕ → ℕ
below_of n x = (x - 1) * n / 2147483646

-- a number below n, from two draws
abbrev pub below_two_of : ℕ → ℕ → ℕ → ℕ
below_two_of n first second = ((first - 1) * 2147483646 + (second - 1)) * n / 2147483646 ^ 2
