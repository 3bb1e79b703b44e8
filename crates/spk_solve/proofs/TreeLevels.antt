-- Levels of a tree.
use Rattle.std.proofs.Common.{◌≡◌, ℕ, zero, suc, ◌+◌, ◌*◌, ◌/◌, ◌^◌, ◌<◌, ◌≤◌, refl, inl, inr, arith, ◌⊎◌, add-one}
use Rattle.std.proofs.lemmas.Bool.{cases_lt}
use Rattle.std.proofs.lemmas.Bool.Decides.{nat_tests}
use Rattle.std.specs.Prelude.{nat_lt, true, false}
use Rattle.spk_solve.specs.SumTrees.{halvings, search_steps, start}

pub start_more : (d : ℕ) → start (d + 1) ≡ 16 * start d + 1
unfolding start
start_more d = rw add-one refl

pub start_none : start 0 ≡ 0
unfolding start
start_none = refl

-- a level that is not after another one is not deeper
pub start_grows : (d e : ℕ) → d ≤ e → start d ≤ start e
unfolding start
start_grows zero e le = omega arith
start_grows (suc d) zero le = absurd (omega arith)
start_grows (suc d) (suc e) le = omega (arith, start_grows d e (omega arith))

pub start_next : (d e : ℕ) → start d < start e → start (d + 1) ≤ start e
start_next d e less =
    let cases : (d < e) ⊎ (e ≤ d) = grind arith in
    elim cases [
      | inl before ↦ start_grows (d + 1) e (omega arith)
      | inr after ↦ absurd (omega (arith, start_grows e d after))
    ]

pub ruleset levels = (start_more, start_none, start_next)

-- twice as many at each level
pub two_more : (d : ℕ) → 2 ^ (d + 1) ≡ 2 * 2 ^ d
two_more d = rw add-one (omega arith)

one_power : (d : ℕ) → 1 ≤ 2 ^ d
one_power zero = omega arith
one_power (suc d) =
    let e : suc d ≡ d + 1 = omega arith in
    rw (e, two_more d) (omega (arith, one_power d))

power_above : (d : ℕ) → d ≤ 2 ^ d
power_above zero = omega arith
power_above (suc d) =
    let e : suc d ≡ d + 1 = omega arith in
    rw (e, two_more d) (omega (arith, power_above d, one_power d))

pub two_powers : (d : ℕ) → 2 ^ d ≤ 15 * start d + 1
unfolding start
two_powers zero = omega arith
two_powers (suc d) =
    let below : 2 ^ d ≤ 15 * start d + 1 = two_powers d in
    let e : suc d ≡ d + 1 = omega arith in
    let p : 2 ^ suc d ≡ 2 * 2 ^ d = rw e (two_more d) in
    rw p (omega arith)

-- a number that is at least a power of 2 can be halved so often
halved : (fuel k n : ℕ) → k ≤ fuel → 2 ^ k ≤ n → k ≤ halvings fuel n
halved fuel zero n enough at_least = omega arith
halved zero (suc k) n enough at_least = absurd (omega (arith, enough))
halved (suc fuel) (suc k) n enough at_least =
    let e : suc k ≡ k + 1 = omega arith in
    let twice : 2 * 2 ^ k ≤ n = rw (e, two_more k) at at_least in
    let some : 1 ≤ 2 ^ k = one_power k in
    let more : nat_lt n 2 ≡ false = grind (arith, nat_tests) in
    rw more (omega (arith, halved fuel k (n / 2) (omega (arith, enough)) (omega (arith, twice))))

-- a level of a tree is no deeper than the steps of a search
pub depth_steps : (depth used : ℕ) → 2 ^ depth ≤ 4 * used + 4 → depth ≤ search_steps used
unfolding search_steps
depth_steps depth used shallow = halved (4 * used + 4) depth (4 * used + 4) (omega (arith, power_above depth, shallow)) shallow

-- a number is not below the power of 2 that its halvings count
halvings_power : (fuel n : ℕ) → 1 ≤ n → 2 ^ halvings fuel n ≤ n
halvings_power zero n some = omega arith
halvings_power (suc fuel) n some = elim (cases_lt n 2) [
  | inl small ↦
      let less : nat_lt n 2 ≡ true = grind (arith, nat_tests) in
      rw less (omega arith)
  | inr large ↦
      let more : nat_lt n 2 ≡ false = grind (arith, nat_tests) in
      rw (more, two_more (halvings fuel (n / 2))) (omega (arith, halvings_power fuel (n / 2) (omega arith)))
]

-- a search in a shorter list takes no more steps
pub steps_grow : (m n : ℕ) → m ≤ n → search_steps m ≤ search_steps n
unfolding search_steps
steps_grow m n le =
    let power : 2 ^ halvings (4 * m + 4) (4 * m + 4) ≤ 4 * m + 4 = halvings_power (4 * m + 4) (4 * m + 4) (omega arith) in
    depth_steps (halvings (4 * m + 4) (4 * m + 4)) n (omega arith)
