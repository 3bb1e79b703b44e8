-- The steps that events take.
use Rattle.std.proofs.Common.{◌≡◌, ℕ, ◌+◌, ◌-◌, ◌*◌, ◌^◌, ◌<◌, ◌≤◌, min, List, length, sym, ap, ◌∙◌, subst, arith}
use Rattle.spk_lattice.specs.Hops.{ReachesAtMost}
use Rattle.spk_app.specs.Sights.{Sight}
use Rattle.spk_sched.specs.declared.counts.Counts.{Counts}
use Rattle.spk_sched.specs.Turns.{with_accepted}

-- in a view, so many hops lead from each place to at most so many
abbrev pub AllReach : Sight → ℕ → ℕ → Type 0
AllReach sight hops most = (place : ℕ) → place < length sight.values → ReachesAtMost sight.near hops place most

pub all_reach : (sight later : Sight) (hops most : ℕ) → later.near ≡ sight.near → length later.values ≡ length sight.values → AllReach sight hops most → AllReach later hops most
all_reach sight later hops most near all reach = λ place less.
    subst (λ (near : ℕ → List ℕ). ReachesAtMost near hops place most) (sym near) (reach place (omega (arith, less, all)))

-- so many events that were accepted, and none rejected
abbrev pub accepted_only : ℕ → Counts
accepted_only n = record { accepted = n; rejected = 0 }

-- a turn has fewer events than a count can hold
pub one_accepted : (counts next : Counts) (n window : ℕ)
    → counts ≡ accepted_only n
    → next ≡ with_accepted counts
    → n < window
    → window < 2 ^ 64
    → next ≡ accepted_only (n + 1)
one_accepted counts next n window is after less limit =
    let one : min (n + 1) (2 ^ 64 - 1) ≡ n + 1 = omega (arith, less, limit) in
    after ∙ ap with_accepted is ∙ ap accepted_only one

-- one event more, after so many
pub cost_of_event : (old now next done most reach : ℕ)
    → now ≤ old + done * (most + 1) + done * reach
    → next ≤ now + reach + (most + 1)
    → next ≤ old + (done + 1) * (most + 1) + (done + 1) * reach
cost_of_event old now next done most reach before one = omega (arith, before, one)

-- one choice more, of no event
pub cost_of_choice : (counts : Counts) (old now next done most reach : ℕ)
    → counts ≡ accepted_only done
    → now ≤ old + done * (most + 1) + done * reach
    → next ≤ now + reach
    → next ≤ old + counts.accepted * (most + 1) + (counts.accepted + 1) * reach
cost_of_choice counts old now next done most reach is before one =
    subst (λ (c : Counts). next ≤ old + c.accepted * (most + 1) + (c.accepted + 1) * reach) (sym is) (omega (arith, before, one))
