-- Laws of counts: a turn from counts that a rank has had adds to them what the same turn counts from none, and its counts fit.
use Rattle.std.proofs.Common.{◌≡◌, ℕ, zero, suc, ◌+◌, ◌-◌, ◌/◌, ◌^◌, ◌≤◌, ◌==◌, nat_le, min, Bool, true, false, List, length, Option, Some, None, inl, inr, refl, ap, sym, ◌∙◌, arith}
use Rattle.std.proofs.lemmas.Bool.{cases_Bool}
use Rattle.spk_num.specs.declared.sweep.Sweep.{Sweep}
use Rattle.spk_sched.specs.declared.counts.Counts.{Counts}
use Rattle.spk_sched.specs.Turns.{Sector, RankState, Pick, IsCount, total, wait_before, counts_sum, no_counts, with_accepted, with_rejected, with_trial, after_event, turn_from, turn_of, pick_by, trial_at, after_pick, picks_from, sweep_of, sweeps_of, turn_by}

-- a state, with counts of before added to its own
abbrev counted_on : Counts → RankState → RankState
counted_on before state = record state { counts = counts_sum before state.counts }

-- one more event counts the same before and after the sum is made
one_more : (before count last : ℕ) → min (min (before + count) last + 1) last ≡ min (before + min (count + 1) last) last
one_more before count last = omega arith

accepted_on : (before counts : Counts) → with_accepted (counts_sum before counts) ≡ counts_sum before (with_accepted counts)
accepted_on before counts =
    ap (λ (n : ℕ). record { accepted = n; rejected = min (before.rejected + counts.rejected) (2 ^ 64 - 1) }) (one_more before.accepted counts.accepted (2 ^ 64 - 1))

rejected_on : (before counts : Counts) → with_rejected (counts_sum before counts) ≡ counts_sum before (with_rejected counts)
rejected_on before counts =
    ap (λ (n : ℕ). record { accepted = min (before.accepted + counts.accepted) (2 ^ 64 - 1); rejected = n }) (one_more before.rejected counts.rejected (2 ^ 64 - 1))

trial_on : (changed : Bool) (before counts : Counts) → with_trial changed (counts_sum before counts) ≡ counts_sum before (with_trial changed counts)
trial_on true before counts = accepted_on before counts
trial_on false before counts = rejected_on before counts

event_on : (sector : Sector) (before : Counts) (state : RankState) → after_event sector (counted_on before state) ≡ counted_on before (after_event sector state)
event_on sector before state = ap (λ (counts : Counts). record (after_event sector state) { counts = counts }) (accepted_on before state.counts)

pick_on : (sector : Sector) (before : Counts) (state : RankState) (pick : Pick) → after_pick sector (counted_on before state) pick ≡ counted_on before (after_pick sector state pick)
pick_on sector before state pick =
    ap (λ (counts : Counts). record (after_pick sector state pick) { counts = counts }) (trial_on (trial_at sector state pick).changed before state.counts)

turn_on : (sector : Sector) (more window local : ℕ) (before : Counts) (state : RankState) →
    turn_from sector more window local (counted_on before state) ≡ counted_on before (turn_from sector more window local state)
unfolding turn_from
turn_on sector zero window local before state = refl
turn_on sector (suc more) window local before state =
    elim (cases_Bool (total sector state.values == 0)) [
      | inl still ↦ rw still refl
      | inr moves ↦
          elim (cases_Bool (nat_le window (local + wait_before sector state))) [
            | inl late ↦ rw (moves, late) refl
            | inr early ↦
                let event : after_event sector (counted_on before state) ≡ counted_on before (after_event sector state) = event_on sector before state in
                rw (moves, early) (ap (turn_from sector more window (local + wait_before sector state)) event ∙ turn_on sector more window (local + wait_before sector state) before (after_event sector state))
          ]
    ]

picks_on : (style : Sweep) (sector : Sector) (more k : ℕ) (before : Counts) (state : RankState) →
    picks_from style sector more k (counted_on before state) ≡ counted_on before (picks_from style sector more k state)
unfolding picks_from
picks_on style sector zero k before state = refl
picks_on style sector (suc more) k before state =
    let pick : Pick = pick_by style sector.places k state.stream in
    ap (picks_from style sector more (k + 1)) (pick_on sector before state pick) ∙ picks_on style sector more (k + 1) before (after_pick sector state pick)

sweeps_on : (style : Sweep) (sector : Sector) (count : ℕ) (before : Counts) (state : RankState) →
    sweeps_of style sector count (counted_on before state) ≡ counted_on before (sweeps_of style sector count state)
unfolding sweeps_of
sweeps_on style sector zero before state = refl
sweeps_on style sector (suc more) before state =
    ap (sweeps_of style sector more) (picks_on style sector (length sector.places) 0 before state) ∙ sweeps_on style sector more before (sweep_of style sector state)

by_on : (sweep : Option Sweep) (sector : Sector) (window : ℕ) (before : Counts) (state : RankState) →
    turn_by sweep sector window (counted_on before state) ≡ counted_on before (turn_by sweep sector window state)
by_on None sector window before state = turn_on sector window window 0 before state
by_on (Some style) sector window before state = sweeps_on style sector (window / 1000000000) before state

-- no more events leave a count that fits as it was
as_was : (count last : ℕ) → count ≤ last → min (count + 0) last ≡ count
as_was count last fits = omega (arith, fits)

none_more : (counts : Counts) → IsCount counts → counts_sum counts no_counts ≡ counts
none_more counts (accepted, rejected) =
    ap (λ (n : ℕ). record { accepted = n; rejected = min (counts.rejected + 0) (2 ^ 64 - 1) }) (as_was counts.accepted (2 ^ 64 - 1) accepted)
    ∙ ap (λ (n : ℕ). record { accepted = counts.accepted; rejected = n }) (as_was counts.rejected (2 ^ 64 - 1) rejected)

-- a turn that goes the same way whatever was counted before adds to counts that fit what it counts from none
from_none : (turn : RankState → RankState) → ((before : Counts) (state : RankState) → turn (counted_on before state) ≡ counted_on before (turn state)) →
    (values after : List ℕ) (stream left : ℕ) (counts more : Counts) → IsCount counts →
    turn (record { values = values; stream = stream; counts = no_counts }) ≡ record { values = after; stream = left; counts = more } →
    turn (record { values = values; stream = stream; counts = counts }) ≡ record { values = after; stream = left; counts = counts_sum counts more }
from_none turn on values after stream left counts more is_count is =
    ap (λ (c : Counts). turn (record { values = values; stream = stream; counts = c })) (sym (none_more counts is_count))
    ∙ on counts (record { values = values; stream = stream; counts = no_counts })
    ∙ ap (counted_on counts) is

pub turn_counts : (sector : Sector) (window : ℕ) (values after : List ℕ) (stream left : ℕ) (counts more : Counts) → IsCount counts →
    turn_of sector window (record { values = values; stream = stream; counts = no_counts }) ≡ record { values = after; stream = left; counts = more } →
    turn_of sector window (record { values = values; stream = stream; counts = counts }) ≡ record { values = after; stream = left; counts = counts_sum counts more }
turn_counts sector window values after stream left counts more is_count is =
    from_none (turn_of sector window) (λ before state. turn_on sector window window 0 before state) values after stream left counts more is_count is

pub sweeps_counts : (style : Sweep) (sector : Sector) (count : ℕ) (values after : List ℕ) (stream left : ℕ) (counts more : Counts) → IsCount counts →
    sweeps_of style sector count (record { values = values; stream = stream; counts = no_counts }) ≡ record { values = after; stream = left; counts = more } →
    sweeps_of style sector count (record { values = values; stream = stream; counts = counts }) ≡ record { values = after; stream = left; counts = counts_sum counts more }
sweeps_counts style sector count values after stream left counts more is_count is =
    from_none (sweeps_of style sector count) (sweeps_on style sector count) values after stream left counts more is_count is

pub by_counts : (sweep : Option Sweep) (sector : Sector) (window : ℕ) (values after : List ℕ) (stream left : ℕ) (counts more : Counts) → IsCount counts →
    turn_by sweep sector window (record { values = values; stream = stream; counts = no_counts }) ≡ record { values = after; stream = left; counts = more } →
    turn_by sweep sector window (record { values = values; stream = stream; counts = counts }) ≡ record { values = after; stream = left; counts = counts_sum counts more }
by_counts sweep sector window values after stream left counts more is_count is =
    from_none (turn_by sweep sector window) (by_on sweep sector window) values after stream left counts more is_count is

-- counts that fit go on fitting
accepted_fits : (counts : Counts) → IsCount counts → IsCount (with_accepted counts)
accepted_fits counts (accepted, rejected) = (omega arith, rejected)

rejected_fits : (counts : Counts) → IsCount counts → IsCount (with_rejected counts)
rejected_fits counts (accepted, rejected) = (accepted, omega arith)

trial_fits : (changed : Bool) (counts : Counts) → IsCount counts → IsCount (with_trial changed counts)
trial_fits true counts is_count = accepted_fits counts is_count
trial_fits false counts is_count = rejected_fits counts is_count

-- a sum always fits
pub sum_fits : (some more : Counts) → IsCount (counts_sum some more)
sum_fits some more = (omega arith, omega arith)

turn_fits : (sector : Sector) (more window local : ℕ) (state : RankState) → IsCount state.counts → IsCount (turn_from sector more window local state).counts
unfolding turn_from
turn_fits sector zero window local state is_count = is_count
turn_fits sector (suc more) window local state is_count =
    elim (cases_Bool (total sector state.values == 0)) [
      | inl still ↦ rw still is_count
      | inr moves ↦
          elim (cases_Bool (nat_le window (local + wait_before sector state))) [
            | inl late ↦ rw (moves, late) is_count
            | inr early ↦ rw (moves, early) (turn_fits sector more window (local + wait_before sector state) (after_event sector state) (accepted_fits state.counts is_count))
          ]
    ]

picks_fit : (style : Sweep) (sector : Sector) (more k : ℕ) (state : RankState) → IsCount state.counts → IsCount (picks_from style sector more k state).counts
unfolding picks_from
picks_fit style sector zero k state is_count = is_count
picks_fit style sector (suc more) k state is_count =
    let pick : Pick = pick_by style sector.places k state.stream in
    picks_fit style sector more (k + 1) (after_pick sector state pick) (trial_fits (trial_at sector state pick).changed state.counts is_count)

sweeps_fit : (style : Sweep) (sector : Sector) (count : ℕ) (state : RankState) → IsCount state.counts → IsCount (sweeps_of style sector count state).counts
unfolding sweeps_of
sweeps_fit style sector zero state is_count = is_count
sweeps_fit style sector (suc more) state is_count = sweeps_fit style sector more (sweep_of style sector state) (picks_fit style sector (length sector.places) 0 state is_count)

pub by_fits : (sweep : Option Sweep) (sector : Sector) (window : ℕ) (state : RankState) → IsCount state.counts → IsCount (turn_by sweep sector window state).counts
by_fits None sector window state is_count = turn_fits sector window window 0 state is_count
by_fits (Some style) sector window state is_count = sweeps_fit style sector (window / 1000000000) state is_count
