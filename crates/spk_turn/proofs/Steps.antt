-- A turn, one event at a time.
use Rattle.std.proofs.Common.{◌≡◌, ℕ, zero, suc, ◌+◌, ◌-◌, ◌<◌, ◌≤◌, ◌==◌, nat_le, true, false, eq-eqb, List, sum, refl, sym, ap, ◌∙◌, arith}
use Rattle.std.proofs.lemmas.Bool.Decides.{nat_tests}
use Rattle.spk_sched.specs.declared.counts.Counts.{Counts}
use Rattle.spk_num.specs.Draws.{next_state}
use Rattle.spk_num.specs.Logarithm.{wait_of}
use Rattle.spk_sched.specs.Turns.{Sector, RankState, propensities, total, wait_before, stream_after, stream_by, with_accepted, after_event, after_event_of, event_by, turn_from}
use Rattle.spk_solve.specs.declared.solver.Chosen.{Chosen}
use Rattle.spk_solve.specs.Choice.{Rule, RunningSum, Bins, Chooses}
use Rattle.spk_app.specs.Sights.{Sight}
use Rattle.spk_app.specs.Applications.{Application}
use Rattle.spk_turn.specs.Ready.{sector_on, propensities_in}
use Rattle.spk_turn.proofs.Anew.{propensities_are}

-- no event is left to do
pub turn_over : (sector : Sector) (window local : ℕ) (state : RankState) → turn_from sector zero window local state ≡ state
unfolding turn_from
turn_over sector window local state = refl

-- nothing happens where the total is 0
pub turn_still : (sector : Sector) (more window local : ℕ) (state : RankState) → total sector state.values ≡ 0 → turn_from sector (suc more) window local state ≡ state
unfolding turn_from
turn_still sector more window local state still =
    let is : (total sector state.values == 0) ≡ true = eq-eqb (total sector state.values) 0 still in
    rw is refl

-- the next event would reach the window's end
pub turn_late : (sector : Sector) (more window local : ℕ) (state : RankState)
    → 0 < total sector state.values
    → window ≤ local + wait_before sector state
    → turn_from sector (suc more) window local state ≡ record state { stream = stream_after sector state }
unfolding turn_from
turn_late sector more window local state some late =
    let moves : (total sector state.values == 0) ≡ false = grind (arith, nat_tests) in
    let ends : nat_le window (local + wait_before sector state) ≡ true = grind (arith, nat_tests) in
    rw (moves, ends) refl

-- it comes before the window's end
pub turn_goes : (sector : Sector) (more window local : ℕ) (state : RankState)
    → 0 < total sector state.values
    → local + wait_before sector state < window
    → turn_from sector (suc more) window local state ≡ turn_from sector more window (local + wait_before sector state) (after_event sector state)
unfolding turn_from
turn_goes sector more window local state some early =
    let moves : (total sector state.values == 0) ≡ false = grind (arith, nat_tests) in
    let goes : nat_le window (local + wait_before sector state) ≡ false = grind (arith, nat_tests) in
    rw (moves, goes) refl

-- the state of a rank, by what a turn is given
abbrev pub state_with : List ℕ → ℕ → Counts → RankState
state_with values stream counts = record { values = values; stream = stream; counts = counts }

-- the stream after a choice
pub chosen_stream : (rule : Rule) (propensities : List ℕ) (stream : ℕ) (chosen : Chosen) (after : ℕ) → Chooses rule propensities stream chosen after → stream_by rule propensities stream ≡ after
unfolding stream_by
chosen_stream RunningSum propensities stream chosen after (names, is) = sym is
chosen_stream Bins propensities stream chosen after is = rw is refl

-- nothing can happen
pub event_none : (app : Application) (rule : Rule) (sight : Sight) (places : List ℕ) (list : List ℕ) (stream rest : ℕ) → list ≡ propensities_in app sight places → sum list ≡ 0 →
    (more local : ℕ) (counts : Counts) → turn_from (sector_on app rule sight places) (suc more) (local + rest) local (state_with sight.values stream counts) ≡ state_with sight.values stream counts
event_none app rule sight places list stream rest list_is none more local counts =
    turn_still (sector_on app rule sight places) more (local + rest) local (state_with sight.values stream counts) (ap sum (sym (list_is ∙ propensities_are app rule sight places)) ∙ none)

-- what a choice settles: the total, the stream after it, and the time that the event takes
pub record IsTimed (app : Application) (rule : Rule) (sight : Sight) (places : List ℕ) (stream after ticks : ℕ) : Type 0 where
  pub some : 0 < total (sector_on app rule sight places) sight.values
  pub stream_is : next_state (stream_by rule (propensities (sector_on app rule sight places) sight.values) stream) ≡ next_state after
  pub ticks_is : ticks ≡ wait_of (total (sector_on app rule sight places) sight.values) (next_state after)

pub timed : (app : Application) (rule : Rule) (sight : Sight) (places : List ℕ) (list : List ℕ) (stream after ticks : ℕ) (chosen : Chosen)
    → list ≡ propensities_in app sight places
    → 0 < sum list
    → Chooses rule list stream chosen after
    → ticks ≡ wait_of (sum list) (next_state after)
    → IsTimed app rule sight places stream after ticks
timed app rule sight places list stream after ticks chosen list_is some chooses ticks_is =
    let same : list ≡ propensities (sector_on app rule sight places) sight.values = list_is ∙ propensities_are app rule sight places in
    record {
      some = rw (ap sum same) at some;
      stream_is = ap next_state (chosen_stream rule (propensities (sector_on app rule sight places) sight.values) stream chosen after (rw same at chooses));
      ticks_is = ticks_is ∙ ap (λ (ps : List ℕ). wait_of (sum ps) (next_state after)) same;
    }

-- the event would come too late
pub event_late : (app : Application) (rule : Rule) (sight : Sight) (places : List ℕ) (stream rest after ticks : ℕ)
    → IsTimed app rule sight places stream after ticks
    → rest ≤ ticks
    → (more local : ℕ) (counts : Counts)
    → turn_from (sector_on app rule sight places) (suc more) (local + rest) local (state_with sight.values stream counts) ≡ state_with sight.values (next_state after) counts
event_late app rule sight places stream rest after ticks time late more local counts =
    let waits : wait_before (sector_on app rule sight places) (state_with sight.values stream counts) ≡ ticks =
    ap (wait_of (total (sector_on app rule sight places) sight.values)) time.stream_is ∙ sym time.ticks_is in
    turn_late (sector_on app rule sight places) more (local + rest) local (state_with sight.values stream counts) time.some (omega (arith, late, waits))
    ∙ ap (λ n. state_with sight.values n counts) time.stream_is

-- the event is done
pub event_goes : (app : Application) (rule : Rule) (sight : Sight) (places : List ℕ) (new : List ℕ) (stream rest after ticks : ℕ)
    → IsTimed app rule sight places stream after ticks
    → ticks < rest
    → new ≡ after_event_of (sector_on app rule sight places) sight.values (event_by rule (sector_on app rule sight places) sight.values stream)
    → (more local : ℕ) (counts : Counts)
    → turn_from (sector_on app rule sight places) (suc more) (local + rest) local (state_with sight.values stream counts)
    ≡ turn_from (sector_on app rule sight places) more (local + rest) (local + ticks) (state_with new (next_state after) (with_accepted counts))
event_goes app rule sight places new stream rest after ticks time early new_is more local counts =
    let waits : wait_before (sector_on app rule sight places) (state_with sight.values stream counts) ≡ ticks =
    ap (wait_of (total (sector_on app rule sight places) sight.values)) time.stream_is ∙ sym time.ticks_is in
    turn_goes (sector_on app rule sight places) more (local + rest) local (state_with sight.values stream counts) time.some (omega (arith, early, waits))
    ∙ ap (λ t. turn_from (sector_on app rule sight places) more (local + rest) (local + t) (after_event (sector_on app rule sight places) (state_with sight.values stream counts))) waits
    ∙ ap (λ n. turn_from (sector_on app rule sight places) more (local + rest) (local + ticks) (state_with (after_event_of (sector_on app rule sight places) sight.values (event_by rule (sector_on app rule sight places) sight.values stream)) n (with_accepted counts))) time.stream_is
    ∙ ap (λ (vs : List ℕ). turn_from (sector_on app rule sight places) more (local + rest) (local + ticks) (state_with vs (next_state after) (with_accepted counts))) (sym new_is)

-- an event leaves the sector as it was
pub same_sector : (app : Application) (rule : Rule) (sight later : Sight) (places : List ℕ) → later.near ≡ sight.near → sector_on app rule later places ≡ sector_on app rule sight places
same_sector app rule sight later places near = rw near refl

-- where no event is left
pub turn_ended : (sector : Sector) (window done local : ℕ) (state : RankState) → window ≤ done → turn_from sector (window - done) window local state ≡ state
turn_ended sector window done local state over = let none : window - done ≡ zero = omega (arith, over) in rw none (turn_over sector window local state)
