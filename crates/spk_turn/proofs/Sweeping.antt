-- Sweeps, one pick at a time.
use Rattle.std.proofs.Common.{◌≡◌, ℕ, zero, suc, ◌+◌, ◌-◌, ◌<◌, ◌≤◌, List, get_or, length, refl, sym, ap, ◌∙◌, arith}
use Rattle.std.specs.Prelude.{All, Bool, IsTrue}
use Rattle.spk_num.specs.Draws.{next_state, below_of}
use Rattle.spk_num.specs.declared.sweep.Sweep.{Sweep}
use Rattle.spk_num.specs.declared.sweep.Sweep.TheVariants.{Random, Raster, Color}
use Rattle.spk_app.specs.Sights.{Sight, with_written, written}
use Rattle.spk_app.specs.Applications.{Application}
use Rattle.spk_app.specs.Laws.{StaysValid}
use Rattle.spk_solve.specs.Choice.{Rule}
use Rattle.spk_sched.specs.declared.counts.Counts.{Counts}
use Rattle.spk_sched.specs.Turns.{Sector, RankState, Pick, pick_by, after_pick, picks_from, sweep_of, sweeps_of}
use Rattle.spk_turn.specs.Ready.{IsReady, sector_on}
use Rattle.spk_turn.specs.Slots.{BoxSlots, place_of, places, slot_count}
use Rattle.spk_turn.proofs.Hops.{around_within, written_all, written_length}
use Rattle.spk_turn.proofs.SlotLaws.{count_is, place_at}
use Rattle.spk_turn.proofs.Steps.{same_sector, state_with}

-- the place that is drawn
pub drawn_place : (style : Sweep) (s : BoxSlots) (k stream count slot after place : ℕ)
    → style ≡ Random
    → count ≡ slot_count s
    → slot < count
    → after ≡ next_state stream
    → slot ≡ below_of count after
    → place ≡ place_of s slot
    → place ≡ (pick_by style (places s) k stream).place
drawn_place style s k stream count slot after place is all less after_is drawn at =
    let same : slot ≡ below_of (length (places s)) (next_state stream) = drawn ∙ ap (λ n. below_of n after) (all ∙ sym (count_is s)) ∙ ap (below_of (length (places s))) after_is in
    rw is (at ∙ sym (place_at s slot (omega (arith, less, all))) ∙ ap (λ j. get_or (places s) j 0) same)

-- the place of a raster
pub raster_pick : (style : Sweep) (s : BoxSlots) (k stream : ℕ) → (style ≡ Random → ⊥) → k < slot_count s → pick_by style (places s) k stream ≡ record { place = place_of s k; stream = stream }
raster_pick Random s k stream other less = absurd (other refl)
raster_pick Raster s k stream other less = ap (λ (place : ℕ). record { place = place; stream = stream }) (place_at s k less)
raster_pick Color s k stream other less = ap (λ (place : ℕ). record { place = place; stream = stream }) (place_at s k less)

-- a trial leaves a view ready
pub trial_ready : (app : Application) (whole after : ℕ → Bool) (prop hops place stream : ℕ) (sight new : Sight)
    → IsReady app whole hops sight
    → StaysValid prop app
    → place < length sight.values
    → new ≡ with_written (app.trial sight place stream).writes sight
    → after ≡ whole
    → IsReady app after hops new
trial_ready app whole after prop hops place stream sight new ready stays less new_is whole_is =
    let all : length (written (app.trial sight place stream).writes sight.values) ≡ length sight.values = written_length (app.trial sight place stream).writes sight.values in
    let fine : All (λ v. IsTrue (app.is_valid v)) (written (app.trial sight place stream).writes sight.values) =
    written_all (λ v. IsTrue (app.is_valid v)) (app.trial sight place stream).writes sight.values ready.valid
    (stays.trial sight place stream (around_within sight.near (length sight.values) prop place ready.both_ways less) ready.valid) in
    rw (new_is, whole_is) (record {
      both_ways = rw all ready.both_ways;
      all_whole = ready.all_whole;
      valid = fine;
      room = λ other inside. ready.room other (rw all at inside);
      limit = rw all ready.limit;
    })

pub trial_length : (app : Application) (place stream : ℕ) (sight new : Sight) → new ≡ with_written (app.trial sight place stream).writes sight → length new.values ≡ length sight.values
trial_length app place stream sight new new_is = ap (λ (s : Sight). length s.values) new_is ∙ written_length (app.trial sight place stream).writes sight.values

-- a pick, and then the rest
pick_first : (style : Sweep) (sector : Sector) (n k : ℕ) (state : RankState) → k < n →
    picks_from style sector (n - k) k state ≡ picks_from style sector (n - (k + 1)) (k + 1) (after_pick sector state (pick_by style sector.places k state.stream))
unfolding picks_from
pick_first style sector n k state less = let one : n - k ≡ suc (n - (k + 1)) = omega (arith, less) in rw one refl

same_picks : (p q : Pick) → p.place ≡ q.place → p.stream ≡ q.stream → p ≡ q
same_picks p q place stream = rw (place, stream)

-- after a pick the rest leads to the same end
pub pick_goes : (app : Application) (sight now new : Sight) (places : List ℕ) (style : Sweep) (start : RankState) (k place stream picked after : ℕ) (counts more : Counts)
    → k < length places
    → now.near ≡ sight.near
    → place ≡ (pick_by style places k stream).place
    → picked ≡ (pick_by style places k stream).stream
    → ((rule : Rule) (sites : List ℕ) → after_pick (sector_on app rule now sites) (state_with now.values picked counts) (record { place = place; stream = picked }) ≡ state_with new.values after more)
    → ((rule : Rule) → picks_from style (sector_on app rule sight places) (length places - k) k (state_with now.values stream counts) ≡ sweep_of style (sector_on app rule sight places) start)
    → (rule : Rule)
    → picks_from style (sector_on app rule sight places) (length places - (k + 1)) (k + 1) (state_with new.values after more) ≡ sweep_of style (sector_on app rule sight places) start
pick_goes app sight now new places style start k place stream picked after counts more less near place_is picked_is state whole rule =
    let sector : Sector = sector_on app rule sight places in
    let before : RankState = state_with now.values stream counts in
    let pick : Pick = pick_by style places k stream in
    let landed : after_pick sector before pick ≡ state_with new.values after more =
    ap (λ (s : Sector). after_pick s before pick) (sym (same_sector app rule sight now places near))
    ∙ ap (after_pick (sector_on app rule now places) before) (same_picks pick (record { place = place; stream = picked }) (sym place_is) (sym picked_is))
    ∙ state rule places in
    sym (pick_first style sector (length places) k before less ∙ ap (picks_from style sector (length places - (k + 1)) (k + 1)) landed) ∙ whole rule

-- no pick is left
pub picks_end : (style : Sweep) (sector : Sector) (n k : ℕ) (state : RankState) → n ≤ k → picks_from style sector (n - k) k state ≡ state
unfolding picks_from
picks_end style sector n k state past = let none : n - k ≡ zero = omega (arith, past) in rw none refl

-- a sweep, and then the rest
sweep_first : (style : Sweep) (sector : Sector) (n k : ℕ) (state : RankState) → k < n → sweeps_of style sector (n - k) state ≡ sweeps_of style sector (n - (k + 1)) (sweep_of style sector state)
unfolding sweeps_of
sweep_first style sector n k state less = let one : n - k ≡ suc (n - (k + 1)) = omega (arith, less) in rw one refl

-- after a sweep the rest leads to the same end
pub sweep_goes : (app : Application) (sight now new : Sight) (places : List ℕ) (style : Sweep) (start : RankState) (n k stream after : ℕ) (counts more : Counts)
    → k < n
    → now.near ≡ sight.near
    → ((rule : Rule) → sweep_of style (sector_on app rule now places) (state_with now.values stream counts) ≡ state_with new.values after more)
    → ((rule : Rule) → sweeps_of style (sector_on app rule sight places) (n - k) (state_with now.values stream counts) ≡ sweeps_of style (sector_on app rule sight places) n start)
    → (rule : Rule)
    → sweeps_of style (sector_on app rule sight places) (n - (k + 1)) (state_with new.values after more) ≡ sweeps_of style (sector_on app rule sight places) n start
sweep_goes app sight now new places style start n k stream after counts more less near swept whole rule =
    let sector : Sector = sector_on app rule sight places in
    let before : RankState = state_with now.values stream counts in
    let landed : sweep_of style sector before ≡ state_with new.values after more = ap (λ (s : Sector). sweep_of style s before) (sym (same_sector app rule sight now places near)) ∙ swept rule in
    sym (sweep_first style sector n k before less ∙ ap (sweeps_of style sector (n - (k + 1))) landed) ∙ whole rule

-- no sweep is left
pub sweeps_end : (style : Sweep) (sector : Sector) (n k : ℕ) (state : RankState) → n ≤ k → sweeps_of style sector (n - k) state ≡ state
unfolding sweeps_of
sweeps_end style sector n k state past = let none : n - k ≡ zero = omega (arith, past) in rw none refl
