-- What an event leaves as it was, and what it keeps.
use Rattle.std.proofs.Common.{◌≡◌, ◌≢◌, ℕ, ◌+◌, ◌-◌, ◌<◌, List, [], ◌∷◌, length, map, get_or, sym, ap, ◌∙◌, subst, inl, inr, arith}
use Rattle.std.proofs.lemmas.Bool.Decides.{nat_tests}
use Rattle.std.proofs.lemmas.List.{get_or_default, map-id}
use Rattle.std.proofs.lemmas.List.Elements.{All-get_or, All-contains, All-weaker}
use Rattle.std.specs.List.{list_any}
use Rattle.std.specs.Prelude.{Bool, IsTrue, All, Contains, nat_eq, slice_index}
use Rattle.spk_lattice.specs.Hops.{IsMutual, IsWithin, ReachesAtMost}
use Rattle.spk_lattice.proofs.Hops.{within_back, within_join}
use Rattle.spk_app.specs.Sights.{Sight, Around, LooksSame, written, with_written}
use Rattle.spk_app.specs.Applications.{Application, HasMark, propensity}
use Rattle.spk_app.specs.Laws.{IsLocal, StaysValid}
use Rattle.spk_turn.specs.Noted.{AreNoted}
use Rattle.spk_turn.specs.Reached.{IsNear, ReachAtMost}
use Rattle.spk_turn.specs.Ready.{IsReady, propensities_in}
use Rattle.spk_turn.specs.declared.changes.Changes.{Changes}
use Rattle.spk_turn.proofs.Adding.{true_or_false, found, missing}
use Rattle.spk_turn.proofs.Anew.{propensity_at}
use Rattle.spk_turn.proofs.Gathering.{one_near, one_inside, all_inside}
use Rattle.spk_turn.proofs.Hops.{around_from, around_all, around_within, written_far, written_length, written_all}

-- all is in view
pub all_seen : (app : Application) (whole : ℕ → Bool) (hops d : ℕ) (sight : Sight) (place : ℕ) → IsReady app whole hops sight → Around d sight.near (λ j. IsTrue (whole j)) place
all_seen app whole hops d sight place ready = around_all sight.near d place (λ j. IsTrue (whole j)) ready.all_whole

-- an event leaves a view ready
pub still_ready : (app : Application) (whole after : ℕ → Bool) (prop hops place mark : ℕ) (sight new : Sight)
    → IsReady app whole hops sight
    → StaysValid prop app
    → place < length sight.values
    → HasMark (app.events sight place) mark
    → new ≡ with_written (app.writes sight place mark) sight
    → after ≡ whole
    → IsReady app after hops new
still_ready app whole after prop hops place mark sight new ready stays less marked new_is whole_is =
    let all : length (written (app.writes sight place mark) sight.values) ≡ length sight.values = written_length (app.writes sight place mark) sight.values in
    let fine : All (λ v. IsTrue (app.is_valid v)) (written (app.writes sight place mark) sight.values) =
    written_all (λ v. IsTrue (app.is_valid v)) (app.writes sight place mark) sight.values ready.valid
    (stays.event sight place mark (around_within sight.near (length sight.values) prop place ready.both_ways less) ready.valid marked) in
    rw (new_is, whole_is) (record {
      both_ways = rw all ready.both_ways;
      all_whole = ready.all_whole;
      valid = fine;
      room = λ other inside. ready.room other (rw all at inside);
      limit = rw all ready.limit;
    })

pub same_length : (app : Application) (place mark : ℕ) (sight new : Sight) → new ≡ with_written (app.writes sight place mark) sight → length new.values ≡ length sight.values
same_length app place mark sight new new_is = ap (λ (s : Sight). length s.values) new_is ∙ written_length (app.writes sight place mark) sight.values

pub same_near : (app : Application) (place mark : ℕ) (sight new : Sight) → new ≡ with_written (app.writes sight place mark) sight → new.near ≡ sight.near
same_near app place mark sight new new_is = ap (λ (s : Sight). s.near) new_is

-- a place beside which so many hops lead to the same values looks the same
same_looks_same : (near : ℕ → List ℕ) (prop k : ℕ) (old new : List ℕ)
    → ((j : ℕ) → IsWithin near prop k j → slice_index old j ≡ slice_index new j)
    → LooksSame prop (λ j. j) (record { values = old; near = near }) (record { values = new; near = near }) k
same_looks_same near prop k old new same = record {
  values = around_from near prop k (λ j. slice_index old j ≡ slice_index new j) same;
  near = around_all near (prop - 1) k (λ j. map (λ j. j) (near j) ≡ near j) (λ j. map-id (near j));
  once = around_all near prop k (λ j. j ≡ k → j ≡ k) (λ j is. is);
}

-- a place that isn't there has the value that it had, where all that an event may write are
kept_value : (app : Application) (prop step place mark j : ℕ) (sight : Sight) (changes : Changes)
    → IsLocal prop step app
    → HasMark (app.events sight place) mark
    → AreNoted sight.near sight.values step place changes
    → (Contains changes.places j → ⊥)
    → slice_index sight.values j ≡ slice_index (written (app.writes sight place mark) sight.values) j
kept_value app prop step place mark j sight changes local marked noted lacks =
    sym (written_far sight.near step place j (app.writes sight place mark) sight.values (local.reach sight place mark marked) (λ there. lacks (noted.covers j there)))

-- one that is there has it too, unless it is among those that changed
same_value : (j : ℕ) (old new : List ℕ) (changes : Changes) (changed : List ℕ)
    → ((k : ℕ) → k < length changes.places → slice_index changes.before k ≡ slice_index old (slice_index changes.places k))
    → ((k : ℕ) → k < length changes.places → slice_index changes.before k ≢ slice_index new (slice_index changes.places k) → Contains changed (slice_index changes.places k))
    → Contains changes.places j
    → (Contains changed j → ⊥)
    → slice_index old j ≡ slice_index new j
same_value j old new changes changed before all (k, less, at) lacks =
    let there : get_or changes.places k 0 ≡ j = get_or_default changes.places k 0 j less ∙ at in
    elim (true_or_false (nat_eq (get_or changes.before k 0) (slice_index new (get_or changes.places k 0)))) [
      | inl same ↦
          let is : get_or changes.before k 0 ≡ slice_index new (get_or changes.places k 0) = grind (arith, nat_tests) in
          ap (slice_index old) (sym there) ∙ sym (before k less) ∙ is ∙ ap (slice_index new) there
      | inr other ↦
          let apart : get_or changes.before k 0 ≢ slice_index new (get_or changes.places k 0) = λ same. absurd (grind (arith, nat_tests)) in
          absurd (lacks (subst (Contains changed) there (all k less apart)))
    ]

-- the propensity of a site that more hops lead to from each place that changed stays as it was
pub far_stays : (app : Application) (whole : ℕ → Bool) (prop step place mark : ℕ) (sight new : Sight) (changes : Changes) (changed places kept : List ℕ)
    → IsReady app whole (prop + step) sight
    → IsLocal prop step app
    → HasMark (app.events sight place) mark
    → new ≡ with_written (app.writes sight place mark) sight
    → AreNoted sight.near sight.values step place changes
    → ((k : ℕ) → k < length changes.places → slice_index changes.before k ≢ slice_index new.values (slice_index changes.places k) → Contains changed (slice_index changes.places k))
    → kept ≡ propensities_in app sight places
    → All (λ j. j < length sight.values) places
    → (slot : ℕ)
    → slot < length places
    → (IsNear new.near prop changed (get_or places slot 0) → ⊥)
    → get_or kept slot 0 ≡ propensity (app.events new (get_or places slot 0))
far_stays app whole prop step place mark sight new changes changed places kept ready local marked new_is noted all kept_is inside slot within far =
    let other : ℕ = get_or places slot 0 in
    let stands : other < length sight.values = All-get_or (λ j. j < length sight.values) places slot 0 within inside in
    let values : new.values ≡ written (app.writes sight place mark) sight.values = ap (λ (s : Sight). s.values) new_is in
    let away : IsNear sight.near prop changed other → ⊥ = subst (λ (near : ℕ → List ℕ). IsNear near prop changed other → ⊥) (same_near app place mark sight new new_is) far in
    let same : (j : ℕ) → IsWithin sight.near prop other j → slice_index sight.values j ≡ slice_index (written (app.writes sight place mark) sight.values) j = λ j reached.
    let lacks : Contains changed j → ⊥ = λ has. away (j, has, within_back sight.near (λ j. j < length sight.values) prop other j ready.both_ways stands reached) in
    elim (true_or_false (list_any (λ k. nat_eq k j) changes.places)) [
      | inl there ↦ same_value j sight.values (written (app.writes sight place mark) sight.values) changes changed noted.before (rw values at all) (found changes.places j there) lacks
      | inr absent ↦ kept_value app prop step place mark j sight changes local marked noted (missing changes.places j absent)
    ] in
    let looks : LooksSame prop (λ j. j) sight (with_written (app.writes sight place mark) sight) other =
    same_looks_same sight.near prop other sight.values (written (app.writes sight place mark) sight.values) same in
    ap (λ (xs : List ℕ). get_or xs slot 0) kept_is ∙ propensity_at app sight places slot within ∙ ap propensity (sym (local.events (λ j. j) sight (with_written (app.writes sight place mark) sight) other looks))
    ∙ ap (λ (s : Sight). propensity (app.events s other)) (sym new_is)

-- ---- how many places an event can reach

-- what so many hops lead to from a place that changed lies within a few more of the event's own
near_changed : (near : ℕ → List ℕ) (prop step place j : ℕ) (values changed : List ℕ) (changes : Changes)
    → AreNoted near values step place changes
    → All (Contains changes.places) changed
    → IsNear near prop changed j
    → IsWithin near (prop + step) place j
near_changed near prop step place j values changed changes noted some (o, (k, less, at), reached) =
    let has : Contains changes.places o = subst (Contains changes.places) at (All-get_or (Contains changes.places) changed k o less some) in
    let first : IsWithin near step place o = one_near near step place o (All-contains (IsNear near step (place ∷ [])) changes.places o noted.reached.within has) in
    within_join near step prop (prop + step) place o j (omega arith) first reached

pub reach_changed : (near : ℕ → List ℕ) (prop step place most : ℕ) (values changed : List ℕ) (changes : Changes)
    → AreNoted near values step place changes
    → All (Contains changes.places) changed
    → ReachesAtMost near (prop + step) place most
    → ReachAtMost near prop changed most
unfolding ReachAtMost ReachesAtMost
reach_changed near prop step place most values changed changes noted some room = λ xs once reached.
    room xs once (All-weaker (IsNear near prop changed) (λ j. IsWithin near (prop + step) place j) (λ j h. near_changed near prop step place j values changed changes noted some h) xs reached)

-- all that changed stands in the view
pub changed_inside : (near : ℕ → List ℕ) (n step place : ℕ) (values changed : List ℕ) (changes : Changes)
    → IsMutual near (λ j. j < n)
    → place < n
    → AreNoted near values step place changes
    → All (Contains changes.places) changed
    → All (λ j. j < n) changed
changed_inside near n step place values changed changes both less noted some =
    let inside : All (λ j. j < n) changes.places = all_inside near n step (place ∷ []) changes.places both (one_inside n place less) noted.reached in
    All-weaker (Contains changes.places) (λ j. j < n) (λ j has. All-contains (λ j. j < n) changes.places j inside has) changed some

pub noted_inside : (near : ℕ → List ℕ) (n step place : ℕ) (values : List ℕ) (changes : Changes) → IsMutual near (λ j. j < n) → place < n → AreNoted near values step place changes → All (λ j. j < n) changes.places
noted_inside near n step place values changes both less noted = all_inside near n step (place ∷ []) changes.places both (one_inside n place less) noted.reached
