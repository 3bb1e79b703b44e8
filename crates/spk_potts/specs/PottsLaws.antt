-- The laws of Potts.
use Rattle.std.proofs.Common.{◌≡◌, ℕ, suc, ◌+◌, ◌*◌, ◌^◌, ◌<◌, ◌≤◌, ◌==◌, if◌then◌else◌, List, [], ◌∷◌, ◌++◌, map, length, refl, ap, ◌∙◌, arith}
use Rattle.std.proofs.lemmas.Bool.{cond_both}
use Rattle.std.proofs.lemmas.Bool.Decides.{nat_tests}
use Rattle.std.proofs.lemmas.List.{length-map}
use Rattle.std.proofs.lemmas.List.Elements.{All-nil, All-cons, All-head, All-tail, All-get_or, All-map, All-weaker, All-contains}
use Rattle.std.proofs.lemmas.List.Sums.{sum_by-le}
use Rattle.std.specs.List.{list_any}
use Rattle.std.specs.Prelude.{All, IsTrue, slice_index, slice_index_or}
use Rattle.spk_num.specs.Draws.{next_state, below_of}
use Rattle.spk_lattice.proofs.Ways.{degree_some, degree_few}
use Rattle.spk_lattice.specs.Hops.{IsWithin}
use Rattle.spk_app.specs.Applications.{Event, Trial, HasMark, propensity}
use Rattle.spk_app.specs.Laws.{IsLocal, IsBounded, StaysValid, IsNarrow, shown_trial}
use Rattle.spk_app.specs.Sights.{Sight, Write, LooksSame, values_near}
use Rattle.spk_potts.specs.DrawLaws.{below_is_below}
use Rattle.spk_potts.specs.Potts.{PottsSettings, potts, potts_events, potts_trial, near_trial, event_to, first_values, other_values, one_of, is_from_one_to}
use Rattle.spk_potts.specs.SightLaws.{same_own, same_near, same_energy, same_proposed, proposed_writes, shown_if, either, one_write, at_own, weight_to_small}
use Rattle.spk_potts.specs.Trials.{proposed, rejected}

-- the values that first appear are no more than those that were given
first_few : (seen vs : List ℕ) → length (first_values seen vs) ≤ length vs
first_few seen [] = omega arith
first_few seen (v ∷ vs) =
    either (λ (xs : List ℕ). length xs ≤ suc (length vs)) (list_any (λ u. u == v) seen) (first_values seen vs) (v ∷ first_values (seen ++ v ∷ []) vs)
    (omega (arith, first_few seen vs)) (omega (arith, first_few (seen ++ v ∷ []) vs))

-- what is true of each value is true of each that first appears
first_all : (P : ℕ → Type 0) (seen vs : List ℕ) → All P vs → All P (first_values seen vs)
first_all P seen [] all = all
first_all P seen (v ∷ vs) all =
    either (All P) (list_any (λ u. u == v) seen) (first_values seen vs) (v ∷ first_values (seen ++ v ∷ []) vs)
    (first_all P seen vs (All-tail P v vs all))
    (All-cons P v (first_values (seen ++ v ∷ []) vs) (All-head P v vs all) (first_all P (seen ++ v ∷ []) vs (All-tail P v vs all)))

same_near_trial : (t : ℕ) (f : ℕ → ℕ) (here there : Sight) (i stream : ℕ) → LooksSame 1 f here there i → near_trial t there (f i) stream ≡ shown_trial f (near_trial t here i stream)
same_near_trial t f here there i stream looks =
    let draw : ℕ = next_state stream in
    let own : ℕ = slice_index here.values i in
    let others : List ℕ = other_values own (values_near here i) in
    let tried : ℕ → List ℕ → Trial = λ own near. if length (other_values own near) == 0 then rejected stream else proposed t there (f i) (one_of (other_values own near) draw) draw in
    ap (λ v. tried v (values_near there (f i))) (same_own f here there i looks) ∙ ap (tried own) (same_near f here there i looks)
    ∙ shown_if f (length others == 0) (rejected stream) (proposed t here i (one_of others draw) draw) (rejected stream) (proposed t there (f i) (one_of others draw) draw) refl
    (same_proposed f here there i t (one_of others draw) draw looks)

same_trial : (a : PottsSettings) (f : ℕ → ℕ) (here there : Sight) (i stream : ℕ) → LooksSame 1 f here there i → potts_trial a there (f i) stream ≡ shown_trial f (potts_trial a here i stream)
same_trial a f here there i stream looks =
    let t : ℕ = a.temperature in
    let drawn : ℕ = 1 + below_of a.q (next_state stream) in
    shown_if f a.neighonly (near_trial t here i stream) (proposed t here i drawn (next_state stream)) (near_trial t there (f i) stream) (proposed t there (f i) drawn (next_state stream))
    (same_near_trial t f here there i stream looks) (same_proposed f here there i t drawn (next_state stream) looks)

near_writes : (P : Write → Type 0) (t : ℕ) (s : Sight) (i stream : ℕ)
    → All (λ v. P (record { place = i; value = v })) (other_values (slice_index s.values i) (values_near s i))
    → All P (near_trial t s i stream).writes
near_writes P t s i stream all =
    let draw : ℕ = next_state stream in
    let others : List ℕ = other_values (slice_index s.values i) (values_near s i) in
    cond_both (length others == 0) (rejected stream) (proposed t s i (one_of others draw) draw) (λ (trial : Trial). All P trial.writes)
    (λ none. All-nil P)
    (λ some.
    let count : 0 < length others = grind (arith, nat_tests) in
    proposed_writes P t s i (one_of others draw) draw (All-get_or (λ v. P (record { place = i; value = v })) others (below_of (length others) draw) 0 (below_is_below (length others) stream count) all))

-- what is true of the values of neighbours and of a drawn one is true of each write of a trial
trial_writes : (P : Write → Type 0) (a : PottsSettings) (s : Sight) (i stream : ℕ)
    → All (λ v. P (record { place = i; value = v })) (other_values (slice_index s.values i) (values_near s i))
    → P (record { place = i; value = 1 + below_of a.q (next_state stream) })
    → All P (potts_trial a s i stream).writes
trial_writes P a s i stream all drawn =
    let t : ℕ = a.temperature in
    let value : ℕ = 1 + below_of a.q (next_state stream) in
    either (λ (trial : Trial). All P trial.writes) a.neighonly (near_trial t s i stream) (proposed t s i value (next_state stream))
    (near_writes P t s i stream all) (proposed_writes P t s i value (next_state stream) drawn)

pub potts_local : (a : PottsSettings) → IsLocal 1 0 (potts a)
potts_local a = record {
  events = λ f here there i looks.
      ap (λ own. potts_events a.temperature own (values_near there (f i))) (same_own f here there i looks) ∙ ap (potts_events a.temperature (slice_index here.values i)) (same_near f here there i looks);
  energy = λ f here there i looks. same_energy f here there i looks;
  writes = λ f here there i mark looks event. refl;
  trial = λ f here there i stream looks. same_trial a f here there i stream looks;
  reach = λ here i mark event. one_write (λ w. IsWithin here.near 0 i w.place) i mark (at_own here.near i);
  trial_reach = λ here i stream. trial_writes (λ w. IsWithin here.near 0 i w.place) a here i stream (λ k d less. at_own here.near i) (at_own here.near i);
}

small_weights : (temperature own : ℕ) (near : List ℕ) → All (λ (e : Event). e.weight ≤ 2 ^ 30) (potts_events temperature own near)
small_weights temperature own near =
    All-map (λ (e : Event). e.weight ≤ 2 ^ 30) (event_to temperature own near) (other_values own near) (λ k d less. weight_to_small temperature own (slice_index_or (other_values own near) k d) near)

few_events : (temperature own : ℕ) (s : Sight) (i most : ℕ) → length (s.near i) ≤ most → length (potts_events temperature own (values_near s i)) ≤ most
few_events temperature own s i most few =
    omega (arith, length-map (other_values own (values_near s i)) (event_to temperature own (values_near s i)), first_few (own ∷ []) (values_near s i), length-map (s.near i) (slice_index s.values))

few_weights : (temperature own : ℕ) (s : Sight) (i most : ℕ) → length (s.near i) ≤ most → propensity (potts_events temperature own (values_near s i)) ≤ most * 2 ^ 30
unfolding propensity
few_weights temperature own s i most few =
    let events : List Event = potts_events temperature own (values_near s i) in
    omega (arith, sum_by-le (λ (e : Event). e.weight) (2 ^ 30) events (small_weights temperature own (values_near s i)), few_events temperature own s i most few)

pub potts_bounded : (a : PottsSettings) → IsBounded (potts a)
potts_bounded a = record {
  few = λ here i few. few_events a.temperature (slice_index here.values i) here i 26 few;
  small = λ here i. small_weights a.temperature (slice_index here.values i) (values_near here i);
  largest = λ here i few. few_weights a.temperature (slice_index here.values i) here i (potts a).degree few;
  above = omega (arith, degree_some a.style);
  limit = omega (arith, degree_few a.style);
}

some_values : (q v : ℕ) → IsTrue (is_from_one_to q v) → 0 < q
some_values q v valid = grind (arith, nat_tests)

drawn_valid : (q drawn : ℕ) → drawn < q → IsTrue (is_from_one_to q (1 + drawn))
drawn_valid q drawn less = grind (arith, nat_tests)

-- what is true of each value in the sight is true of the values of neighbours in it
others_all : (P : ℕ → Type 0) (s : Sight) (i : ℕ) → All (λ j. j < length s.values) (s.near i) → All P s.values → All P (other_values (slice_index s.values i) (values_near s i))
others_all P s i inside all =
    first_all P (slice_index s.values i ∷ []) (values_near s i)
    (All-map P (slice_index s.values) (s.near i) (All-weaker (λ j. j < length s.values) (λ j. P (slice_index s.values j)) (λ j less. All-get_or P s.values j 0 less all) (s.near i) inside))

-- a mark is one of the other values
mark_all : (P : ℕ → Type 0) (temperature own mark : ℕ) (near : List ℕ) → All P (other_values own near) → HasMark (potts_events temperature own near) mark → P mark
unfolding HasMark
mark_all P temperature own mark near all event =
    All-contains P (map (λ (e : Event). e.mark) (potts_events temperature own near)) mark
    (All-map P (λ (e : Event). e.mark) (potts_events temperature own near) (All-map (λ (e : Event). P e.mark) (event_to temperature own near) (other_values own near) all)) event

pub potts_stays_valid : (a : PottsSettings) → StaysValid 1 (potts a)
potts_stays_valid a = record {
  event = λ here i mark around valid event.
      let P : ℕ → Type 0 = λ v. IsTrue (is_from_one_to a.q v) in
      one_write (λ w. P w.value) i mark (mark_all P a.temperature (slice_index here.values i) mark (values_near here i) (others_all P here i around.1 valid) event);
  trial = λ here i stream around valid.
      let P : ℕ → Type 0 = λ v. IsTrue (is_from_one_to a.q v) in
      let some : 0 < a.q = some_values a.q (slice_index here.values i) (All-get_or P here.values i 0 around.0 valid) in
      trial_writes (λ w. P w.value) a here i stream (others_all P here i around.1 valid) (drawn_valid a.q (below_of a.q (next_state stream)) (below_is_below a.q stream some));
}

pub potts_narrow : IsNarrow 1 0
potts_narrow = record { closer = omega arith; few = omega arith }
