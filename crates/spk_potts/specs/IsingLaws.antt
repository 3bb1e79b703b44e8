-- The laws of Ising.
use Rattle.std.proofs.Common.{◌≡◌, ℕ, ◌+◌, ◌^◌, ◌<◌, ◌≤◌, if◌then◌else◌, List, [], ◌∷◌, get_or, refl, ap, ◌∙◌, subst, arith}
use Rattle.std.proofs.lemmas.Bool.Decides.{nat_tests}
use Rattle.std.proofs.lemmas.List.Elements.{All-nil, All-cons, All-get_or}
use Rattle.std.specs.Prelude.{All, IsTrue, slice_index}
use Rattle.spk_num.specs.Draws.{next_state, below_of}
use Rattle.spk_lattice.specs.Hops.{IsWithin}
use Rattle.spk_app.specs.Applications.{Event, Trial, HasMark, propensity}
use Rattle.spk_app.specs.Laws.{IsLocal, IsBounded, StaysValid, IsNarrow, shown_trial}
use Rattle.spk_app.specs.Sights.{Sight, Write, LooksSame, values_near}
use Rattle.spk_potts.specs.Energies.{weight_to}
use Rattle.spk_potts.specs.Ising.{IsingSettings, ising, ising_events, ising_trial, is_one_or_two, other_value}
use Rattle.spk_potts.specs.Trials.{proposed}
use Rattle.spk_potts.specs.DrawLaws.{below_is_below}
use Rattle.spk_potts.specs.SightLaws.{same_own, same_near, same_energy, same_proposed, proposed_writes, shown_if, either, one_write, at_own, weight_to_small}

same_trial : (a : IsingSettings) (f : ℕ → ℕ) (here there : Sight) (i stream : ℕ) → LooksSame 1 f here there i → ising_trial a there (f i) stream ≡ shown_trial f (ising_trial a here i stream)
same_trial a f here there i stream looks =
    let t : ℕ = a.temperature in
    let other : ℕ = other_value (slice_index here.values i) in
    let drawn : ℕ = 1 + below_of 2 (next_state stream) in
    ap (λ own. if a.single then proposed t there (f i) (other_value own) stream else proposed t there (f i) drawn (next_state stream)) (same_own f here there i looks)
    ∙ shown_if f a.single (proposed t here i other stream) (proposed t here i drawn (next_state stream)) (proposed t there (f i) other stream) (proposed t there (f i) drawn (next_state stream))
    (same_proposed f here there i t other stream looks) (same_proposed f here there i t drawn (next_state stream) looks)

-- what is true of both values is true of each write of a trial
trial_writes : (P : Write → Type 0) (a : IsingSettings) (s : Sight) (i stream : ℕ)
    → P (record { place = i; value = other_value (slice_index s.values i) })
    → ((drawn : ℕ) → drawn < 2 → P (record { place = i; value = 1 + drawn }))
    → All P (ising_trial a s i stream).writes
trial_writes P a s i stream other any =
    let t : ℕ = a.temperature in
    let drawn : ℕ = below_of 2 (next_state stream) in
    either (λ (trial : Trial). All P trial.writes) a.single (proposed t s i (other_value (slice_index s.values i)) stream) (proposed t s i (1 + drawn) (next_state stream))
    (proposed_writes P t s i (other_value (slice_index s.values i)) stream other) (proposed_writes P t s i (1 + drawn) (next_state stream) (any drawn (below_is_below 2 stream (omega arith))))

pub ising_local : (a : IsingSettings) → IsLocal 1 0 (ising a)
ising_local a = record {
  events = λ f here there i looks.
      ap (λ own. ising_events a.temperature own (values_near there (f i))) (same_own f here there i looks) ∙ ap (ising_events a.temperature (slice_index here.values i)) (same_near f here there i looks);
  energy = λ f here there i looks. same_energy f here there i looks;
  writes = λ f here there i mark looks event. refl;
  trial = λ f here there i stream looks. same_trial a f here there i stream looks;
  reach = λ here i mark event. one_write (λ w. IsWithin here.near 0 i w.place) i mark (at_own here.near i);
  trial_reach = λ here i stream. trial_writes (λ w. IsWithin here.near 0 i w.place) a here i stream (at_own here.near i) (λ drawn less. at_own here.near i);
}

one_weight : (temperature own : ℕ) (near : List ℕ) → propensity (ising_events temperature own near) ≤ 2 ^ 30
unfolding propensity
one_weight temperature own near = omega (arith, weight_to_small temperature own (other_value own) near)

pub ising_bounded : (a : IsingSettings) → IsBounded (ising a)
ising_bounded a = record {
  few = λ here i near. omega arith;
  small = λ here i.
      let own : ℕ = slice_index here.values i in
      let event : Event = record { mark = other_value own; weight = weight_to a.temperature own (other_value own) (values_near here i) } in
      All-cons (λ (e : Event). e.weight ≤ 2 ^ 30) event [] (weight_to_small a.temperature own (other_value own) (values_near here i)) (All-nil (λ (e : Event). e.weight ≤ 2 ^ 30));
  largest = λ here i near. one_weight a.temperature (slice_index here.values i) (values_near here i);
  above = omega arith;
  limit = omega arith;
}

other_valid : (v : ℕ) → IsTrue (is_one_or_two v) → IsTrue (is_one_or_two (other_value v))
other_valid v valid = grind (arith, nat_tests)

drawn_valid : (drawn : ℕ) → drawn < 2 → IsTrue (is_one_or_two (1 + drawn))
drawn_valid drawn less = grind (arith, nat_tests)

-- the mark of the one event
one_mark : (temperature own mark : ℕ) (near : List ℕ) → HasMark (ising_events temperature own near) mark → other_value own ≡ mark
unfolding HasMark
one_mark temperature own mark near (k, within, is) =
    let first : k ≡ 0 = omega arith in
    subst (λ n. get_or (other_value own ∷ []) n mark ≡ mark) first is

pub ising_stays_valid : (a : IsingSettings) → StaysValid 1 (ising a)
ising_stays_valid a = record {
  event = λ here i mark around valid event.
      let own : IsTrue (is_one_or_two (slice_index here.values i)) = All-get_or (λ v. IsTrue (is_one_or_two v)) here.values i 0 around.0 valid in
      one_write (λ w. IsTrue (is_one_or_two w.value)) i mark
      (subst (λ v. IsTrue (is_one_or_two v)) (one_mark a.temperature (slice_index here.values i) mark (values_near here i) event) (other_valid (slice_index here.values i) own));
  trial = λ here i stream around valid.
      let own : IsTrue (is_one_or_two (slice_index here.values i)) = All-get_or (λ v. IsTrue (is_one_or_two v)) here.values i 0 around.0 valid in
      trial_writes (λ w. IsTrue (is_one_or_two w.value)) a here i stream (other_valid (slice_index here.values i) own) drawn_valid;
}

pub ising_narrow : IsNarrow 1 0
ising_narrow = record { closer = omega arith; few = omega arith }
