-- Sights that show everything, and marks of listed events.
use Rattle.std.proofs.Common.{◌≡◌, ℕ, zero, suc, ◌<◌, true, List, map, sym, subst, arith, rules}
use Rattle.std.proofs.lemmas.List.FromFn.{length-map-range_with_len, get_or-map-range_with_len}
use Rattle.std.proofs.lemmas.Simd.{map-map}
use Rattle.std.specs.List.{Contains, range_with_len}
use Rattle.std.specs.Prelude.{IsTrue, slice_index, slice_index_or}
use Rattle.spk_app.specs.declared.events.Events.{Events}
use Rattle.spk_app.specs.Applications.{Event, HasMark, listed}
use Rattle.spk_app.specs.Sights.{Around}

pub all_around : (near : ℕ → List ℕ) (d i : ℕ) → Around d near (λ j. IsTrue true) i
all_around near zero i = search rules
all_around near (suc d) i = (search rules, λ k e less. all_around near d (slice_index_or (near i) k e))

-- each event that counts has a mark
has_mark : (events : Events) (k : ℕ) → k < events.count → HasMark (listed events) (slice_index events.marks k)
unfolding HasMark listed
has_mark events k less =
    let marks : List ℕ = map (slice_index events.marks) (range_with_len 0 events.count) in
    let m : ℕ = slice_index events.marks k in
    let at : Contains marks m = (
      k,
      omega (arith, length-map-range_with_len (slice_index events.marks) 0 events.count),
      get_or-map-range_with_len (slice_index events.marks) 0 events.count k k m less (omega arith),
    ) in
    subst (λ (xs : List ℕ). Contains xs m) (sym (map-map (λ (e : Event). e.mark) (λ n. record { mark = slice_index events.marks n; weight = slice_index events.weights n }) (range_with_len 0 events.count))) at

pub has_mark_of : (listing : Events) (events : List Event) (k : ℕ) → listed listing ≡ events → k < listing.count → HasMark events (slice_index listing.marks k)
has_mark_of listing events k are less = subst (λ (es : List Event). HasMark es (slice_index listing.marks k)) are (has_mark listing k less)
