-- What tests need of views and events.
use Rattle.std.proofs.Common.{◌≡◌, ℕ, zero, suc, ◌<◌, true, List, length, get_or, refl, ap, ◌∙◌, arith}
use Rattle.std.proofs.lemmas.List.Elements.{All-from_get_or}
use Rattle.std.proofs.lemmas.List.{length-map, get_or-map}
use Rattle.std.proofs.lemmas.List.FromFn.{length-map-range_with_len, get_or-map-range_with_len}
use Rattle.std.specs.Prelude.{IsTrue, slice_index}
use Rattle.spk_app.specs.Sights.{Around}
use Rattle.spk_app.specs.Applications.{Event, HasMark, listed}
use Rattle.spk_app.specs.declared.events.Events.{Events}

-- where all places are seen
pub all_seen : (near : ℕ → List ℕ) (d i : ℕ) → Around d near (λ j. IsTrue true) i
all_seen near zero i = refl
all_seen near (suc d) i = (refl, All-from_get_or (Around d near (λ j. IsTrue true)) (near i) 0 (λ k within. all_seen near d (get_or (near i) k 0)))

-- the first event has the first mark
pub first_mark : (e : Events) (events : List Event) → listed e ≡ events → 0 < e.count → HasMark events (slice_index e.marks 0)
unfolding HasMark listed
first_mark e events are some =
    let none : Event = record { mark = 0; weight = 0 } in
    let at : ℕ → Event = λ k. record { mark = slice_index e.marks k; weight = slice_index e.weights k } in
    let within : 0 < length (listed e) = omega (arith, length-map-range_with_len at 0 e.count) in
    rw (← are) (
      0,
      omega (arith, within, length-map (listed e) (λ (x : Event). x.mark)),
      get_or-map (λ (x : Event). x.mark) (listed e) 0 none (slice_index e.marks 0) within ∙ ap (λ (x : Event). x.mark) (get_or-map-range_with_len at 0 e.count 0 0 none some refl),
    )
