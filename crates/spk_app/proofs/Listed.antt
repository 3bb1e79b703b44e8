-- Events as they are listed.
use Rattle.std.proofs.Common.{◌≡◌, ◌≢◌, ℕ, ◌+◌, ◌^◌, ◌<◌, ◌≤◌, ◌++◌, List, [], ◌∷◌, map, length, set, refl, sym, ap, ◌∙◌, arith, get_or-set_same, get_or-set_other}
use Rattle.std.proofs.lemmas.List.FromFn.{length-map-range_with_len, get_or-map-range_with_len, map-range_with_len_more, fill_by_all}
use Rattle.std.proofs.lemmas.List.Sums.{sum_by_push, sum_by-le}
use Rattle.std.specs.Prelude.{sum_by, All}
use Rattle.std.specs.List.{range_with_len}
use Rattle.std.specs.Prelude.{slice_index}
use Rattle.spk_app.specs.declared.events.Events.{Events}
use Rattle.spk_app.specs.Applications.{Event, listed, propensity}

-- the event at a place of the list
abbrev pub event_at : Events → ℕ → Event
event_at e k = record { mark = slice_index e.marks k; weight = slice_index e.weights k }

-- the first events
abbrev pub first_events : Events → ℕ → List Event
first_events e k = map (event_at e) (range_with_len 0 k)

-- one event more of the list
pub first_more : (e : Events) (k : ℕ) → first_events e (k + 1) ≡ first_events e k ++ event_at e k ∷ []
first_more e k = map-range_with_len_more (event_at e) 0 k k (omega arith)

pub propensity_more : (e : Events) (k sum weight : ℕ) → sum ≡ propensity (first_events e k) → weight ≡ slice_index e.weights k → sum + weight ≡ propensity (first_events e (k + 1))
unfolding propensity
propensity_more e k sum weight sum_is weight_is =
    let W : Event → ℕ = λ (x : Event). x.weight in
    ap (λ n. n + weight) sum_is ∙ ap (λ n. propensity (first_events e k) + n) weight_is ∙ sym (sum_by_push W (first_events e k) (event_at e k)) ∙ sym (ap (λ (xs : List Event). sum_by W xs) (first_more e k))

-- an event that is pushed leaves those before it
same_first : (e later : Events) (k : ℕ) → ((at : ℕ) → at < k → event_at later at ≡ event_at e at) → first_events later k ≡ first_events e k
same_first e later k same =
    let none : Event = record { mark = 0; weight = 0 } in
    fill_by_all (event_at e) (first_events later k) k none (length-map-range_with_len (event_at later) 0 k) (λ at less.
    get_or-map-range_with_len (event_at later) 0 k at at none less (omega arith) ∙ same at less)

pub pushed : (count mark weight : ℕ) (weights marks : List ℕ)
    → length weights ≡ 26
    → length marks ≡ 26
    → count < 26
    → listed (record { count = count + 1; weights = set weights count weight; marks = set marks count mark })
    ≡ listed (record { count = count; weights = weights; marks = marks }) ++ record { mark = mark; weight = weight } ∷ []
unfolding listed
pushed count mark weight weights marks all also less =
    let e : Events = record { count = count; weights = weights; marks = marks } in
    let later : Events = record { count = count + 1; weights = set weights count weight; marks = set marks count mark } in
    let new : event_at later count ≡ record { mark = mark; weight = weight } =
    rw (get_or-set_same marks count mark 0 (omega (arith, also)), get_or-set_same weights count weight 0 (omega (arith, all))) refl in
    let same : first_events later count ≡ first_events e count = same_first e later count (λ at before.
    let other : at ≢ count = λ is. absurd (omega (arith, is)) in
    rw (get_or-set_other marks count at mark 0 other, get_or-set_other weights count at weight 0 other) refl) in
    first_more later count ∙ ap (λ (xs : List Event). xs ++ event_at later count ∷ []) same ∙ ap (λ (x : Event). first_events e count ++ x ∷ []) new

pub length-listed : (e : Events) → length (listed e) ≡ e.count
unfolding listed
length-listed e = length-map-range_with_len (event_at e) 0 e.count

-- a site's propensity is below 2^35
pub propensity_limit : (events : List Event) → length events ≤ 26 → All (λ (e : Event). e.weight ≤ 2 ^ 30) events → propensity events ≤ 2 ^ 35
unfolding propensity
propensity_limit events few small = omega (arith, few, sum_by-le (λ (e : Event). e.weight) (2 ^ 30) events small)

pub limit_of : (e : Events) (rules : List Event) (sum : ℕ) → sum ≡ propensity (listed e) → listed e ≡ rules → e.count ≤ 26 → All (λ (e : Event). e.weight ≤ 2 ^ 30) rules → sum ≤ 2 ^ 35
limit_of e rules sum sum_is are few small =
    rw sum_is (propensity_limit (listed e) (omega (arith, few, length-listed e)) (rw are small))
