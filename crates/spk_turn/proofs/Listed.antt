-- The listed events of a site, one by one.
use Rattle.std.proofs.Common.{◌≡◌, ℕ, ◌+◌, ◌<◌, ◌≤◌, [], ◌∷◌, map, refl, sym, subst, arith, length, get_or, take, drop, ◌∙◌, ap}
use Rattle.std.proofs.lemmas.List.{drop_more, take_all, length-map, get_or-map}
use Rattle.std.proofs.lemmas.List.FromFn.{get_or-map-range_with_len}
use Rattle.std.proofs.lemmas.List.Sums.{sum_by_more}
use Rattle.std.proofs.lemmas.List.Elements.{Contains-get_or}
use Rattle.std.specs.Prelude.{Some, slice_index, Contains, option_map}
use Rattle.spk_app.specs.declared.events.Events.{Events}
use Rattle.spk_app.specs.Applications.{Event, listed, propensity, HasMark}
use Rattle.spk_app.proofs.Listed.{event_at, length-listed}
use Rattle.spk_solve.specs.Choice.{named_from, named}
use Rattle.spk_solve.proofs.Names.{here, passed}

-- the event that is listed at a place
read_listed : (e : Events) (k : ℕ) (d : Event) → k < e.count → get_or (listed e) k d ≡ event_at e k
unfolding listed
read_listed e k d less = get_or-map-range_with_len (event_at e) 0 e.count k k d less (omega arith)

pub prop_none : propensity [] ≡ 0
unfolding propensity
prop_none = refl

pub prop_more : (e : Events) (k : ℕ) → k < e.count → propensity (take (k + 1) (listed e)) ≡ propensity (take k (listed e)) + slice_index e.weights k
unfolding propensity
prop_more e k less =
    sum_by_more (λ (e : Event). e.weight) (listed e) k (event_at e k) (omega (arith, length-listed e))
    ∙ ap (λ (x : Event). propensity (take k (listed e)) + x.weight) (read_listed e k (event_at e k) less)

pub prop_all : (e : Events) (k : ℕ) → e.count ≤ k → propensity (take k (listed e)) ≡ propensity (listed e)
prop_all e k more = ap propensity (take_all k (listed e) (omega (arith, length-listed e)))

next_listed : (e : Events) (k : ℕ) → k < e.count → drop k (listed e) ≡ event_at e k ∷ drop (k + 1) (listed e)
next_listed e k less =
    drop_more (listed e) k (event_at e k) (omega (arith, length-listed e))
    ∙ ap (λ x. x ∷ drop (k + 1) (listed e)) (read_listed e k (event_at e k) less)

pub mark_none : (e : Events) (rest : ℕ) → named_from (λ (e : Event). e.weight) 0 rest (listed e) ≡ named (λ (e : Event). e.weight) rest (listed e)
unfolding named
mark_none e rest = refl

pub mark_passed : (e : Events) (k so_far rest : ℕ)
    → k < e.count
    → so_far + slice_index e.weights k ≤ rest
    → named_from (λ (e : Event). e.weight) (so_far + slice_index e.weights k) rest (drop (k + 1) (listed e)) ≡ named_from (λ (e : Event). e.weight) so_far rest (drop k (listed e))
mark_passed e k so_far rest less more =
    sym (ap (named_from (λ (e : Event). e.weight) so_far rest) (next_listed e k less)
    ∙ passed (λ (e : Event). e.weight) so_far rest (event_at e k) (drop (k + 1) (listed e)) more)

pub mark_here : (e : Events) (k so_far rest : ℕ)
    → k < e.count
    → rest < so_far + slice_index e.weights k
    → named_from (λ (e : Event). e.weight) so_far rest (drop k (listed e)) ≡ named (λ (e : Event). e.weight) rest (listed e)
    → option_map (λ (e : Event). e.mark) (named (λ (e : Event). e.weight) rest (listed e)) ≡ Some (slice_index e.marks k)
mark_here e k so_far rest less found same =
    rw (← same) (ap (λ es. option_map (λ (e : Event). e.mark) (named_from (λ (e : Event). e.weight) so_far rest es)) (next_listed e k less)
    ∙ ap (option_map (λ (e : Event). e.mark)) (here (λ (e : Event). e.weight) so_far rest (event_at e k) (drop (k + 1) (listed e)) found))

pub mark_has : (e : Events) (k : ℕ) → k < e.count → HasMark (listed e) (slice_index e.marks k)
unfolding HasMark
mark_has e k less =
    let there : k < length (listed e) = omega (arith, length-listed e) in
    let within : k < length (map (λ (e : Event). e.mark) (listed e)) = omega (arith, length-map (listed e) (λ (e : Event). e.mark)) in
    let read : get_or (map (λ (e : Event). e.mark) (listed e)) k 0 ≡ slice_index e.marks k =
    get_or-map (λ (e : Event). e.mark) (listed e) k (event_at e k) 0 there ∙ ap (λ (x : Event). x.mark) (read_listed e k (event_at e k) less) in
    subst (λ m. Contains (map (λ (e : Event). e.mark) (listed e)) m) read (Contains-get_or (map (λ (e : Event). e.mark) (listed e)) k 0 within)

-- how the events of a site are read one by one
pub ruleset marks = (prop_none, prop_more, prop_all, mark_none, mark_passed, mark_here, mark_has)
