-- Hops depend on the surroundings alone.
use Rattle.std.proofs.Common.{◌≡◌, ℕ, ◌+◌, ◌^◌, ◌<◌, not, ◌&&◌, eqb, Bool, refl, sym, ap, ◌∙◌, List, [], ◌∷◌, map, length, inl, inr, if◌then◌else◌, cond}
use Rattle.std.specs.Prelude.{slice_index}
use Rattle.std.specs.List.{All, count_by}
use Rattle.std.proofs.lemmas.List.{get_or-map}
use Rattle.std.proofs.lemmas.List.Elements.{All-nil, All-cons, All-head, All-tail, All-weaker, All-get_or, Contains-get_or}
use Rattle.std.proofs.lemmas.List.Sums.{sum_by-cons}
use Rattle.std.proofs.lemmas.Bool.{cases_eq, eq-eqb, ne_eqb}
use Rattle.spk_lattice.specs.Hops.{IsWithin}
use Rattle.spk_app.specs.Sights.{Sight, Write, Around, LooksSame, shown, values_near}
use Rattle.spk_app.specs.Applications.{Event}
use Rattle.spk_app.specs.Weights.{weight_between}
use Rattle.spk_app.specs.Laws.{IsLocal}
use Rattle.spk_diffusion.specs.Diffusion.{DiffusionSettings, is_vacant, is_occupied, crowd, crowd_but, hop_weight, hops_to, hops, exchange, energy_of, diffusion}
use Rattle.spk_diffusion.specs.HopFacts.{mark_below}

-- where f says which place there shows which place here: the place that shows j has j's value
abbrev pub ShowsValue : (ℕ → ℕ) → Sight → Sight → ℕ → Type 0
ShowsValue f here there j = slice_index here.values j ≡ slice_index there.values (f j)

-- its neighbours show the neighbours of j
abbrev pub ShowsNear : (ℕ → ℕ) → Sight → Sight → ℕ → Type 0
ShowsNear f here there j = map f (here.near j) ≡ there.near (f j)

-- j is shown where i is only if it is i
abbrev pub ShowsOnce : (ℕ → ℕ) → ℕ → ℕ → Type 0
ShowsOnce f i j = f j ≡ f i → j ≡ i

-- the values of places, on both sides
values_shown : (f : ℕ → ℕ) (here there : Sight) (js : List ℕ) → All (ShowsValue f here there) js → map (slice_index there.values) (map f js) ≡ map (slice_index here.values) js
values_shown f here there [] all = refl
values_shown f here there (j ∷ js) all =
    let first : ShowsValue f here there j = All-head (ShowsValue f here there) j js all in
    let rest : map (slice_index there.values) (map f js) ≡ map (slice_index here.values) js = values_shown f here there js (All-tail (ShowsValue f here there) j js all) in
    rw (← first, rest)

All-both : (P Q : ℕ → Type 0) (ks : List ℕ) → All P ks → All Q ks → All (λ k. P k × Q k) ks
All-both P Q [] all also = All-nil (λ k. P k × Q k)
All-both P Q (k ∷ ks) all also = All-cons (λ k. P k × Q k) k ks (All-head P k ks all, All-head Q k ks also) (All-both P Q ks (All-tail P k ks all) (All-tail Q k ks also))

-- the same test of a place on both sides
same_place : (f : ℕ → ℕ) (i k : ℕ) → ShowsOnce f i k → eqb (f k) (f i) ≡ eqb k i
same_place f i k once =
    elim (cases_eq k i) [
      | inl same ↦ eq-eqb (f k) (f i) (ap f same) ∙ sym (eq-eqb k i same)
      | inr other ↦ ne_eqb (f k) (f i) (λ e. other (once e)) ∙ sym (ne_eqb k i other)
    ]

-- counts of places by tests that agree
same_counts : (f : ℕ → ℕ) (p q : ℕ → Bool) (ks : List ℕ) → All (λ k. q (f k) ≡ p k) ks → count_by q (map f ks) ≡ count_by p ks
same_counts f p q [] all = refl
same_counts f p q (k ∷ ks) all =
    let A : ℕ → Type 0 = λ k. q (f k) ≡ p k in
    let first : q (f k) ≡ p k = All-head A k ks all in
    let rest : count_by q (map f ks) ≡ count_by p ks = same_counts f p q ks (All-tail A k ks all) in
    sum_by-cons (λ x. cond (q x) 1 0) (f k) (map f ks)
    ∙ (ap (λ b. cond b 1 0 + count_by q (map f ks)) first
    ∙ (ap (λ n. cond (p k) 1 0 + n) rest ∙ sym (sum_by-cons (λ x. cond (p x) 1 0) k ks)))

-- the occupied places but one, counted on both sides
same_count_but : (f : ℕ → ℕ) (here there : Sight) (i : ℕ) (ks : List ℕ)
    → All (ShowsValue f here there) ks
    → All (ShowsOnce f i) ks
    → count_by (λ k. not (eqb k (f i)) && is_occupied (slice_index there.values k)) (map f ks) ≡ count_by (λ k. not (eqb k i) && is_occupied (slice_index here.values k)) ks
same_count_but f here there i ks values once =
    let p : ℕ → Bool = λ k. not (eqb k i) && is_occupied (slice_index here.values k) in
    let q : ℕ → Bool = λ k. not (eqb k (f i)) && is_occupied (slice_index there.values k) in
    let both : (k : ℕ) → ShowsValue f here there k × ShowsOnce f i k → q (f k) ≡ p k =
    λ k shows. ap (λ b. not b && is_occupied (slice_index there.values (f k))) (same_place f i k shows.1) ∙ ap (λ v. not (eqb k i) && is_occupied v) (sym shows.0) in
    same_counts f p q ks (All-weaker (λ k. ShowsValue f here there k × ShowsOnce f i k) (λ k. q (f k) ≡ p k) both ks (All-both (ShowsValue f here there) (ShowsOnce f i) ks values once))

same_crowd_but : (f : ℕ → ℕ) (here there : Sight) (i j : ℕ)
    → ShowsNear f here there j
    → All (ShowsValue f here there) (here.near j)
    → All (ShowsOnce f i) (here.near j)
    → crowd_but there (f i) (f j) ≡ crowd_but here i j
same_crowd_but f here there i j near values once = rw (← near) (same_count_but f here there i (here.near j) values once)

same_values_near : (f : ℕ → ℕ) (here there : Sight) (i : ℕ) → LooksSame 2 f here there i → values_near there (f i) ≡ values_near here i
same_values_near f here there i same =
    let V : ℕ → Type 0 = ShowsValue f here there in
    let firsts : All V (here.near i) = All-weaker (Around 1 here.near V) V (λ j at. at.0) (here.near i) same.values.1 in
    ap (map (slice_index there.values)) (sym same.near.0) ∙ values_shown f here there (here.near i) firsts

same_hop : (here there : Bool) (hop also : Event) (hops others : List Event) → there ≡ here → also ≡ hop → others ≡ hops → (if there then also ∷ others else others) ≡ (if here then hop ∷ hops else hops)
same_hop here there hop also hops others tests event rest = rw (tests, event, rest)

-- the hops to these neighbours, on both sides
same_hops_to : (f : ℕ → ℕ) (here there : Sight) (weight other : ℕ → ℕ) (mark : ℕ) (js : List ℕ)
    → All (ShowsValue f here there) js
    → All (λ j. other (f j) ≡ weight j) js
    → hops_to other there mark (map f js) ≡ hops_to weight here mark js
unfolding hops_to
same_hops_to f here there weight other mark [] values weights = refl
same_hops_to f here there weight other mark (j ∷ js) values weights =
    let V : ℕ → Type 0 = ShowsValue f here there in
    let W : ℕ → Type 0 = λ j. other (f j) ≡ weight j in
    let value : V j = All-head V j js values in
    let rest : hops_to other there (mark + 1) (map f js) ≡ hops_to weight here (mark + 1) js =
    same_hops_to f here there weight other (mark + 1) js (All-tail V j js values) (All-tail W j js weights) in
    let hop : Event = record { mark = mark; weight = weight j } in
    let also : Event = record { mark = mark; weight = other (f j) } in
    let same : also ≡ hop = ap (λ w. record { mark = mark; weight = w }) (All-head W j js weights) in
    same_hop (is_vacant (slice_index here.values j)) (is_vacant (slice_index there.values (f j))) hop also (hops_to weight here (mark + 1) js) (hops_to other there (mark + 1) (map f js))
    (ap is_vacant (sym value)) same rest

-- the weights of the hops to the neighbours, on both sides
same_weights : (settings : DiffusionSettings) (f : ℕ → ℕ) (here there : Sight) (i : ℕ)
    → crowd there (f i) ≡ crowd here i
    → (js : List ℕ)
    → All (Around 1 here.near (ShowsValue f here there)) js
    → All (ShowsNear f here there) js
    → All (Around 1 here.near (ShowsOnce f i)) js
    → All (λ j. hop_weight settings there (f i) (f j) ≡ hop_weight settings here i j) js
same_weights settings f here there i crowds [] values near once = All-nil (λ j. hop_weight settings there (f i) (f j) ≡ hop_weight settings here i j)
same_weights settings f here there i crowds (j ∷ js) values near once =
    let V : ℕ → Type 0 = Around 1 here.near (ShowsValue f here there) in
    let N : ℕ → Type 0 = ShowsNear f here there in
    let O : ℕ → Type 0 = Around 1 here.near (ShowsOnce f i) in
    let W : ℕ → Type 0 = λ j. hop_weight settings there (f i) (f j) ≡ hop_weight settings here i j in
    let value : V j = All-head V j js values in
    let apart : O j = All-head O j js once in
    let but : crowd_but there (f i) (f j) ≡ crowd_but here i j = same_crowd_but f here there i j (All-head N j js near) value.1 apart.1 in
    let weight : (new old : ℕ) → ℕ = λ new old. if settings.linear then weight_between settings.temperature new old else 2 ^ 30 in
    let first : W j = ap (λ n. weight n (crowd there (f i))) but ∙ ap (weight (crowd_but here i j)) crowds in
    All-cons W j js first (same_weights settings f here there i crowds js (All-tail V j js values) (All-tail N j js near) (All-tail O j js once))

same_hops : (settings : DiffusionSettings) (f : ℕ → ℕ) (here there : Sight) (i : ℕ) → LooksSame 2 f here there i → hops settings there (f i) ≡ hops settings here i
same_hops settings f here there i same =
    let V : ℕ → Type 0 = ShowsValue f here there in
    let near : ShowsNear f here there i = same.near.0 in
    let own : V i = same.values.0 in
    let firsts : All V (here.near i) = All-weaker (Around 1 here.near V) V (λ j at. at.0) (here.near i) same.values.1 in
    let crowds : crowd there (f i) ≡ crowd here i = ap (count_by is_occupied) (same_values_near f here there i same) in
    let weights : All (λ j. hop_weight settings there (f i) (f j) ≡ hop_weight settings here i j) (here.near i) =
    same_weights settings f here there i crowds (here.near i) same.values.1 same.near.1 same.once.1 in
    let to : hops_to (hop_weight settings there (f i)) there 0 (there.near (f i)) ≡ hops_to (hop_weight settings here i) here 0 (here.near i) =
    ap (hops_to (hop_weight settings there (f i)) there 0) (sym near) ∙ same_hops_to f here there (hop_weight settings here i) (hop_weight settings there (f i)) 0 (here.near i) firsts weights in
    ap (λ v. if is_occupied v then hops_to (hop_weight settings there (f i)) there 0 (there.near (f i)) else []) (sym own) ∙ ap (λ es. if is_occupied (slice_index here.values i) then es else []) to

same_energy : (settings : DiffusionSettings) (f : ℕ → ℕ) (here there : Sight) (i : ℕ) → LooksSame 2 f here there i → energy_of settings there (f i) ≡ energy_of settings here i
same_energy settings f here there i same =
    ap (λ v. if settings.linear && is_occupied v then count_by is_vacant (values_near there (f i)) else 0) (sym same.values.0)
    ∙ ap (λ vs. if settings.linear && is_occupied (slice_index here.values i) then count_by is_vacant vs else 0) (same_values_near f here there i same)

-- an exchange with the neighbour that a mark names, on both sides
same_exchange : (f : ℕ → ℕ) (here there : Sight) (i mark : ℕ)
    → LooksSame 2 f here there i
    → mark < length (here.near i)
    → exchange there (f i) (slice_index (there.near (f i)) mark) ≡ map (shown f) (exchange here i (slice_index (here.near i) mark))
same_exchange f here there i mark same less =
    let V : ℕ → Type 0 = ShowsValue f here there in
    let own : V i = same.values.0 in
    let j : ℕ = slice_index (here.near i) mark in
    let hopped : slice_index (there.near (f i)) mark ≡ f j = ap (λ js. slice_index js mark) (sym same.near.0) ∙ get_or-map f (here.near i) mark 0 0 less in
    let firsts : All V (here.near i) = All-weaker (Around 1 here.near V) V (λ j at. at.0) (here.near i) same.values.1 in
    let value : V j = All-get_or V (here.near i) mark 0 less firsts in
    rw (hopped, ← value, ← own)

-- an exchange with a neighbour reaches one hop
exchange_within : (here : Sight) (i mark : ℕ) → mark < length (here.near i) → All (λ (w : Write). IsWithin here.near 1 i w.place) (exchange here i (slice_index (here.near i) mark))
unfolding IsWithin
exchange_within here i mark less =
    let j : ℕ = slice_index (here.near i) mark in
    let W : Write → Type 0 = λ w. IsWithin here.near 1 i w.place in
    All-cons W (record { place = i; value = slice_index here.values j }) (record { place = j; value = slice_index here.values i } ∷ []) (inl refl)
    (All-cons W (record { place = j; value = slice_index here.values i }) [] (inr (j, Contains-get_or (here.near i) mark 0 less, refl)) (All-nil W))

pub diffusion_local : (settings : DiffusionSettings) → IsLocal 2 1 (diffusion settings)
diffusion_local settings = record {
  events = λ f here there i same. same_hops settings f here there i same;
  energy = λ f here there i same. same_energy settings f here there i same;
  writes = λ f here there i mark same marked. same_exchange f here there i mark same (mark_below settings here i mark marked);
  trial = λ f here there i stream same. refl;
  reach = λ here i mark marked. exchange_within here i mark (mark_below settings here i mark marked);
  trial_reach = λ here i stream. All-nil (λ (w : Write). IsWithin here.near 1 i w.place);
}
