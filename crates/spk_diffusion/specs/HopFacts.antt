-- What holds of each hop.
use Rattle.std.proofs.Common.{ℕ, suc, ◌+◌, ◌^◌, ◌<◌, ◌≤◌, true, false, Bool, arith, List, [], ◌∷◌, map, length, if◌then◌else◌}
use Rattle.std.specs.Prelude.{slice_index}
use Rattle.std.specs.List.{All}
use Rattle.std.proofs.lemmas.List.Elements.{All-nil, All-cons, All-map, All-contains}
use Rattle.spk_num.proofs.WeightLaws.{weight_small}
use Rattle.spk_app.specs.Sights.{Sight}
use Rattle.spk_app.specs.Applications.{Event, HasMark}
use Rattle.spk_app.specs.Weights.{weight_between}
use Rattle.spk_diffusion.specs.Diffusion.{DiffusionSettings, is_vacant, is_occupied, crowd, crowd_but, hop_weight, hops_to, hops}

-- a fact of each hop holds where a hop is listed or left out
hop_or_not : (P : Event → Type 0) (b : Bool) (hop : Event) (others : List Event) → P hop → All P others → All P (if b then hop ∷ others else others)
hop_or_not P true hop others at all = All-cons P hop others at all
hop_or_not P false hop others at all = all

hops_or_none : (P : Event → Type 0) (b : Bool) (events : List Event) → All P events → All P (if b then events else [])
hops_or_none P true events all = all
hops_or_none P false events all = All-nil P

-- a fact of all marks below a bound, and of all weights
each_hop_to : (P : Event → Type 0) (weight : ℕ → ℕ) (s : Sight) (most mark : ℕ) (js : List ℕ)
    → ((m j : ℕ) → m < most → P (record { mark = m; weight = weight j }))
    → mark + length js ≤ most
    → All P (hops_to weight s mark js)
unfolding hops_to
each_hop_to P weight s most mark [] each few = All-nil P
each_hop_to P weight s most mark (j ∷ js) each few =
    hop_or_not P (is_vacant (slice_index s.values j)) (record { mark = mark; weight = weight j }) (hops_to weight s (mark + 1) js)
    (each mark j (omega (arith, few))) (each_hop_to P weight s most (mark + 1) js each (omega (arith, few)))

pub each_hop : (P : Event → Type 0) (settings : DiffusionSettings) (s : Sight) (i : ℕ)
    → ((m j : ℕ) → m < length (s.near i) → P (record { mark = m; weight = hop_weight settings s i j }))
    → All P (hops settings s i)
each_hop P settings s i each =
    hops_or_none P (is_occupied (slice_index s.values i)) (hops_to (hop_weight settings s i) s 0 (s.near i))
    (each_hop_to P (hop_weight settings s i) s (length (s.near i)) 0 (s.near i) each (omega arith))

-- a mark is a place in the list of neighbours
pub mark_below : (settings : DiffusionSettings) (s : Sight) (i mark : ℕ) → HasMark (hops settings s i) mark → mark < length (s.near i)
unfolding HasMark
mark_below settings s i mark marked =
    let below : All (λ (e : Event). e.mark < length (s.near i)) (hops settings s i) = each_hop (λ (e : Event). e.mark < length (s.near i)) settings s i (λ m j less. less) in
    All-contains (λ m. m < length (s.near i)) (map (λ (e : Event). e.mark) (hops settings s i)) mark
    (All-map (λ m. m < length (s.near i)) (λ (e : Event). e.mark) (hops settings s i) below) marked

one_more_or_not : (b : Bool) (hop : Event) (others : List Event) (most : ℕ) → length others ≤ most → length (if b then hop ∷ others else others) ≤ suc most
one_more_or_not true hop others most few = omega arith
one_more_or_not false hop others most few = omega arith

few_hops_to : (weight : ℕ → ℕ) (s : Sight) (mark : ℕ) (js : List ℕ) → length (hops_to weight s mark js) ≤ length js
unfolding hops_to
few_hops_to weight s mark [] = omega arith
few_hops_to weight s mark (j ∷ js) =
    one_more_or_not (is_vacant (slice_index s.values j)) (record { mark = mark; weight = weight j }) (hops_to weight s (mark + 1) js) (length js) (few_hops_to weight s (mark + 1) js)

all_or_none : (b : Bool) (events : List Event) (most : ℕ) → length events ≤ most → length (if b then events else []) ≤ most
all_or_none true events most few = few
all_or_none false events most few = omega arith

-- no more hops than neighbours
pub few_hops : (settings : DiffusionSettings) (s : Sight) (i : ℕ) → length (hops settings s i) ≤ length (s.near i)
few_hops settings s i =
    all_or_none (is_occupied (slice_index s.values i)) (hops_to (hop_weight settings s i) s 0 (s.near i)) (length (s.near i)) (few_hops_to (hop_weight settings s i) s 0 (s.near i))

either_small : (b : Bool) (n : ℕ) → n ≤ 2 ^ 30 → (if b then n else 2 ^ 30) ≤ 2 ^ 30
either_small true n small = small
either_small false n small = omega arith

-- no weight is above 1
pub hop_weight_small : (settings : DiffusionSettings) (s : Sight) (old new : ℕ) → hop_weight settings s old new ≤ 2 ^ 30
hop_weight_small settings s old new =
    either_small settings.linear (weight_between settings.temperature (crowd_but s old new) (crowd s old)) (weight_small _ settings.temperature)
