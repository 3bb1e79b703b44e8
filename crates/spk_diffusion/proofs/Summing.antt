-- The weights of hops, added up over the places that are vacant.
use Rattle.std.proofs.Common.{◌≡◌, ◌≢◌, ℕ, ◌+◌, ◌*◌, ◌^◌, Bool, true, false, List, [], ◌∷◌, length, if◌then◌else◌, refl, sym, ap, ◌∙◌, arith}
use Rattle.std.proofs.lemmas.Bool.{eq-eqb, ne_eqb}
use Rattle.std.proofs.lemmas.List.Sums.{sum_by-cons}
use Rattle.std.specs.Prelude.{filter, slice_index, sum_by}
use Rattle.spk_app.specs.Sights.{Sight}
use Rattle.spk_app.specs.Applications.{Event, propensity}
use Rattle.spk_app.specs.Weights.{weight_between}
use Rattle.spk_diffusion.specs.Diffusion.{DiffusionSettings, crowd, crowd_but, hop_weight, hops, hops_to, is_vacant}

propensity_cons : (event : Event) (events : List Event) → propensity (event ∷ events) ≡ event.weight + propensity events
unfolding propensity
propensity_cons event events = sum_by-cons (λ (e : Event). e.weight) event events

propensity_nil : propensity [] ≡ 0
unfolding propensity
propensity_nil = refl

abbrev pub vacant_at : Sight → ℕ → Bool
vacant_at s j = is_vacant (slice_index s.values j)

one_more : (weight : ℕ → ℕ) (s : Sight) (mark j : ℕ) (js : List ℕ) (vacant : Bool)
    → vacant_at s j ≡ vacant
    → propensity (hops_to weight s (mark + 1) js) ≡ sum_by weight (filter (vacant_at s) js)
    → propensity (hops_to weight s mark (j ∷ js)) ≡ sum_by weight (filter (vacant_at s) (j ∷ js))
unfolding hops_to
one_more weight s mark j js true is rest =
    rw is (propensity_cons (record { mark = mark; weight = weight j }) (hops_to weight s (mark + 1) js) ∙ ap (λ n. weight j + n) rest ∙ sym (sum_by-cons weight j (filter (vacant_at s) js)))
one_more weight s mark j js false is rest = rw is rest

-- the propensity is the sum of the weights of the hops to the vacant places
sum_of_vacant : (weight : ℕ → ℕ) (s : Sight) (mark : ℕ) (js : List ℕ) → propensity (hops_to weight s mark js) ≡ sum_by weight (filter (vacant_at s) js)
unfolding hops_to
sum_of_vacant weight s mark [] = propensity_nil
sum_of_vacant weight s mark (j ∷ js) = one_more weight s mark j js (vacant_at s j) refl (sum_of_vacant weight s (mark + 1) js)

sum_of_free : (js : List ℕ) → sum_by (λ _. 2 ^ 30) js ≡ length js * 2 ^ 30
sum_of_free [] = refl
sum_of_free (j ∷ js) = sum_by-cons (λ _. 2 ^ 30) j js ∙ omega (arith, sum_of_free js)

-- ---- the hops of a site

-- all hops of an occupied site
abbrev hops_if : DiffusionSettings → Sight → ℕ → Bool → List Event
hops_if settings s i linear = hops_to (λ j. if linear then weight_between settings.temperature (crowd_but s i j) (crowd s i) else 2 ^ 30) s 0 (s.near i)

occupied_hops : (settings : DiffusionSettings) (s : Sight) (i : ℕ) (linear : Bool) → settings.linear ≡ linear → slice_index s.values i ≡ 2
    → hops_if settings s i linear ≡ hops settings s i
occupied_hops settings s i linear is occupied =
    ap (hops_if settings s i) (sym is) ∙ ap (λ b. if b then hops_to (hop_weight settings s i) s 0 (s.near i) else []) (sym (eq-eqb (slice_index s.values i) 2 occupied))

pub vacant_sum : (settings : DiffusionSettings) (s : Sight) (i : ℕ) → slice_index s.values i ≢ 2 → 0 ≡ propensity (hops settings s i)
vacant_sum settings s i other = sym propensity_nil ∙ ap (λ b. propensity (if b then hops_to (hop_weight settings s i) s 0 (s.near i) else [])) (sym (ne_eqb (slice_index s.values i) 2 other))

pub linear_sum : (settings : DiffusionSettings) (s : Sight) (i met n : ℕ) (near : List ℕ)
    → settings.linear ≡ true
    → slice_index s.values i ≡ 2
    → near ≡ filter (vacant_at s) (s.near i)
    → met ≡ crowd s i
    → n ≡ sum_by (λ j. weight_between settings.temperature (crowd_but s i j) met) near
    → n ≡ propensity (hops settings s i)
linear_sum settings s i met n near linear occupied are crowds is =
    let weight : ℕ → ℕ → ℕ = λ all j. weight_between settings.temperature (crowd_but s i j) all in
    is ∙ ap (sum_by (weight met)) are ∙ ap (λ all. sum_by (weight all) (filter (vacant_at s) (s.near i))) crowds
    ∙ sym (sum_of_vacant (weight (crowd s i)) s 0 (s.near i)) ∙ ap propensity (occupied_hops settings s i true linear occupied)

pub free_sum : (settings : DiffusionSettings) (s : Sight) (i n : ℕ) (near : List ℕ)
    → settings.linear ≡ false
    → slice_index s.values i ≡ 2
    → near ≡ filter (vacant_at s) (s.near i)
    → n ≡ length near * 2 ^ 30
    → n ≡ propensity (hops settings s i)
free_sum settings s i n near free occupied are is =
    is ∙ sym (sum_of_free near) ∙ ap (sum_by (λ _. 2 ^ 30)) are
    ∙ sym (sum_of_vacant (λ _. 2 ^ 30) s 0 (s.near i)) ∙ ap propensity (occupied_hops settings s i false free occupied)
