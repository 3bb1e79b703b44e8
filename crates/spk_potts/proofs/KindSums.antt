-- The propensity of a site, kind by kind.
use Rattle.std.proofs.Common.{◌≡◌, ℕ, ◌+◌, ◌-◌, ◌*◌, ◌^◌, ◌<◌, ◌≤◌, List, [], ◌∷◌, ◌++◌, length, map, refl, sym, ap, ◌∙◌, arith}
use Rattle.std.proofs.lemmas.List.Sums.{length-filter, sum_by-cons}
use Rattle.std.specs.Prelude.{filter}
use Rattle.spk_app.specs.Applications.{Event, propensity}
use Rattle.spk_app.specs.Weights.{weight_between}
use Rattle.spk_potts.specs.Energies.{unlike}
use Rattle.spk_potts.specs.Potts.{first_values, event_to, potts_events}
use Rattle.spk_potts.proofs.ValueKinds.{is_new, differs, left_more, left_first, none_left, next_kind, first_new, first_goes, filter_shorter, kind_count}

-- Some kinds are seen, and what is left are the values of the others. The sum has the weights of those that were seen.
pub record AreSummed (temperature own : ℕ) (near left : List ℕ) (sum k : ℕ) : Type 0 where
  pub seen : List ℕ
  pub left_is : left ≡ filter (is_new seen) near
  pub so_far : sum + propensity (map (event_to temperature own near) (first_values seen near)) ≡ propensity (potts_events temperature own near)
  pub fewer : k + length left ≤ length near
  pub small : sum ≤ k * 2 ^ 30

propensity_cons : (event : Event) (events : List Event) → propensity (event ∷ events) ≡ event.weight + propensity events
unfolding propensity
propensity_cons event events = sum_by-cons (λ (e : Event). e.weight) event events

propensity_nil : propensity [] ≡ 0
unfolding propensity
propensity_nil = refl

pub none_summed : (temperature own : ℕ) (near left : List ℕ) → left ≡ filter (differs own) near → AreSummed temperature own near left 0 0
none_summed temperature own near left is = record {
  seen = own ∷ [];
  left_is = is ∙ left_first own near;
  so_far = omega arith;
  fewer = omega (arith, ap length is, filter_shorter (differs own) near);
  small = omega arith;
}

pub one_summed : (temperature own value weight alike sum k : ℕ) (near left rest now : List ℕ) → left ≡ value ∷ rest
    → now ≡ filter (differs value) left
    → alike ≡ length left - length now
    → weight ≡ weight_between temperature (unlike own near) (length near - alike)
    → weight ≤ 2 ^ 30
    → AreSummed temperature own near left sum k
    → AreSummed temperature own near now (sum + weight) (k + 1)
one_summed temperature own value weight alike sum k near left rest now first dropped alike_is weight_is small are =
    let E : ℕ → Event = event_to temperature own near in
    let left_is : filter (is_new are.seen) near ≡ value ∷ rest = sym are.left_is ∙ first in
    let kinds : first_values are.seen near ≡ value ∷ first_values (are.seen ++ value ∷ []) near = next_kind are.seen near rest value left_is in
    let sums : propensity (map E (first_values are.seen near)) ≡ (E value).weight + propensity (map E (first_values (are.seen ++ value ∷ []) near)) =
    ap (λ (vs : List ℕ). propensity (map E vs)) kinds ∙ propensity_cons (E value) (map E (first_values (are.seen ++ value ∷ []) near)) in
    let now_is : now ≡ filter (is_new (are.seen ++ value ∷ [])) near = dropped ∙ ap (filter (differs value)) are.left_is ∙ left_more are.seen near value in
    let count = kind_count are.seen near value (first_new are.seen near rest value left_is) in
    let lost : length now ≡ length (filter (differs value) (filter (is_new are.seen) near)) = ap length (dropped ∙ ap (filter (differs value)) are.left_is) in
    let others : length near - alike ≡ unlike value near = omega (arith, alike_is, count, lost, ap length are.left_is, length-filter (differs value) near, first_goes value left rest now first dropped) in
    let heavy : weight ≡ (E value).weight = weight_is ∙ ap (weight_between temperature (unlike own near)) others in
    let gone : length now < length left = first_goes value left rest now first dropped in
    record {
      seen = are.seen ++ value ∷ [];
      left_is = now_is;
      so_far = omega (arith, are.so_far, sums, heavy);
      fewer = omega (arith, are.fewer, gone);
      small = omega (arith, are.small, small);
    }

pub all_summed : (temperature own sum k : ℕ) (near left : List ℕ) → left ≡ [] → AreSummed temperature own near left sum k → sum ≡ propensity (potts_events temperature own near)
all_summed temperature own sum k near left none are =
    let kinds : first_values are.seen near ≡ [] = none_left are.seen near (sym are.left_is ∙ none) in
    omega (arith, are.so_far, ap (λ (vs : List ℕ). propensity (map (event_to temperature own near) vs)) kinds, propensity_nil)

pub none_of : (vs : List ℕ) → length vs ≤ 0 → vs ≡ []
none_of [] none = refl
none_of (v ∷ vs) none = absurd (omega (arith, none))
