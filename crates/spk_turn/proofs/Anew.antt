-- Kept propensities of which some are still to be taken afresh.
use Rattle.std.proofs.Common.{◌≡◌, ◌≢◌, ℕ, zero, suc, ◌+◌, ◌<◌, ◌≤◌, List, [], ◌∷◌, length, get_or, set, drop, refl, sym, ◌∙◌, subst, inl, inr, arith, get_or-set_same, get_or-set_other}
use Rattle.std.proofs.lemmas.List.{length-set, length-map, get_or-map, ext_get_or, drop_more, drop_all}
use Rattle.std.proofs.lemmas.Bool.{cases_eq}
use Rattle.std.specs.Prelude.{Contains}
use Rattle.spk_turn.specs.Reached.{IsNear}
use Rattle.spk_app.specs.Sights.{Sight}
use Rattle.spk_app.specs.Applications.{Application}
use Rattle.spk_sched.specs.Turns.{propensities}
use Rattle.spk_solve.specs.Choice.{Rule}
use Rattle.spk_turn.specs.Ready.{IsRightBut, propensity_in, propensities_in, sector_on}

-- they are those of the sector, whatever the rule
pub propensities_are : (app : Application) (rule : Rule) (sight : Sight) (places : List ℕ) → propensities_in app sight places ≡ propensities (sector_on app rule sight places) sight.values
unfolding propensities propensities_in
propensities_are app rule sight places = refl

pub length-propensities : (app : Application) (sight : Sight) (places : List ℕ) → length (propensities_in app sight places) ≡ length places
unfolding propensities_in
length-propensities app sight places = length-map places (propensity_in app sight)

pub propensity_at : (app : Application) (sight : Sight) (places : List ℕ) (slot : ℕ) → slot < length places → get_or (propensities_in app sight places) slot 0 ≡ propensity_in app sight (get_or places slot 0)
unfolding propensities_in
propensity_at app sight places slot less = get_or-map (propensity_in app sight) places slot 0 0 less

-- where all are right they are those that are taken afresh
pub all_right : (app : Application) (sight : Sight) (places kept : List ℕ) → IsRightBut app sight places kept [] → kept ≡ propensities_in app sight places
all_right app sight places kept but =
    ext_get_or 0 kept (propensities_in app sight places) (but.all ∙ sym (length-propensities app sight places)) (λ slot less.
    let within : slot < length places = omega (arith, but.all) in
    but.right slot within (λ there. absurd (omega (arith, there.1))) ∙ sym (propensity_at app sight places slot within))

-- a place that is not the first stands among the rest
among_rest : (first place : ℕ) (todo : List ℕ) → place ≢ first → (Contains todo place → ⊥) → Contains (first ∷ todo) place → ⊥
among_rest first place todo other lacks (zero, less, is) = other (sym is)
among_rest first place todo other lacks (suc k, less, is) = lacks (k, omega arith, is)

-- no two slots have one place
abbrev pub AreApart : List ℕ → Type 0
AreApart places = (slot other : ℕ) → slot < length places → other < length places → get_or places slot 0 ≡ get_or places other 0 → slot ≡ other

-- a place is done once the propensity in its slot is taken afresh
pub one_right : (app : Application) (sight : Sight) (places kept todo : List ℕ) (slot place : ℕ)
    → AreApart places
    → slot < length places
    → get_or places slot 0 ≡ place
    → IsRightBut app sight places kept (place ∷ todo)
    → IsRightBut app sight places (set kept slot (propensity_in app sight place)) todo
one_right app sight places kept todo slot place apart less is but =
    let new : ℕ = propensity_in app sight place in
    let there : slot < length kept = omega (arith, but.all) in
    record {
      all = length-set kept slot new ∙ but.all;
      right = λ other inside lacks. elim (cases_eq other slot) [
        | inl same ↦ rw (same, is) (get_or-set_same kept slot new 0 there)
        | inr away ↦ get_or-set_other kept slot other new 0 away
            ∙ but.right other inside (λ listed. among_rest place (get_or places other 0) todo (λ one. away (apart other slot inside less (one ∙ sym is))) lacks listed)
      ];
    }

-- and so it is where no slot has it
pub none_right : (app : Application) (sight : Sight) (places kept todo : List ℕ) (place : ℕ)
    → ((slot : ℕ) → slot < length places → get_or places slot 0 ≡ place → ⊥)
    → IsRightBut app sight places kept (place ∷ todo)
    → IsRightBut app sight places kept todo
none_right app sight places kept todo place nowhere but = record {
  all = but.all;
  right = λ slot inside lacks. but.right slot inside (λ listed. among_rest place (get_or places slot 0) todo (λ one. nowhere slot inside one) lacks listed);
}

-- the next of some places
pub next_first : (todo : List ℕ) (k place : ℕ) → k < length todo → place ≡ get_or todo k 0 → drop k todo ≡ place ∷ drop (k + 1) todo
next_first todo k place less is = rw is (drop_more todo k 0 less)

-- where the propensities of all these places are taken afresh
pub last_right : (app : Application) (sight : Sight) (places kept todo : List ℕ) (k : ℕ) → length todo ≤ k → IsRightBut app sight places kept (drop k todo) → kept ≡ propensities_in app sight places
last_right app sight places kept todo k past but = all_right app sight places kept (subst (λ (xs : List ℕ). IsRightBut app sight places kept xs) (drop_all k todo past) but)

-- after an event only places within so many hops of those that changed may be wrong
pub first_right : (app : Application) (sight : Sight) (places kept todo : List ℕ) (hops : ℕ) (changed : List ℕ)
    → length kept ≡ length places
    → ((slot : ℕ) → slot < length places → (IsNear sight.near hops changed (get_or places slot 0) → ⊥) → get_or kept slot 0 ≡ propensity_in app sight (get_or places slot 0))
    → ((other : ℕ) → IsNear sight.near hops changed other → Contains todo other)
    → IsRightBut app sight places kept (drop 0 todo)
first_right app sight places kept todo hops changed all right covers = record {
  all = all;
  right = λ slot within lacks. right slot within (λ near. lacks (covers (get_or places slot 0) near));
}

-- the first so many are right
pub record FirstRight (app : Application) (sight : Sight) (places kept : List ℕ) (count : ℕ) : Type 0 where
  pub all : length kept ≡ length places
  pub right : (slot : ℕ) → slot < count → get_or kept slot 0 ≡ propensity_in app sight (get_or places slot 0)

pub one_more_right : (app : Application) (sight : Sight) (places kept anew : List ℕ) (count place : ℕ) → count < length places → place ≡ get_or places count 0 → FirstRight app sight places kept count → anew ≡ set kept count (propensity_in app sight place) →
    FirstRight app sight places anew (count + 1)
one_more_right app sight places kept anew count place less is first anew_is =
    let new : ℕ = propensity_in app sight place in
    let there : count < length kept = omega (arith, first.all) in
    rw anew_is (record {
      all = length-set kept count new ∙ first.all;
      right = λ slot before. elim (cases_eq slot count) [
        | inl same ↦ rw (same, ← is) (get_or-set_same kept count new 0 there)
        | inr away ↦ get_or-set_other kept count slot new 0 away ∙ first.right slot (omega (arith, away))
      ];
    })

pub all_first_right : (app : Application) (sight : Sight) (places kept : List ℕ) (count : ℕ) → length places ≤ count → FirstRight app sight places kept count → kept ≡ propensities_in app sight places
all_first_right app sight places kept count past first = all_right app sight places kept (record { all = first.all; right = λ slot within lacks. first.right slot (omega (arith, within)) })
