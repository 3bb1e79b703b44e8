-- The values of neighbours as they first appear.
use Rattle.std.proofs.Common.{◌≡◌, ◌≢◌, ℕ, ◌+◌, ◌<◌, ◌≤◌, ◌==◌, ◌||◌, Bool, true, false, if◌then◌else◌, List, [], ◌∷◌, ◌++◌, length, get_or, drop, append_assoc, refl, sym, ap, ◌∙◌, arith}
use Rattle.std.proofs.lemmas.Bool.{cond_both}
use Rattle.std.proofs.lemmas.Bool.Decides.{nat_tests}
use Rattle.std.proofs.lemmas.List.{at_drop_more, at_drop_all, append-nil, length_push}
use Rattle.std.proofs.lemmas.List.Elements.{All-nil, All-cons}
use Rattle.std.specs.List.{list_any}
use Rattle.std.specs.Prelude.{All}
use Rattle.spk_potts.specs.Potts.{first_values, other_values}

-- the other values among the first k neighbours' values
pub record FirstOthers (own : ℕ) (near : List ℕ) (k : ℕ) (others : List ℕ) : Type 0 where
  pub all : others ++ first_values (own ∷ others) (drop k near) ≡ first_values (own ∷ []) near
  pub few : length others ≤ k

-- whether a value is in the list
abbrev pub is_in : List ℕ → ℕ → Bool
is_in values v = list_any (λ u. u == v) values

pub first_step : (seen : List ℕ) (v : ℕ) (vs : List ℕ) (b : Bool) → is_in seen v ≡ b → first_values seen (v ∷ vs) ≡ (if b then first_values seen vs else v ∷ first_values (seen ++ v ∷ []) vs)
first_step seen v vs b is = ap (λ x. if x then first_values seen vs else v ∷ first_values (seen ++ v ∷ []) vs) is

next_first : (own k : ℕ) (near others : List ℕ) (b : Bool)
    → k < length near
    → is_in (own ∷ others) (get_or near k 0) ≡ b
    → first_values (own ∷ others) (drop k near)
    ≡ (if b then first_values (own ∷ others) (drop (k + 1) near) else get_or near k 0 ∷ first_values (own ∷ (others ++ get_or near k 0 ∷ [])) (drop (k + 1) near))
next_first own k near others b less is =
    at_drop_more (first_values (own ∷ others)) near k 0 less ∙ first_step (own ∷ others) (get_or near k 0) (drop (k + 1) near) b is

-- a value that was seen before
seen_before : (own k : ℕ) (near others : List ℕ) → k < length near → is_in (own ∷ others) (get_or near k 0) ≡ true → FirstOthers own near k others → FirstOthers own near (k + 1) others
seen_before own k near others less is first = record {
  all = ap (λ (xs : List ℕ). others ++ xs) (sym (next_first own k near others true less is)) ∙ first.all;
  few = omega (arith, first.few);
}

pub seen_own : (own k : ℕ) (near others : List ℕ) → k < length near → get_or near k 0 ≡ own → FirstOthers own near k others → FirstOthers own near (k + 1) others
seen_own own k near others less is first =
    let same : (own == get_or near k 0) ≡ true = grind (arith, nat_tests) in
    seen_before own k near others less (ap (λ b. b || is_in others (get_or near k 0)) same) first

either_true : (a b : Bool) → b ≡ true → (a || b) ≡ true
either_true true b is = refl
either_true false b is = is

pub seen_other : (own k : ℕ) (near others : List ℕ) → k < length near → is_in others (get_or near k 0) ≡ true → FirstOthers own near k others → FirstOthers own near (k + 1) others
seen_other own k near others less is first = seen_before own k near others less (either_true (own == get_or near k 0) (is_in others (get_or near k 0)) is) first

-- a value that first appears
pub seen_first : (own k : ℕ) (near others : List ℕ)
    → k < length near
    → get_or near k 0 ≢ own
    → is_in others (get_or near k 0) ≡ false
    → FirstOthers own near k others
    → FirstOthers own near (k + 1) (others ++ get_or near k 0 ∷ [])
seen_first own k near others less other none first =
    let v : ℕ = get_or near k 0 in
    let differs : (own == v) ≡ false = grind (arith, nat_tests) in
    let new : is_in (own ∷ others) v ≡ false = ap (λ b. b || is_in others v) differs ∙ none in
    record {
      all = append_assoc others (v ∷ []) (first_values (own ∷ (others ++ v ∷ [])) (drop (k + 1) near)) ∙ ap (λ (xs : List ℕ). others ++ xs) (sym (next_first own k near others false less new)) ∙ first.all;
      few = omega (arith, first.few, length_push others v);
    }

pub all_seen : (own k : ℕ) (near others : List ℕ) → length near ≤ k → FirstOthers own near k others → others ≡ other_values own near
all_seen own k near others past first = sym (append-nil others) ∙ ap (λ (xs : List ℕ). others ++ xs) (sym (at_drop_all (first_values (own ∷ others)) near k past)) ∙ first.all

differ : (own v : ℕ) (b : Bool) → ((own == v) || b) ≡ false → v ≢ own
differ own v true is = grind (arith, nat_tests)
differ own v false is = grind (arith, nat_tests)

-- no value that was seen appears again
unseen : (own : ℕ) (seen vs : List ℕ) → All (λ v. v ≢ own) (first_values (own ∷ seen) vs)
unseen own seen [] = All-nil (λ v. v ≢ own)
unseen own seen (v ∷ vs) =
    cond_both (is_in (own ∷ seen) v) (first_values (own ∷ seen) vs) (v ∷ first_values (own ∷ (seen ++ v ∷ [])) vs) (All (λ x. x ≢ own))
    (λ is. unseen own seen vs) (λ is. All-cons (λ x. x ≢ own) v (first_values (own ∷ (seen ++ v ∷ [])) vs) (differ own v (is_in seen v) is) (unseen own (seen ++ v ∷ []) vs))

pub not_own : (own : ℕ) (near : List ℕ) → All (λ v. v ≢ own) (other_values own near)
not_own own near = unseen own [] near
