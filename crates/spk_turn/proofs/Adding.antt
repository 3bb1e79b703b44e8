-- Places that are added to a list, each once.
use Rattle.std.proofs.Common.{◌≡◌, ℕ, zero, suc, ◌+◌, ◌<◌, ◌≤◌, ◌++◌, ◌⊎◌, List, [], ◌∷◌, length, get_or, set, take, drop, refl, sym, ap, ◌∙◌, subst, inl, inr, arith, Bool, true, false, append_assoc}
use Rattle.std.proofs.lemmas.Bool.Decides.{nat_tests}
use Rattle.std.proofs.lemmas.List.{append-nil, length-append, length_push, get_or_default, length-take, take_more_set, drop_all}
use Rattle.std.proofs.lemmas.List.Folds.{Any-from_list_any, list_any_at}
use Rattle.std.proofs.lemmas.List.Elements.{Contains-push, Contains-append_left}
use Rattle.std.proofs.Math.ListN.{get_or-append}
use Rattle.std.proofs.Math.Seq.{drop-cons}
use Rattle.std.specs.List.{list_any}
use Rattle.std.specs.Prelude.{Contains, nat_eq}
use Rattle.spk_turn.specs.Reached.{with_place, with_places}

pub place_there : (places : List ℕ) (j : ℕ) → list_any (λ k. nat_eq k j) places ≡ true → with_place places j ≡ places
unfolding with_place
place_there places j there = rw there refl

pub place_new : (places : List ℕ) (j : ℕ) → list_any (λ k. nat_eq k j) places ≡ false → with_place places j ≡ places ++ j ∷ []
unfolding with_place
place_new places j new = rw new refl

pub true_or_false : (b : Bool) → (b ≡ true) ⊎ (b ≡ false)
true_or_false true = inl refl
true_or_false false = inr refl

pub found : (places : List ℕ) (j : ℕ) → list_any (λ k. nat_eq k j) places ≡ true → Contains places j
found places j is =
    let there = Any-from_list_any (λ k. nat_eq k j) places is in
    let same : there.1 ≡ j = grind (arith, nat_tests) in
    (there.0, there.2, get_or_default places there.0 j there.1 there.2 ∙ there.3 ∙ same)

pub missing : (places : List ℕ) (j : ℕ) → list_any (λ k. nat_eq k j) places ≡ false → Contains places j → ⊥
missing places j is (k, less, at) =
    let hit : nat_eq (get_or places k j) j ≡ true = grind (arith, nat_tests) in
    let any : list_any (λ k. nat_eq k j) places ≡ true = list_any_at (λ k. nat_eq k j) places k j less hit in
    absurd (cc)

-- a place is there, or it comes to the end
pub place_cases : (places : List ℕ) (j : ℕ) → (Contains places j × (with_place places j ≡ places)) ⊎ ((Contains places j → ⊥) × (with_place places j ≡ places ++ j ∷ []))
place_cases places j =
    elim (true_or_false (list_any (λ k. nat_eq k j) places)) [
      | inl is ↦ inl (found places j is, place_there places j is)
      | inr is ↦ inr (missing places j is, place_new places j is)
    ]

-- in an array, of which the first count places count
pub pushed : (places : List ℕ) (count j most : ℕ)
    → length places ≡ most
    → count ≤ most
    → length (with_place (take count places) j) ≤ most
    → list_any (λ k. nat_eq k j) (take count places) ≡ false
    → (count < most) × (take (count + 1) (set places count j) ≡ with_place (take count places) j)
pushed places count j most all within room new =
    let is : with_place (take count places) j ≡ take count places ++ j ∷ [] = place_new (take count places) j new in
    let less : count < most = omega (arith, ap length is, length_push (take count places) j, length-take count places) in
    (less, take_more_set places count j (omega arith) ∙ sym is)

pub places_first : (places js : List ℕ) (k : ℕ) → k < length js → with_places places (drop k js) ≡ with_places (with_place places (get_or js k 0)) (drop (k + 1) js)
unfolding with_places
places_first places js k less = let one : suc k ≡ k + 1 = omega arith in rw (drop-cons js k 0 less, one) refl

pub places_last : (places js : List ℕ) (k : ℕ) → length js ≤ k → with_places places (drop k js) ≡ places
unfolding with_places
places_last places js k past = rw (drop_all k js past) refl

-- the second list begins with the first
abbrev pub Begins : List ℕ → List ℕ → Type 0
Begins places more = (rest : List ℕ) × (more ≡ places ++ rest)

pub begins_self : (places : List ℕ) → Begins places places
begins_self places = ([], sym (append-nil places))

pub begins_next : (a b c : List ℕ) → Begins a b → Begins b c → Begins a c
begins_next a b c (x, first) (y, second) = (x ++ y, second ∙ ap (λ (zs : List ℕ). zs ++ y) first ∙ append_assoc a x y)

pub begins_keeps : (a b : List ℕ) (j : ℕ) → Begins a b → Contains a j → Contains b j
begins_keeps a b j (x, is) there = subst (λ (zs : List ℕ). Contains zs j) (sym is) (Contains-append_left a x j there)

pub begins_longer : (a b : List ℕ) → Begins a b → length a ≤ length b
begins_longer a b (x, is) = omega (arith, ap length is, length-append a x)

pub begins_reads : (a b : List ℕ) (k : ℕ) → Begins a b → k < length a → get_or b k 0 ≡ get_or a k 0
begins_reads a b k (x, is) less = ap (λ (zs : List ℕ). get_or zs k 0) is ∙ get_or-append a x 0 k less

pub place_begins : (places : List ℕ) (j : ℕ) → Begins places (with_place places j)
place_begins places j =
    elim (place_cases places j) [
      | inl there ↦ ([], there.1 ∙ sym (append-nil places))
      | inr new ↦ (j ∷ [], new.1)
    ]

pub place_has : (places : List ℕ) (j : ℕ) → Contains (with_place places j) j
place_has places j =
    elim (place_cases places j) [
      | inl there ↦ subst (λ (zs : List ℕ). Contains zs j) (sym there.1) there.0
      | inr new ↦ subst (λ (zs : List ℕ). Contains zs j) (sym new.1) (Contains-push places j)
    ]

pub places_begin : (places js : List ℕ) → Begins places (with_places places js)
unfolding with_places
places_begin places [] = begins_self places
places_begin places (j ∷ js) = begins_next places (with_place places j) (with_places (with_place places j) js) (place_begins places j) (places_begin (with_place places j) js)

pub places_have : (places js : List ℕ) (k : ℕ) → Contains js k → Contains (with_places places js) k
unfolding with_places
places_have places [] k (at, less, is) = absurd (omega arith)
places_have places (j ∷ js) k (zero, less, is) =
    begins_keeps (with_place places j) (with_places (with_place places j) js) k (places_begin (with_place places j) js) (subst (λ m. Contains (with_place places j) m) is (place_has places j))
places_have places (j ∷ js) k (suc at, less, is) = places_have (with_place places j) js k (at, omega arith, is)

-- one place more is no longer than all of them
pub place_fits : (places : List ℕ) (j most : ℕ) (js : List ℕ) → length (with_places (with_place places j) js) ≤ most → length (with_place places j) ≤ most
place_fits places j most js room = omega (arith, begins_longer (with_place places j) (with_places (with_place places j) js) (places_begin (with_place places j) js))

-- each place that is added makes the list longer by one at most
pub place_longer : (places : List ℕ) (j : ℕ) → length (with_place places j) ≤ length places + 1
place_longer places j =
    elim (place_cases places j) [
      | inl there ↦ omega (arith, ap length there.1)
      | inr new ↦ omega (arith, ap length new.1, length_push places j)
    ]

pub places_longer : (places js : List ℕ) → length (with_places places js) ≤ length places + length js
unfolding with_places
places_longer places [] = omega arith
places_longer places (j ∷ js) = omega (arith, places_longer (with_place places j) js, place_longer places j)
