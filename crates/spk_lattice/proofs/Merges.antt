-- What stands in lists that are merged.
use Rattle.std.proofs.Common.{◌≡◌, ℕ, zero, suc, ◌+◌, ◌%◌, ◌<◌, ◌≤◌, ◌⊎◌, inl, inr, List, [], ◌∷◌, map, length, refl, sym, ap, ◌∙◌, subst, arith, true, false, cond, ◌==◌}
use Rattle.std.proofs.lemmas.Bool.Decides.{nat_tests}
use Rattle.std.specs.Prelude.{Bool, nat_lt, filter, max}
use Rattle.spk_num.specs.declared.style.Style.{Style}
use Rattle.spk_lattice.specs.Neighbours.{Offset}
use Rattle.spk_lattice.specs.Spread.{merge, merged, hopped, hop_all, hops, widened, ball, most}

abbrev pub Mem : {A : Type 0} → A → List A → Type 0
Mem a [] = ⊥
Mem a (x ∷ xs) = (a ≡ x) ⊎ Mem a xs

into_first : (a x : ℕ) (xs ys zs : List ℕ) → (Mem a xs ⊎ Mem a ys → Mem a zs) → Mem a (x ∷ xs) ⊎ Mem a ys → Mem a (x ∷ zs)
into_first a x xs ys zs further (inl (inl same)) = inl same
into_first a x xs ys zs further (inl (inr there)) = inr (further (inl there))
into_first a x xs ys zs further (inr there) = inr (further (inr there))

into_second : (a y : ℕ) (xs ys zs : List ℕ) → (Mem a xs ⊎ Mem a ys → Mem a zs) → Mem a xs ⊎ Mem a (y ∷ ys) → Mem a (y ∷ zs)
into_second a y xs ys zs further (inl there) = inr (further (inl there))
into_second a y xs ys zs further (inr (inl same)) = inl same
into_second a y xs ys zs further (inr (inr there)) = inr (further (inr there))

into_both : (a x y : ℕ) (xs ys zs : List ℕ) → x ≡ y → (Mem a xs ⊎ Mem a ys → Mem a zs) → Mem a (x ∷ xs) ⊎ Mem a (y ∷ ys) → Mem a (x ∷ zs)
into_both a x y xs ys zs is further (inl (inl same)) = inl same
into_both a x y xs ys zs is further (inl (inr there)) = inr (further (inl there))
into_both a x y xs ys zs is further (inr (inl same)) = inl (same ∙ sym is)
into_both a x y xs ys zs is further (inr (inr there)) = inr (further (inr there))

merge_lt : (more x y : ℕ) (xs ys : List ℕ) → x < y → merge (suc more) (x ∷ xs) (y ∷ ys) ≡ x ∷ merge more xs (y ∷ ys)
merge_lt more x y xs ys less = let is : nat_lt x y ≡ true = grind (arith, nat_tests) in rw is refl

merge_gt : (more x y : ℕ) (xs ys : List ℕ) → y < x → merge (suc more) (x ∷ xs) (y ∷ ys) ≡ y ∷ merge more (x ∷ xs) ys
merge_gt more x y xs ys less =
    let no : nat_lt x y ≡ false = grind (arith, nat_tests) in
    let is : nat_lt y x ≡ true = grind (arith, nat_tests) in
    rw (no, is) refl

merge_eq : (more x y : ℕ) (xs ys : List ℕ) → x ≡ y → merge (suc more) (x ∷ xs) (y ∷ ys) ≡ x ∷ merge more xs ys
merge_eq more x y xs ys same =
    let no : nat_lt x y ≡ false = grind (arith, nat_tests) in
    let also : nat_lt y x ≡ false = grind (arith, nat_tests) in
    rw (no, also) refl

order : (x y : ℕ) → (x < y) ⊎ ((y < x) ⊎ (x ≡ y))
order x y = grind arith

mem_merge : (more : ℕ) (xs ys : List ℕ) (a : ℕ) → length xs + length ys ≤ more → Mem a xs ⊎ Mem a ys → Mem a (merge more xs ys)
mem_merge zero [] [] a room (inl there) = absurd there
mem_merge zero [] [] a room (inr there) = absurd there
mem_merge zero (x ∷ xs) ys a room there = absurd (omega arith)
mem_merge zero [] (y ∷ ys) a room there = absurd (omega arith)
mem_merge (suc more) [] ys a room (inl there) = absurd there
mem_merge (suc more) [] ys a room (inr there) = there
mem_merge (suc more) (x ∷ xs) [] a room (inl there) = there
mem_merge (suc more) (x ∷ xs) [] a room (inr there) = absurd there
mem_merge (suc more) (x ∷ xs) (y ∷ ys) a room there =
    elim (order x y) [
      | inl less ↦ subst (Mem a) (sym (merge_lt more x y xs ys less)) (into_first a x xs (y ∷ ys) (merge more xs (y ∷ ys)) (mem_merge more xs (y ∷ ys) a (omega arith)) there)
      | inr rest ↦ elim rest [
        | inl less ↦ subst (Mem a) (sym (merge_gt more x y xs ys less)) (into_second a y (x ∷ xs) ys (merge more (x ∷ xs) ys) (mem_merge more (x ∷ xs) ys a (omega arith)) there)
        | inr same ↦ subst (Mem a) (sym (merge_eq more x y xs ys same)) (into_both a x y xs ys (merge more xs ys) same (mem_merge more xs ys a (omega arith)) there)
      ]
    ]

pub mem_left : (xs ys : List ℕ) (a : ℕ) → Mem a xs → Mem a (merged xs ys)
mem_left xs ys a there = mem_merge (length xs + length ys) xs ys a (omega arith) (inl there)

pub mem_right : (xs ys : List ℕ) (a : ℕ) → Mem a ys → Mem a (merged xs ys)
mem_right xs ys a there = mem_merge (length xs + length ys) xs ys a (omega arith) (inr there)

pub mem_map : (f : ℕ → ℕ) (xs : List ℕ) (a : ℕ) → Mem a xs → Mem (f a) (map f xs)
mem_map f [] a there = there
mem_map f (x ∷ xs) a (inl same) = inl (ap f same)
mem_map f (x ∷ xs) a (inr there) = inr (mem_map f xs a there)

filter_case : (b : Bool) (a x : ℕ) (xs : List ℕ) → Mem a xs → Mem a (cond b (x ∷ xs) xs)
filter_case true a x xs there = inr there
filter_case false a x xs there = there

filter_here : (b : Bool) (a x : ℕ) (xs : List ℕ) → b ≡ true → a ≡ x → Mem a (cond b (x ∷ xs) xs)
filter_here true a x xs is same = inl same
filter_here false a x xs is same = absurd cc

pub mem_filter : (p : ℕ → Bool) (xs : List ℕ) (a : ℕ) → p a ≡ true → Mem a xs → Mem a (filter p xs)
mem_filter p [] a is there = there
mem_filter p (x ∷ xs) a is (inl same) = filter_here (p x) a x (filter p xs) (ap p (sym same) ∙ is) same
mem_filter p (x ∷ xs) a is (inr there) = filter_case (p x) a x (filter p xs) (mem_filter p xs a is there)

mem_hop : (p : ℕ) (cells : List ℕ) (os : List Offset) (o : Offset) (c : ℕ) → Mem o os → Mem c cells → Mem (hopped p o c) (hop_all p cells os)
mem_hop p cells [] o c hop there = absurd hop
mem_hop p cells (q ∷ os) o c (inl same) there =
    mem_left (map (hopped p q) cells) (hop_all p cells os) (hopped p o c) (subst (λ (w : Offset). Mem (hopped p w c) (map (hopped p q) cells)) (sym same) (mem_map (hopped p q) cells c there))
mem_hop p cells (q ∷ os) o c (inr hop) there =
    mem_right (map (hopped p q) cells) (hop_all p cells os) (hopped p o c) (mem_hop p cells os o c hop there)

pub mem_widened : (style : Style) (points p : ℕ) (cells : List ℕ) (o : Offset) (c : ℕ) → p < points → c % 4 ≡ p → Mem o (hops style p) → Mem c cells → Mem (hopped p o c) (widened style points cells)
mem_widened style zero p cells o c less is hop there = absurd (omega arith)
mem_widened style (suc q) p cells o c less is hop there =
    let cases : (p ≡ q) ⊎ (p < q) = grind arith in
    let test : (c % 4 == p) ≡ true = grind (arith, nat_tests) in
    elim cases [
      | inl same ↦ mem_left (hop_all q (filter (λ c. c % 4 == q) cells) (hops style q)) (widened style q cells) (hopped p o c)
          (subst (λ r. Mem (hopped p o c) (hop_all r (filter (λ c. c % 4 == r) cells) (hops style r))) same
          (mem_hop p (filter (λ c. c % 4 == p) cells) (hops style p) o c hop (mem_filter (λ c. c % 4 == p) cells c test there)))
      | inr before ↦ mem_right (hop_all q (filter (λ c. c % 4 == q) cells) (hops style q)) (widened style q cells) (hopped p o c) (mem_widened style q p cells o c before is hop there)
    ]

pub most_of : (style : Style) (d b points : ℕ) → b < points → length (ball style b d) ≤ most style d points
most_of style d b zero less = absurd (omega arith)
most_of style d b (suc q) less =
    let cases : (b ≡ q) ⊎ (b < q) = grind arith in
    elim cases [
      | inl same ↦ subst (λ r. length (ball style b d) ≤ max (length (ball style r d)) (most style d q)) same (omega arith)
      | inr before ↦ omega (arith, most_of style d b q before)
    ]
