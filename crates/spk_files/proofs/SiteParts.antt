-- The parts of a site file, with one line more.
use Rattle.std.proofs.Common.{◌≡◌, ◌+◌, Bool, true, false, not, ◌||◌, cond, suc, List, [], ◌∷◌, ◌++◌, take, drop, refl, sym, ap, ◌∙◌, arith}
use Rattle.std.specs.List.{after_first, before_first, list_any, position_or_len}

-- what stands before and after the first element that passes, by the first element
pub before_cons : {X : Type 0} (p : X → Bool) (x : X) (xs : List X) → before_first p (x ∷ xs) ≡ cond (p x) [] (x ∷ before_first p xs)
before_cons p x xs =
    let place : 1 + position_or_len p xs ≡ suc (position_or_len p xs) = omega arith in
    elim (p x) as (λ b. take (cond (not b) (1 + position_or_len p xs) 0) (x ∷ xs) ≡ cond b [] (x ∷ before_first p xs)) [
      | true ↦ refl
      | false ↦ ap (λ n. take n (x ∷ xs)) place
    ]

after_cons : {X : Type 0} (p : X → Bool) (x : X) (xs : List X) → after_first p (x ∷ xs) ≡ cond (p x) xs (after_first p xs)
after_cons p x xs =
    let place : (1 + position_or_len p xs) + 1 ≡ suc (position_or_len p xs + 1) = omega arith in
    elim (p x) as (λ b. drop (cond (not b) (1 + position_or_len p xs) 0 + 1) (x ∷ xs) ≡ cond b xs (after_first p xs)) [
      | true ↦ refl
      | false ↦ ap (λ n. drop n (x ∷ xs)) place
    ]

-- where one passes, more elements change what stands after it
pub before_kept : {X : Type 0} (p : X → Bool) (xs more : List X) → list_any p xs ≡ true → before_first p (xs ++ more) ≡ before_first p xs
before_kept p [] more some = absurd cc
before_kept p (x ∷ xs) more some =
    before_cons p x (xs ++ more)
    ∙ elim (p x) as (λ b. (b || list_any p xs) ≡ true → cond b [] (x ∷ before_first p (xs ++ more)) ≡ cond b [] (x ∷ before_first p xs)) [
      | true ↦ λ is. refl
      | false ↦ λ is. ap (λ l. x ∷ l) (before_kept p xs more is)
    ] some
    ∙ sym (before_cons p x xs)

pub after_more : {X : Type 0} (p : X → Bool) (xs more : List X) → list_any p xs ≡ true → after_first p (xs ++ more) ≡ after_first p xs ++ more
after_more p [] more some = absurd cc
after_more p (x ∷ xs) more some =
    after_cons p x (xs ++ more)
    ∙ elim (p x) as (λ b. (b || list_any p xs) ≡ true → cond b (xs ++ more) (after_first p (xs ++ more)) ≡ cond b xs (after_first p xs) ++ more) [
      | true ↦ λ is. refl
      | false ↦ λ is. after_more p xs more is
    ] some
    ∙ ap (λ l. l ++ more) (sym (after_cons p x xs))

-- where none passes, all stand before
pub before_none : {X : Type 0} (p : X → Bool) (xs more : List X) → list_any p xs ≡ false → before_first p (xs ++ more) ≡ xs ++ before_first p more
before_none p [] more none = refl
before_none p (x ∷ xs) more none =
    before_cons p x (xs ++ more)
    ∙ elim (p x) as (λ b. (b || list_any p xs) ≡ false → cond b [] (x ∷ before_first p (xs ++ more)) ≡ x ∷ (xs ++ before_first p more)) [
      | true ↦ λ is. absurd cc
      | false ↦ λ is. ap (λ l. x ∷ l) (before_none p xs more is)
    ] none

pub after_none : {X : Type 0} (p : X → Bool) (xs more : List X) → list_any p xs ≡ false → after_first p (xs ++ more) ≡ after_first p more
after_none p [] more none = refl
after_none p (x ∷ xs) more none =
    after_cons p x (xs ++ more)
    ∙ elim (p x) as (λ b. (b || list_any p xs) ≡ false → cond b (xs ++ more) (after_first p (xs ++ more)) ≡ after_first p more) [
      | true ↦ λ is. absurd cc
      | false ↦ λ is. after_none p xs more is
    ] none

-- one element alone
pub before_alone : {X : Type 0} (p : X → Bool) (x : X) → before_first p (x ∷ []) ≡ cond (p x) [] (x ∷ [])
before_alone p x = before_cons p x []

pub after_alone : {X : Type 0} (p : X → Bool) (x : X) → after_first p (x ∷ []) ≡ []
after_alone {X} p x = after_cons p x [] ∙ elim (p x) as (λ b. cond {A = List X} b [] [] ≡ []) [ true ↦ refl | false ↦ refl ]
