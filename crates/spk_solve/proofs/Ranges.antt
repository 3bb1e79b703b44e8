-- Sums over the numbers of a range.
use Rattle.std.proofs.Common.{◌≡◌, ◌≢◌, ℕ, zero, suc, ◌+◌, ◌<◌, ◌≤◌, ◌++◌, List, ◌∷◌, refl, sym, ap, ◌∙◌, arith, ◌⊎◌, inl, inr, zero-add, length, get_or, take, sum}
use Rattle.std.proofs.lemmas.List.Sums.{sum_by-cons, sum_by-append, sum_by_more}
use Rattle.std.specs.Prelude.{sum_by}
use Rattle.std.specs.List.{range_with_len}

range_add : (a n m : ℕ) → range_with_len a (n + m) ≡ range_with_len a n ++ range_with_len (a + n) m
range_add a zero m =
    let none : zero + m ≡ m = omega arith in
    let same : a + zero ≡ a = omega arith in
    rw (none, same) refl
range_add a (suc n) m =
    let next : suc n + m ≡ suc (n + m) = omega arith in
    let place : a + suc n ≡ a + 1 + n = omega arith in
    rw (next, place) (ap (λ xs. a ∷ xs) (range_add (a + 1) n m))

-- the sum of a range in two parts
pub sum_add : (f : ℕ → ℕ) (a n m : ℕ) → sum_by f (range_with_len a (n + m)) ≡ sum_by f (range_with_len a n) + sum_by f (range_with_len (a + n) m)
sum_add f a n m = ap (sum_by f) (range_add a n m) ∙ sum_by-append f (range_with_len a n) (range_with_len (a + n) m)

-- two functions that agree on a range have the same sum over it
pub sum_on : (f g : ℕ → ℕ) (a n : ℕ) → ((k : ℕ) → a ≤ k → k < a + n → f k ≡ g k) → sum_by f (range_with_len a n) ≡ sum_by g (range_with_len a n)
sum_on f g a zero same = refl
sum_on f g a (suc n) same =
    omega (
      arith,
      sum_by-cons f a (range_with_len (a + 1) n),
      sum_by-cons g a (range_with_len (a + 1) n),
      same a (omega arith) (omega arith),
      sum_on f g (a + 1) n (λ k low high. same k (omega arith) (omega arith)),
    )

-- so have two that differ at one number, over a range without it
pub sum_apart : (f g : ℕ → ℕ) (i a n : ℕ)
    → ((k : ℕ) → k ≢ i → f k ≡ g k)
    → (i < a) ⊎ (a + n ≤ i)
    → sum_by f (range_with_len a n) ≡ sum_by g (range_with_len a n)
sum_apart f g i a n same apart =
    sum_on f g a n (λ k low high. same k (λ e. elim apart [ inl before ↦ omega arith | inr after ↦ omega arith ]))

-- and over a range with it the sums differ by as much
pub sum_change : (f g : ℕ → ℕ) (i a n : ℕ)
    → ((k : ℕ) → k ≢ i → f k ≡ g k)
    → a ≤ i
    → i < a + n
    → sum_by f (range_with_len a n) + g i ≡ sum_by g (range_with_len a n) + f i
sum_change f g i a zero same from to = absurd (omega arith)
sum_change f g i a (suc n) same from to =
    let cases : (a < i) ⊎ (i ≡ a) = grind arith in
    elim cases [
      | inl before ↦
          let other : a ≢ i = λ e. omega arith in
          omega (arith, sum_by-cons f a (range_with_len (a + 1) n), sum_by-cons g a (range_with_len (a + 1) n), same a other, sum_change f g i (a + 1) n same (omega arith) (omega arith))
      | inr here ↦
          let rest : sum_by f (range_with_len (a + 1) n) ≡ sum_by g (range_with_len (a + 1) n) = sum_apart f g i (a + 1) n same (inl (omega arith)) in
          rw here (omega (arith, sum_by-cons f a (range_with_len (a + 1) n), sum_by-cons g a (range_with_len (a + 1) n), rest))
    ]

-- the sum of the first of a list, by their places
pub sum_places : (xs : List ℕ) (n : ℕ) → n ≤ length xs → sum (take n xs) ≡ sum_by (λ k. get_or xs k 0) (range_with_len 0 n)
sum_places xs zero within = refl
sum_places xs (suc n) within =
    let next : suc n ≡ n + 1 = omega arith in
    let more : sum_by (λ k. get_or xs k 0) (range_with_len 0 (n + 1)) ≡ sum_by (λ k. get_or xs k 0) (range_with_len 0 n) + sum_by (λ k. get_or xs k 0) (range_with_len (0 + n) 1) = sum_add (λ k. get_or xs k 0) 0 n 1 in
    let last : sum_by (λ k. get_or xs k 0) (range_with_len (0 + n) 1) ≡ get_or xs n 0 = ap (λ k. sum_by (λ j. get_or xs j 0) (range_with_len k 1)) (zero-add n) ∙ zero-add (get_or xs n 0) in
    let taken : sum (take (n + 1) xs) ≡ sum (take n xs) + get_or xs n 0 = sum_by_more (λ x. x) xs n 0 (omega arith) in
    ap (λ k. sum (take k xs)) next ∙ taken ∙ ap (λ s. s + get_or xs n 0) (sum_places xs n (omega arith))
    ∙ sym (ap (λ k. sum_by (λ j. get_or xs j 0) (range_with_len 0 k)) next ∙ more ∙ ap (λ s. sum_by (λ j. get_or xs j 0) (range_with_len 0 n) + s) last)
