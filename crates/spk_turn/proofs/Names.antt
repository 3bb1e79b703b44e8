-- What a target names in a list of lists.
use Rattle.std.proofs.Common.{◌≡◌, ℕ, ◌+◌, ◌<◌, ◌≤◌, ◌++◌, List, [], ◌∷◌, refl, sym, inl, inr, arith, ◌∙◌, ap}
use Rattle.std.proofs.lemmas.List.Sums.{sum_by-cons}
use Rattle.std.proofs.Math.Nat.{add-zero}
use Rattle.std.specs.Prelude.{sum_by}
use Rattle.spk_solve.specs.Choice.{named_from}
use Rattle.spk_solve.proofs.Names.{here, passed, here_or_passed}

-- what is named among the first elements of a list, and after them
pub named_first : {E : Type 0} (weight : E → ℕ) (so_far target : ℕ) (xs ys : List E)
    → target < so_far + sum_by weight xs
    → so_far ≤ target
    → named_from weight so_far target (xs ++ ys) ≡ named_from weight so_far target xs
named_first weight so_far target [] ys less reached = absurd (omega arith)
named_first weight so_far target (x ∷ xs) ys less reached =
    let split : sum_by weight (x ∷ xs) ≡ weight x + sum_by weight xs = sum_by-cons weight x xs in
    elim (here_or_passed target (so_far + weight x)) [
      | inl inside ↦ here weight so_far target x (xs ++ ys) inside ∙ sym (here weight so_far target x xs inside)
      | inr beyond ↦ passed weight so_far target x (xs ++ ys) beyond
          ∙ named_first weight (so_far + weight x) target xs ys (omega arith) beyond
          ∙ sym (passed weight so_far target x xs beyond)
    ]

pub named_after : {E : Type 0} (weight : E → ℕ) (so_far target : ℕ) (xs ys : List E)
    → so_far + sum_by weight xs ≤ target
    → named_from weight so_far target (xs ++ ys) ≡ named_from weight (so_far + sum_by weight xs) target ys
named_after weight so_far target [] ys more = ap (λ n. named_from weight n target ys) (sym (add-zero so_far))
named_after weight so_far target (x ∷ xs) ys more =
    let split : sum_by weight (x ∷ xs) ≡ weight x + sum_by weight xs = sum_by-cons weight x xs in
    let sums : so_far + sum_by weight (x ∷ xs) ≡ so_far + weight x + sum_by weight xs = omega arith in
    passed weight so_far target x (xs ++ ys) (omega arith)
    ∙ named_after weight (so_far + weight x) target xs ys (omega arith)
    ∙ ap (λ n. named_from weight n target ys) (sym sums)

-- only the difference of target and sum so far counts
pub named_shift : {E : Type 0} (weight : E → ℕ) (shift so_far target : ℕ) (xs : List E)
    → named_from weight (shift + so_far) (shift + target) xs ≡ named_from weight so_far target xs
named_shift weight shift so_far target [] = refl
named_shift weight shift so_far target (x ∷ xs) =
    elim (here_or_passed target (so_far + weight x)) [
      | inl inside ↦ here weight (shift + so_far) (shift + target) x xs (omega arith) ∙ sym (here weight so_far target x xs inside)
      | inr beyond ↦ passed weight (shift + so_far) (shift + target) x xs (omega arith)
          ∙ ap (λ n. named_from weight n (shift + target) xs) (let e : shift + so_far + weight x ≡ shift + (so_far + weight x) = omega arith in e)
          ∙ named_shift weight shift (so_far + weight x) target xs
          ∙ sym (passed weight so_far target x xs beyond)
    ]
