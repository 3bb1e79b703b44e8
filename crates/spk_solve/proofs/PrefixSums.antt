-- Sums of the prefix_sum of a list.
use Rattle.std.proofs.Common.{◌≡◌, ℕ, zero, suc, ◌+◌, ◌-◌, ◌<◌, ◌≤◌, List, refl, inl, inr, arith, length, get_or, take, set, sum, ap, ◌⊎◌}
use Rattle.std.proofs.lemmas.List.Sums.{sum_by_more, sum_by-take-le, sum_by-set}
use Rattle.std.proofs.lemmas.List.{take-set-le, length-set, length-take-le, get_or-take, take_all}
use Rattle.std.proofs.Math.Seq.{take-set-lt}
use Rattle.std.proofs.Math.Nat.{add-zero}
use Rattle.spk_solve.specs.SumTrees.{prefix_sum}

pub prefix_more : (xs : List ℕ) (k : ℕ) → k < length xs → prefix_sum xs (k + 1) ≡ prefix_sum xs k + get_or xs k 0
unfolding prefix_sum
prefix_more xs k less = sum_by_more (λ x. x) xs k 0 less

pub prefix_whole : (xs : List ℕ) (k : ℕ) → prefix_sum xs k ≤ sum xs
unfolding prefix_sum
prefix_whole xs k = sum_by-take-le (λ x. x) xs k

pub prefix_none : (xs : List ℕ) → prefix_sum xs 0 ≡ 0
unfolding prefix_sum
prefix_none xs = refl

pub prefix_past : (xs : List ℕ) (k : ℕ) → length xs ≤ k → prefix_sum xs k ≡ sum xs
unfolding prefix_sum
prefix_past xs k past = ap sum (take_all k xs past)

here_or_past : (k n : ℕ) → (k < n) ⊎ (n ≤ k)
here_or_past k n = grind arith

prefix_step : (xs : List ℕ) (k : ℕ) → prefix_sum xs k ≤ prefix_sum xs (k + 1)
prefix_step xs k = elim (here_or_past k (length xs)) [
  | inl less ↦ omega (arith, prefix_more xs k less)
  | inr past ↦ omega (arith, prefix_past xs k past, prefix_past xs (k + 1) (omega arith))
]

pub prefix_grows_by : (xs : List ℕ) (k n : ℕ) → prefix_sum xs k ≤ prefix_sum xs (k + n)
prefix_grows_by xs k zero = rw (add-zero k) (omega arith)
prefix_grows_by xs k (suc n) =
    let e : k + suc n ≡ k + n + 1 = omega arith in
    rw e (omega (arith, prefix_grows_by xs k n, prefix_step xs (k + n)))

pub prefix_grows : (xs : List ℕ) (j k : ℕ) → j ≤ k → prefix_sum xs j ≤ prefix_sum xs k
prefix_grows xs j k le =
    let e : k ≡ j + (k - j) = omega arith in
    rw e (prefix_grows_by xs j (k - j))

-- a change at j is seen after j alone
pub prefix_set_before : (xs : List ℕ) (j v k : ℕ) → k ≤ j → prefix_sum (set xs j v) k ≡ prefix_sum xs k
unfolding prefix_sum
prefix_set_before xs j v k le = ap sum (take-set-le k xs j v le)

pub prefix_set_after : (xs : List ℕ) (j v k : ℕ) → j < length xs → j < k → prefix_sum (set xs j v) k + get_or xs j 0 ≡ prefix_sum xs k + v
unfolding prefix_sum
prefix_set_after xs j v k inside less = elim (here_or_past k (length xs)) [
  | inl short ↦
      let long : j < length (take k xs) = rw (length-take-le k xs (omega arith)) less in
      rw (take-set-lt k xs j v less, ← get_or-take k xs j 0 less) (sum_by-set (λ x. x) (take k xs) j v 0 long)
  | inr past ↦
      rw (take_all k xs past, take_all k (set xs j v) (rw (length-set xs j v) past)) (sum_by-set (λ x. x) xs j v 0 inside)
]

pub ruleset prefix_sums = (prefix_more, prefix_whole, prefix_none)
