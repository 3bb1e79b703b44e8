-- Laws of hops.
use Rattle.std.proofs.Common.{◌≡◌, ℕ, zero, suc, ◌+◌, ◌⊎◌, List, refl, sym, subst, inl, inr, arith}
use Rattle.std.specs.Prelude.{Contains}
use Rattle.spk_lattice.specs.Hops.{IsWithin, IsMutual}

pub within_self : (near : ℕ → List ℕ) (d i : ℕ) → IsWithin near d i i
unfolding IsWithin
within_self near zero i = refl
within_self near (suc d) i = inl refl

pub within_step : (near : ℕ → List ℕ) (d i k j : ℕ) → Contains (near i) k → IsWithin near d k j → IsWithin near (suc d) i j
unfolding IsWithin
within_step near d i k j next rest = inr (k, next, rest)

pub within_more : (near : ℕ → List ℕ) (d i j : ℕ) → IsWithin near d i j → IsWithin near (suc d) i j
unfolding IsWithin
within_more near zero i j same = inl same
within_more near (suc d) i j (inl same) = inl same
within_more near (suc d) i j (inr (k, next, rest)) = inr (k, next, within_more near d k j rest)

within_add : (near : ℕ → List ℕ) (a b n i j : ℕ) → b + a ≡ n → IsWithin near b i j → IsWithin near n i j
within_add near zero b n i j is within = let same : b ≡ n = omega arith in subst (λ x. IsWithin near x i j) same within
within_add near (suc a) b zero i j is within = absurd (omega arith)
within_add near (suc a) b (suc n) i j is within = within_more near n i j (within_add near a b n i j (omega arith) within)

pub within_join : (near : ℕ → List ℕ) (a b n i j k : ℕ) → b + a ≡ n → IsWithin near a i j → IsWithin near b j k → IsWithin near n i k
unfolding IsWithin
within_join near zero b n i j k is same second = within_add near 0 b n i k is (subst (λ x. IsWithin near b x k) (sym same) second)
within_join near (suc a) b zero i j k is first second = absurd (omega arith)
within_join near (suc a) b (suc n) i j k is (inl same) second = within_add near (suc a) b (suc n) i k is (subst (λ x. IsWithin near b x k) (sym same) second)
within_join near (suc a) b (suc n) i j k is (inr (m, next, rest)) second = inr (m, next, within_join near a b n m j k (omega arith) rest second)

-- hops stay among the sites
pub within_inside : (near : ℕ → List ℕ) (IsSite : ℕ → Type 0) (d i j : ℕ) → IsMutual near IsSite → IsSite i → IsWithin near d i j → IsSite j
unfolding IsWithin
within_inside near IsSite zero i j both is same = subst IsSite same is
within_inside near IsSite (suc d) i j both is (inl same) = subst IsSite same is
within_inside near IsSite (suc d) i j both is (inr (k, next, rest)) = within_inside near IsSite d k j both (both.inside i k is next) rest

-- as many hops lead back
pub within_back : (near : ℕ → List ℕ) (IsSite : ℕ → Type 0) (d i j : ℕ) → IsMutual near IsSite → IsSite i → IsWithin near d i j → IsWithin near d j i
unfolding IsWithin
within_back near IsSite zero i j both is same = sym same
within_back near IsSite (suc d) i j both is (inl same) = inl (sym same)
within_back near IsSite (suc d) i j both is (inr (k, next, rest)) =
    let there : IsSite k = both.inside i k is next in
    let first : IsWithin near d j k = within_back near IsSite d k j both there rest in
    let last : IsWithin near 1 k i = within_step near 0 k i i (both.back i k is next) refl in
    within_join near d 1 (suc d) j k i (omega arith) first last

pub within_last : (near : ℕ → List ℕ) (d i j : ℕ) → IsWithin near (suc d) i j → IsWithin near d i j ⊎ ((m : ℕ) × IsWithin near d i m × Contains (near m) j)
unfolding IsWithin
within_last near zero i j (inl same) = inl same
within_last near zero i j (inr (k, next, same)) = inr (i, refl, subst (λ x. Contains (near i) x) same next)
within_last near (suc d) i j (inl same) = inl (inl same)
within_last near (suc d) i j (inr (k, next, rest)) =
    elim (within_last near d k j rest) [
      | inl before ↦ inl (inr (k, next, before))
      | inr after ↦ inr (after.0, inr (k, next, after.1), after.2)
    ]
