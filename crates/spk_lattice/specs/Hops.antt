-- Hops from site to neighbour.
use Rattle.std.specs.Prelude.{◌≢◌, ◌≡◌, ◌≤◌, ◌⊎◌, ℕ, zero, suc, List, All, AllPairs, Contains, length}

-- at most so many hops lead from a site to another
unfoldable pub IsWithin : (ℕ → List ℕ) → ℕ → ℕ → ℕ → Type 0
IsWithin near zero i j = i ≡ j
IsWithin near (suc d) i j = (i ≡ j) ⊎ ((k : ℕ) × Contains (near i) k × IsWithin near d k j)

-- among these sites, neighbours are neighbours both ways
pub record IsMutual (near : ℕ → List ℕ) (IsSite : ℕ → Type 0) : Type 0 where
  pub inside : (i j : ℕ) → IsSite i → Contains (near i) j → IsSite j
  pub back : (i j : ℕ) → IsSite i → Contains (near i) j → Contains (near j) i

-- so many hops lead to at most so many sites
unfoldable pub ReachesAtMost : (ℕ → List ℕ) → ℕ → ℕ → ℕ → Type 0
ReachesAtMost near d i most = (xs : List ℕ) → AllPairs (λ a b. a ≢ b) xs → All (λ j. IsWithin near d i j) xs → length xs ≤ most
