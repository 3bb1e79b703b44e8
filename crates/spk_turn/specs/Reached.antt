-- Places to which few hops lead.
use Rattle.std.specs.Prelude.{◌≡◌, ◌≢◌, ◌<◌, ◌≤◌, ◌%◌, ℕ, List, [], ◌∷◌, ◌++◌, All, AllPairs, Contains, length, slice_index, ◌==◌, if◌then◌else◌}
use Rattle.std.specs.List.{list_any}
use Rattle.spk_lattice.specs.Hops.{IsWithin}

-- a mark is the index of a place that counts and has this remainder
pub record IsMark (count : ℕ) (places : List ℕ) (remainder mark : ℕ) : Type 0 where
  pub counts : mark < count
  pub same : slice_index places mark % 1021 ≡ remainder

-- the remainder of each place that counts has a mark
pub record AreMarked (count : ℕ) (places marks : List ℕ) : Type 0 where
  pub few : count ≤ 729
  pub marked : (k : ℕ) → k < count → IsMark count places (slice_index places k % 1021) (slice_index marks (slice_index places k % 1021))

-- at most so many hops lead to a site from one of these
abbrev pub IsNear : (ℕ → List ℕ) → ℕ → List ℕ → ℕ → Type 0
IsNear near hops origins j = (o : ℕ) × Contains origins o × IsWithin near hops o j

-- at most so many hops lead to each of these places from one of the origins, and none stands twice
pub record IsReached (near : ℕ → List ℕ) (hops : ℕ) (origins places : List ℕ) : Type 0 where
  pub within : All (IsNear near hops origins) places
  pub once : AllPairs (λ a b. a ≢ b) places

-- from these sites, so many hops lead to at most so many
unfoldable pub ReachAtMost : (ℕ → List ℕ) → ℕ → List ℕ → ℕ → Type 0
ReachAtMost near hops origins most = (xs : List ℕ) → AllPairs (λ a b. a ≢ b) xs → All (IsNear near hops origins) xs → length xs ≤ most

-- a place is added, if it isn't there
unfoldable pub with_place : List ℕ → ℕ → List ℕ
with_place places j = if list_any (λ k. k == j) places then places else places ++ j ∷ []

-- some places are added, one after another
unfoldable pub with_places : List ℕ → List ℕ → List ℕ
with_places places [] = places
with_places places (j ∷ js) = with_places (with_place places j) js
