-- A list that is kept at the front of a longer one.
use Rattle.std.specs.Prelude.{◌≡◌, ℕ, ◌^◌, ◌≤◌, List, length, take, sum, All}

-- a list of propensities, and for how many there is room
pub record Kept : Type 0 where
  pub list : List ℕ
  pub room : ℕ

-- the first of a longer list, so many as are used
abbrev pub kept_of : List ℕ → ℕ → Kept
kept_of weights used = record { list = take used weights; room = length weights }

-- the used ones are small, and their total is kept
pub record IsKept (weights : List ℕ) (used total : ℕ) : Type 0 where
  pub within : used ≤ length weights
  pub room : length weights ≤ 4194304
  pub small : All (λ w. w ≤ 2 ^ 35) (take used weights)
  pub total_is : total ≡ sum (take used weights)
