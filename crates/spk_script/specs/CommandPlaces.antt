-- Where the commands among lines are.
use Rattle.std.specs.Prelude.{◌≡◌, ℕ, ◌<◌, ◌≤◌, Bool, true, false, List, length, get_or}
use Rattle.spk_script.specs.Lines.{LogicalLine, is_command}

-- whether there is a command at a place
abbrev pub IsCommandAt : List LogicalLine → ℕ → Bool → Type 0
IsCommandAt lines place is = (line : LogicalLine) → is_command (get_or lines place line) ≡ is

-- the first command from a place on
pub record IsFirstFrom (lines : List LogicalLine) (from place : ℕ) : Type 0 where
  pub following : from ≤ place
  pub within : place < length lines
  pub is : IsCommandAt lines place true
  pub between : (k : ℕ) → from ≤ k → k < place → IsCommandAt lines k false

-- places of first commands, from the lines before a place; after the last place there is no command
pub record IsTableUpTo (lines : List LogicalLine) (places : List ℕ) (place : ℕ) : Type 0 where
  pub short : length places ≤ place
  pub first : (k : ℕ) → k < length places → IsFirstFrom lines k (get_or places k 0)
  pub none : (k : ℕ) → length places ≤ k → k < place → IsCommandAt lines k false
