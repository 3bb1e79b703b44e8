-- How a number names an element of a list by the running sum of weights, and the rules by which a solver chooses.
use Rattle.std.specs.Prelude.{◌≡◌, ℕ, ◌+◌, ◌%◌, ◌<◌, nat_lt, if◌then◌else◌, List, [], ◌∷◌, length, take, sum, slice_index, Option, None, Some, option_map}
use Rattle.spk_num.specs.Draws.{next_state, below_two_of}
use Rattle.spk_solve.specs.declared.solver.Chosen.{Chosen}
use Rattle.spk_solve.specs.Bins.{Try, bins, bin_total, taken_of}

-- A target below the sum of all weights names the first element whose running sum, itself included, passes the target.
abbrev pub named_from : {E : Type 0} → (E → ℕ) → ℕ → ℕ → List E → Option E
named_from weight so_far target [] = None
named_from weight so_far target (e ∷ es) = if nat_lt target (so_far + weight e) then Some e else named_from weight (so_far + weight e) target es

unfoldable pub named : {E : Type 0} → (E → ℕ) → ℕ → List E → Option E
named weight target es = named_from weight 0 target es

-- the place that a target names in a list of propensities, and the rest of the target there
pub record IsNamed (propensities : List ℕ) (target place rest : ℕ) : Type 0 where
  pub within : place < length propensities
  pub split : sum (take place propensities) + rest ≡ target
  pub left : rest < slice_index propensities place

-- the stream after two draws
abbrev pub two_draws : ℕ → ℕ
two_draws stream = next_state (next_state stream)

-- the target below the total, by two draws
abbrev pub target_of : List ℕ → ℕ → ℕ
target_of propensities stream = below_two_of (sum propensities) (next_state stream) (two_draws stream)

-- a place, a rest, and the stream after the choice
pub record Choice : Type 0 where
  pub place : ℕ
  pub rest : ℕ
  pub stream : ℕ

-- the choice of a try: what is left of its value at its place
abbrev pub choice_of : List ℕ → Try → Choice
choice_of propensities try = record { place = try.place; rest = try.value % slice_index propensities try.place; stream = try.stream }

-- the choice by bins: the first bin whose running sum passes the target, and there by tries; none where the total is 0
abbrev pub bin_choice : List ℕ → ℕ → Option Choice
bin_choice propensities stream =
    option_map (λ bin. choice_of propensities (taken_of propensities bin (two_draws stream))) (named (bin_total propensities) (target_of propensities stream) bins)

-- the rules by which a solver chooses
pub data Rule : Type 0 where
  RunningSum : Rule
  Bins : Rule

-- what is chosen by a rule, and the stream after it
abbrev pub Chooses : Rule → List ℕ → ℕ → Chosen → ℕ → Type 0
Chooses RunningSum propensities stream chosen after = IsNamed propensities (target_of propensities stream) chosen.place chosen.rest × (after ≡ two_draws stream)
Chooses Bins propensities stream chosen after = bin_choice propensities stream ≡ Some (record { place = chosen.place; rest = chosen.rest; stream = after })
