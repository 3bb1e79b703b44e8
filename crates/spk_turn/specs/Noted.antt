-- What is noted of the places that an event may change.
use Rattle.std.specs.Prelude.{◌≡◌, ◌≢◌, ℕ, ◌<◌, List, [], ◌∷◌, Contains, length, slice_index}
use Rattle.spk_lattice.specs.Hops.{IsWithin}
use Rattle.spk_turn.specs.Reached.{IsReached}
use Rattle.spk_turn.specs.declared.changes.Changes.{Changes}

-- all places to which so many hops lead from an origin, with the values that they have
pub record AreNoted (near : ℕ → List ℕ) (values : List ℕ) (hops origin : ℕ) (changes : Changes) : Type 0 where
  pub reached : IsReached near hops (origin ∷ []) changes.places
  pub covers : (j : ℕ) → IsWithin near hops origin j → Contains changes.places j
  pub before : (k : ℕ) → k < length changes.places → slice_index changes.before k ≡ slice_index values (slice_index changes.places k)

-- this is one of the places, and what was noted of it isn't its value
abbrev pub IsChanged : List ℕ → List ℕ → List ℕ → ℕ → Type 0
IsChanged values places before j = (k : ℕ) × (k < length places) × (slice_index places k ≡ j) × (slice_index before k ≢ slice_index values j)
