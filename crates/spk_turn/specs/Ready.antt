-- What a turn needs of a view.
use Rattle.std.specs.Prelude.{ℕ, ◌<◌, ◌≤◌, Bool, IsTrue, List, map, length, slice_index, All, Contains, ◌≡◌}
use Rattle.spk_lattice.specs.Hops.{IsMutual, ReachesAtMost}
use Rattle.spk_app.specs.Sights.{Sight}
use Rattle.spk_app.specs.Applications.{Application, propensity}
use Rattle.spk_solve.specs.Choice.{Rule}
use Rattle.spk_sched.specs.Turns.{Sector}

-- Neighbours are neighbours both ways and in the view, each value is valid, and so many hops lead to few places.
pub record IsReady (app : Application) (whole : ℕ → Bool) (hops : ℕ) (sight : Sight) : Type 0 where
  pub both_ways : IsMutual sight.near (λ j. j < length sight.values)
  pub all_whole : (place : ℕ) → IsTrue (whole place)
  pub valid : All (λ v. IsTrue (app.is_valid v)) sight.values
  pub room : (place : ℕ) → place < length sight.values → ReachesAtMost sight.near hops place 729
  pub limit : length sight.values ≤ 4194304

-- the sites at these places of a view, as a sector
abbrev pub sector_on : Application → Rule → Sight → List ℕ → Sector
sector_on app rule sight places = record { application = app; rule = rule; near = sight.near; places = places }

-- the propensities at these places of a view, as it is
unfoldable pub propensities_in : Application → Sight → List ℕ → List ℕ
propensities_in app sight places = map (λ place. propensity (app.events sight place)) places

-- the propensity of a place, afresh
abbrev pub propensity_in : Application → Sight → ℕ → ℕ
propensity_in app sight place = propensity (app.events sight place)

-- kept propensities are right, but maybe not at these places
pub record IsRightBut (app : Application) (sight : Sight) (places kept todo : List ℕ) : Type 0 where
  pub all : length kept ≡ length places
  pub right : (slot : ℕ) → slot < length places → (Contains todo (slice_index places slot) → ⊥) → slice_index kept slot ≡ propensity_in app sight (slice_index places slot)
