-- The propensity of a site, event by event.
use Rattle.std.proofs.Common.{◌≡◌, ℕ, List, [], ◌∷◌, refl, arith}
use Rattle.spk_app.specs.Applications.{Event, propensity}
use Rattle.spk_potts.specs.Ising.{ising_events}

-- of one event
pub propensity_one : (event : Event) → propensity (event ∷ []) ≡ event.weight
unfolding propensity
propensity_one event = omega arith

-- of equal sites
pub ising_same : (t u own there : ℕ) (near around : List ℕ) → t ≡ u → own ≡ there → near ≡ around → propensity (ising_events t own near) ≡ propensity (ising_events u there around)
ising_same t u own there near around heat value beside = rw (heat, value, beside) refl
