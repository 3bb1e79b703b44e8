-- The laws of applications.
use Rattle.std.specs.Prelude.{◌≡◌, ℕ, ◌+◌, ◌^◌, ◌<◌, ◌≤◌, IsTrue, List, map, length}
use Rattle.std.specs.List.{All}
use Rattle.spk_lattice.specs.Hops.{IsWithin}
use Rattle.spk_app.specs.Sights.{Sight, Write, Around, LooksSame, shown}
use Rattle.spk_app.specs.Applications.{Application, Event, Trial, HasMark, propensity}

-- the same trial, where f says which place shows which
abbrev pub shown_trial : (ℕ → ℕ) → Trial → Trial
shown_trial f trial = record { writes = map (shown f) trial.writes; stream = trial.stream; changed = trial.changed }

-- Events, energies, writes and trials depend on the surroundings alone, `prop` hops wide. Writes lie within `step` hops.
pub record IsLocal (prop step : ℕ) (app : Application) : Type 0 where
  pub events : (f : ℕ → ℕ) (here there : Sight) (i : ℕ) → LooksSame prop f here there i → app.events there (f i) ≡ app.events here i
  pub energy : (f : ℕ → ℕ) (here there : Sight) (i : ℕ) → LooksSame prop f here there i → app.energy there (f i) ≡ app.energy here i
  pub writes : (f : ℕ → ℕ) (here there : Sight) (i mark : ℕ) → LooksSame prop f here there i → HasMark (app.events here i) mark →
      app.writes there (f i) mark ≡ map (shown f) (app.writes here i mark)
  pub trial : (f : ℕ → ℕ) (here there : Sight) (i stream : ℕ) → LooksSame prop f here there i →
      app.trial there (f i) stream ≡ shown_trial f (app.trial here i stream)
  pub reach : (here : Sight) (i mark : ℕ) → HasMark (app.events here i) mark → All (λ w. IsWithin here.near step i w.place) (app.writes here i mark)
  pub trial_reach : (here : Sight) (i stream : ℕ) → All (λ w. IsWithin here.near step i w.place) (app.trial here i stream).writes

-- A site has few events, of small weights. On the lattice that the application was made for they add up to `largest` at most.
pub record IsBounded (app : Application) : Type 0 where
  pub few : (here : Sight) (i : ℕ) → length (here.near i) ≤ 26 → length (app.events here i) ≤ 26
  pub small : (here : Sight) (i : ℕ) → All (λ (e : Event). e.weight ≤ 2 ^ 30) (app.events here i)
  pub largest : (here : Sight) (i : ℕ) → length (here.near i) ≤ app.degree → propensity (app.events here i) ≤ app.largest
  pub above : 1 ≤ app.largest
  pub limit : app.largest ≤ 2 ^ 35

-- each value that is written is valid
abbrev pub WritesValid : Application → List Write → Type 0
WritesValid app writes = All (λ (w : Write). IsTrue (app.is_valid w.value)) writes

-- Where all values are valid and the surroundings are in the sight, valid values are written.
pub record StaysValid (prop : ℕ) (app : Application) : Type 0 where
  pub event : (here : Sight) (i mark : ℕ) → Around prop here.near (λ j. j < length here.values) i → All (λ v. IsTrue (app.is_valid v)) here.values →
      HasMark (app.events here i) mark → WritesValid app (app.writes here i mark)
  pub trial : (here : Sight) (i stream : ℕ) → Around prop here.near (λ j. j < length here.values) i → All (λ v. IsTrue (app.is_valid v)) here.values →
      WritesValid app (app.trial here i stream).writes

-- Writes lie closer than what is looked at, and both together reach 4 hops at most.
pub record IsNarrow (prop step : ℕ) : Type 0 where
  pub closer : step < prop
  pub few : prop + step ≤ 4
