-- Ising: a site has one of two values, 1 and 2.
use Rattle.std.specs.Prelude.{ℕ, ◌+◌, ◌-◌, ◌^◌, ◌==◌, Bool, ◌||◌, if◌then◌else◌, List, [], ◌∷◌, slice_index}
use Rattle.spk_num.specs.declared.style.Style.{Style}
use Rattle.spk_num.specs.Draws.{next_state, below_of}
use Rattle.spk_lattice.specs.Neighbours.{degree_of}
use Rattle.spk_app.specs.Sights.{Sight, values_near}
use Rattle.spk_app.specs.Applications.{Application, Event, Trial}
use Rattle.spk_potts.specs.Energies.{energy_of, weight_to}
use Rattle.spk_potts.specs.Trials.{proposed}

-- whether a trial always proposes the other value, the lattice's style, and the temperature in millionths
pub record IsingSettings : Type 0 where
  pub single : Bool
  pub style : Style
  pub temperature : ℕ

-- the values that a site may have
abbrev pub is_one_or_two : ℕ → Bool
is_one_or_two v = (v == 1) || (v == 2)

-- the other value of the two
abbrev pub other_value : ℕ → ℕ
other_value own = 3 - own

-- the one event of a site takes the other value
abbrev pub ising_events : ℕ → ℕ → List ℕ → List Event
ising_events temperature own near = record { mark = other_value own; weight = weight_to temperature own (other_value own) near } ∷ []

-- a trial proposes the other value, or one of the two by a draw
abbrev pub ising_trial : IsingSettings → Sight → ℕ → ℕ → Trial
ising_trial settings s i stream =
    if settings.single then proposed settings.temperature s i (other_value (slice_index s.values i)) stream
    else proposed settings.temperature s i (1 + below_of 2 (next_state stream)) (next_state stream)

-- the rules of Ising
abbrev pub ising : IsingSettings → Application
ising settings = record {
  events = λ s i. ising_events settings.temperature (slice_index s.values i) (values_near s i);
  writes = λ s i mark. record { place = i; value = mark } ∷ [];
  trial = ising_trial settings;
  energy = energy_of;
  is_valid = is_one_or_two;
  largest = 2 ^ 30;
  degree = degree_of settings.style;
}
