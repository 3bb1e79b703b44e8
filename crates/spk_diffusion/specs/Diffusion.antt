-- Diffusion: atoms that hop to vacant sites beside them. Energies and hops are made after SPPARKS's. The order of hops is our own.
use Rattle.std.specs.Prelude.{ℕ, ◌+◌, ◌*◌, ◌^◌, Bool, false, not, ◌&&◌, ◌||◌, ◌==◌, if◌then◌else◌, List, [], ◌∷◌, count_by, slice_index}
use Rattle.spk_num.specs.declared.style.Style.{Style}
use Rattle.spk_lattice.specs.Neighbours.{degree_of}
use Rattle.spk_app.specs.Sights.{Sight, Write, values_near}
use Rattle.spk_app.specs.Applications.{Application, Event}
use Rattle.spk_app.specs.Weights.{weight_between}

-- whether energies are linear or off, the style of the lattice, and the temperature in millionths
pub record DiffusionSettings : Type 0 where
  pub linear : Bool
  pub style : Style
  pub temperature : ℕ

-- a site is vacant, or an atom occupies it
abbrev pub is_vacant : ℕ → Bool
is_vacant value = value == 1

abbrev pub is_occupied : ℕ → Bool
is_occupied value = value == 2

-- how many neighbours of a place are vacant
abbrev pub vacancies : Sight → ℕ → ℕ
vacancies s i = count_by is_vacant (values_near s i)

-- how many neighbours of a place are occupied
abbrev pub crowd : Sight → ℕ → ℕ
crowd s i = count_by is_occupied (values_near s i)

-- how many neighbours of a new place are occupied, but for the old place
abbrev pub crowd_but : Sight → ℕ → ℕ → ℕ
crowd_but s old new = count_by (λ k. not (k == old) && is_occupied (slice_index s.values k)) (s.near new)

-- The weight of a hop from an old place to a new one. A linear energy rises by the crowd that is left, less the crowd that is met.
abbrev pub hop_weight : DiffusionSettings → Sight → ℕ → ℕ → ℕ
hop_weight settings s old new =
    if settings.linear then weight_between settings.temperature (crowd_but s old new) (crowd s old) else 2 ^ 30

-- the hops to those of some places that are vacant, with a mark for each place, vacant or not
unfoldable pub hops_to : (ℕ → ℕ) → Sight → ℕ → List ℕ → List Event
hops_to weight s mark [] = []
hops_to weight s mark (j ∷ js) =
    if is_vacant (slice_index s.values j) then record { mark = mark; weight = weight j } ∷ hops_to weight s (mark + 1) js
    else hops_to weight s (mark + 1) js

-- the hops from an occupied site to its vacant neighbours; a vacant site has none
abbrev pub hops : DiffusionSettings → Sight → ℕ → List Event
hops settings s i = if is_occupied (slice_index s.values i) then hops_to (hop_weight settings s i) s 0 (s.near i) else []

-- two places exchange their values
abbrev pub exchange : Sight → ℕ → ℕ → List Write
exchange s i j = record { place = i; value = slice_index s.values j } ∷ record { place = j; value = slice_index s.values i } ∷ []

-- the energy of a site: an atom has one unit for each vacant neighbour
abbrev pub energy_of : DiffusionSettings → Sight → ℕ → ℕ
energy_of settings s i = if settings.linear && is_occupied (slice_index s.values i) then vacancies s i else 0

-- The mark of a hop is the neighbour's place in the list. There are no trials.
abbrev pub diffusion : DiffusionSettings → Application
diffusion settings = record {
  events = hops settings;
  writes = λ s i mark. exchange s i (slice_index (s.near i) mark);
  trial = λ s i stream. record { writes = []; stream = stream; changed = false };
  energy = energy_of settings;
  is_valid = λ value. is_vacant value || is_occupied value;
  largest = degree_of settings.style * 2 ^ 30;
  degree = degree_of settings.style;
}
