-- Potts: a site has one of the values 1 to q.
use Rattle.std.specs.Prelude.{ℕ, ◌+◌, ◌*◌, ◌^◌, ◌==◌, nat_le, Bool, ◌&&◌, if◌then◌else◌, List, [], ◌∷◌, ◌++◌, map, length, slice_index}
use Rattle.std.specs.List.{list_any}
use Rattle.spk_num.specs.declared.style.Style.{Style}
use Rattle.spk_num.specs.Draws.{next_state, below_of}
use Rattle.spk_lattice.specs.Neighbours.{degree_of}
use Rattle.spk_app.specs.Sights.{Sight, values_near}
use Rattle.spk_app.specs.Applications.{Application, Event, Trial}
use Rattle.spk_potts.specs.Energies.{energy_of, weight_to}
use Rattle.spk_potts.specs.Trials.{proposed, rejected}

-- how many values there are, whether a trial proposes neighbours' values only, the lattice's style, and the temperature in millionths
pub record PottsSettings : Type 0 where
  pub q : ℕ
  pub neighonly : Bool
  pub style : Style
  pub temperature : ℕ

-- the values that a site may have
abbrev pub is_from_one_to : ℕ → ℕ → Bool
is_from_one_to q v = nat_le 1 v && nat_le v q

-- each value once, where it first appears, but for those that were seen before
abbrev pub first_values : List ℕ → List ℕ → List ℕ
first_values seen [] = []
first_values seen (v ∷ vs) = if list_any (λ u. u == v) seen then first_values seen vs else v ∷ first_values (seen ++ v ∷ []) vs

-- the values other than its own that a site's neighbours have, in the order in which they first appear
abbrev pub other_values : ℕ → List ℕ → List ℕ
other_values own near = first_values (own ∷ []) near

-- the event that takes a value
abbrev pub event_to : ℕ → ℕ → List ℕ → ℕ → Event
event_to temperature own near value = record { mark = value; weight = weight_to temperature own value near }

-- an event for each value that a neighbour has and the site hasn't
abbrev pub potts_events : ℕ → ℕ → List ℕ → List Event
potts_events temperature own near = map (event_to temperature own near) (other_values own near)

-- one of the values, by a draw
abbrev pub one_of : List ℕ → ℕ → ℕ
one_of values draw = slice_index values (below_of (length values) draw)

-- a trial that proposes one of the values of the site's events, if there is one
abbrev pub near_trial : ℕ → Sight → ℕ → ℕ → Trial
near_trial temperature s i stream =
    let others = other_values (slice_index s.values i) (values_near s i) in
    if length others == 0 then rejected stream else proposed temperature s i (one_of others (next_state stream)) (next_state stream)

-- a trial proposes one of the values of the site's events, or one of all values by a draw
abbrev pub potts_trial : PottsSettings → Sight → ℕ → ℕ → Trial
potts_trial settings s i stream =
    if settings.neighonly then near_trial settings.temperature s i stream
    else proposed settings.temperature s i (1 + below_of settings.q (next_state stream)) (next_state stream)

-- the rules of Potts
abbrev pub potts : PottsSettings → Application
potts settings = record {
  events = λ s i. potts_events settings.temperature (slice_index s.values i) (values_near s i);
  writes = λ s i mark. record { place = i; value = mark } ∷ [];
  trial = potts_trial settings;
  energy = energy_of;
  is_valid = is_from_one_to settings.q;
  largest = degree_of settings.style * 2 ^ 30;
  degree = degree_of settings.style;
}
