-- Turns of the sites of a sector: events, one after another, by the kinetic Monte Carlo rule of SPPARKS's manual, and sweeps of
-- trials. The order of sites and events, the draws and the waiting times are our own rules.
use Rattle.std.specs.Prelude.{ℕ, zero, suc, ◌+◌, ◌-◌, ◌/◌, ◌^◌, ◌≤◌, ◌==◌, nat_le, if◌then◌else◌, Bool, min, List, map, length, sum, flat_map, slice_index, Option, Some, None, option_and_then}
use Rattle.std.specs.Option.{option_map_or}
use Rattle.std.specs.List.{range_with_len}
use Rattle.spk_num.specs.declared.sweep.Sweep.{Sweep}
use Rattle.spk_num.specs.declared.sweep.Sweep.TheVariants.{Random}
use Rattle.spk_num.specs.Draws.{next_state, below_of}
use Rattle.spk_num.specs.Logarithm.{wait_of}
use Rattle.spk_app.specs.Sights.{Sight, written}
use Rattle.spk_app.specs.Applications.{Application, Event, Trial, propensity}
use Rattle.spk_solve.specs.Choice.{Rule, RunningSum, Bins, Choice, named, target_of, two_draws, bin_choice}
use Rattle.spk_sched.specs.declared.counts.Counts.{Counts}

-- what a turn is of: an application, a rule by which events are chosen, the places beside each place, and the places of the
-- sites that may change, in the order of their ids
pub record Sector : Type 0 where
  pub application : Application
  pub rule : Rule
  pub near : ℕ → List ℕ
  pub places : List ℕ

-- all places of so many are one sector
abbrev pub all_places : Application → Rule → (ℕ → List ℕ) → ℕ → Sector
all_places application rule near count = record { application = application; rule = rule; near = near; places = range_with_len 0 count }

-- an event with the place of its site
pub record SiteEvent : Type 0 where
  pub place : ℕ
  pub event : Event

abbrev pub at_site : ℕ → Event → SiteEvent
at_site place event = record { place = place; event = event }

abbrev pub weight_of : SiteEvent → ℕ
weight_of e = e.event.weight

abbrev pub seen : Sector → List ℕ → Sight
seen sector values = record { values = values; near = sector.near }

abbrev pub events_at : Sector → List ℕ → ℕ → List Event
events_at sector values place = sector.application.events (seen sector values) place

abbrev pub site_events : Sector → List ℕ → ℕ → List SiteEvent
site_events sector values place = map (at_site place) (events_at sector values place)

-- all events of a sector, in the order of its sites
unfoldable pub all_events : Sector → List ℕ → List SiteEvent
all_events sector values = flat_map (site_events sector values) sector.places

unfoldable pub propensities : Sector → List ℕ → List ℕ
propensities sector values = map (λ place. propensity (events_at sector values place)) sector.places

abbrev pub total : Sector → List ℕ → ℕ
total sector values = sum (propensities sector values)

abbrev pub after_event_of : Sector → List ℕ → Option SiteEvent → List ℕ
after_event_of sector values None = values
after_event_of sector values (Some e) = written (sector.application.writes (seen sector values) e.place e.event.mark) values

-- what the turns of a rank change: the values of the sites, the stream from which it draws in the sector, and its events since
-- the run's start
pub record RankState : Type 0 where
  pub values : List ℕ
  pub stream : ℕ
  pub counts : Counts

-- The event that a rule chooses by the draws from a stream: by the running sum, the one of all events that the target names, and
-- by bins, the one of the chosen site's events that the rest names.
unfoldable pub event_by : Rule → Sector → List ℕ → ℕ → Option SiteEvent
event_by RunningSum sector values stream = named weight_of (target_of (propensities sector values) stream) (all_events sector values)
event_by Bins sector values stream =
    option_and_then {T = Choice} {U = SiteEvent} (λ (c : Choice). named weight_of c.rest (site_events sector values (slice_index sector.places c.place)))
    (bin_choice (propensities sector values) stream)

-- the stream after these draws
unfoldable pub stream_by : Rule → List ℕ → ℕ → ℕ
stream_by RunningSum propensities stream = two_draws stream
stream_by Bins propensities stream = option_map_or (λ (c : Choice). c.stream) (bin_choice propensities stream) stream

-- one more draw is for the time that the event takes
abbrev pub stream_after : Sector → RankState → ℕ
stream_after sector state = next_state (stream_by sector.rule (propensities sector state.values) state.stream)

abbrev pub wait_before : Sector → RankState → ℕ
wait_before sector state = wait_of (total sector state.values) (stream_after sector state)

-- both counts fit 64 bits
abbrev pub IsCount : Counts → Type 0
IsCount counts = (counts.accepted ≤ 2 ^ 64 - 1) × (counts.rejected ≤ 2 ^ 64 - 1)

-- a count ends at the last value of 64 bits
abbrev pub counts_sum : Counts → Counts → Counts
counts_sum some more = record { accepted = min (some.accepted + more.accepted) (2 ^ 64 - 1); rejected = min (some.rejected + more.rejected) (2 ^ 64 - 1) }

abbrev pub with_accepted : Counts → Counts
with_accepted counts = record counts { accepted = min (counts.accepted + 1) (2 ^ 64 - 1) }

abbrev pub no_counts : Counts
no_counts = record { accepted = 0; rejected = 0 }

-- after the event that is chosen
abbrev pub after_event : Sector → RankState → RankState
after_event sector state = record {
  values = after_event_of sector state.values (event_by sector.rule sector state.values state.stream);
  stream = stream_after sector state;
  counts = with_accepted state.counts;
}

-- A turn from this local time on, of at most so many events. Propensities are taken afresh before each. It stops where
-- their total is 0, and where the next event would reach the end of the window: that event isn't done.
unfoldable pub turn_from : Sector → ℕ → ℕ → ℕ → RankState → RankState
turn_from sector zero window local state = state
turn_from sector (suc more) window local state =
    if total sector state.values == 0 then state
    else (if nat_le window (local + wait_before sector state) then record state { stream = stream_after sector state }
    else turn_from sector more window (local + wait_before sector state) (after_event sector state))

-- a turn with a window of so many ticks: each event takes one at least, so no more of them are done
abbrev pub turn_of : Sector → ℕ → RankState → RankState
turn_of sector window state = turn_from sector window window 0 state

-- A picked site, by its place, and the stream after the pick.
pub record Pick : Type 0 where
  pub place : ℕ
  pub stream : ℕ

-- The k-th pick of a sweep: a raster goes through the sites in the order of their ids, and a random one draws one of them.
abbrev pub pick_by : Sweep → List ℕ → ℕ → ℕ → Pick
pick_by Random places k stream = record { place = slice_index places (below_of (length places) (next_state stream)); stream = next_state stream }
pick_by style places k stream = record { place = slice_index places k; stream = stream }

abbrev pub with_rejected : Counts → Counts
with_rejected counts = record counts { rejected = min (counts.rejected + 1) (2 ^ 64 - 1) }

-- a trial is accepted where the value changed
abbrev pub with_trial : Bool → Counts → Counts
with_trial changed counts = if changed then with_accepted counts else with_rejected counts

abbrev pub trial_at : Sector → RankState → Pick → Trial
trial_at sector state pick = sector.application.trial (seen sector state.values) pick.place pick.stream

-- after the trial at a picked site
abbrev pub after_pick : Sector → RankState → Pick → RankState
after_pick sector state pick =
    let trial = trial_at sector state pick in
    record { values = written trial.writes state.values; stream = trial.stream; counts = with_trial trial.changed state.counts }

-- so many picks, from the k-th of a sweep on
unfoldable pub picks_from : Sweep → Sector → ℕ → ℕ → RankState → RankState
picks_from style sector zero k state = state
picks_from style sector (suc more) k state = picks_from style sector more (k + 1) (after_pick sector state (pick_by style sector.places k state.stream))

-- a sweep makes as many picks as the sector has sites
abbrev pub sweep_of : Sweep → Sector → RankState → RankState
sweep_of style sector state = picks_from style sector (length sector.places) 0 state

-- so many sweeps, one after another
unfoldable pub sweeps_of : Sweep → Sector → ℕ → RankState → RankState
sweeps_of style sector zero state = state
sweeps_of style sector (suc more) state = sweeps_of style sector more (sweep_of style sector state)

-- a turn: whole sweeps, of 10^9 ticks each, where there is a sweep, and events where there is none
abbrev pub turn_by : Option Sweep → Sector → ℕ → RankState → RankState
turn_by None sector window state = turn_of sector window state
turn_by (Some style) sector window state = sweeps_of style sector (window / 1000000000) state
