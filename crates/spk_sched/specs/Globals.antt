-- The state of all ranks after a number of steps. Ranks take their turns one after another on the same values, after the report
-- SAND2009-6226 on sectors; the streams are our own rule.
use Rattle.std.specs.Prelude.{ℕ, zero, suc, ◌+◌, ◌*◌, ◌^◌, List, replicate, slice_index, slice_set, slice_get, sum_by, unwrap_or}
use Rattle.spk_lattice.specs.Layout.{Layout, dimensions_of}
use Rattle.spk_lattice.specs.Boxes.{places_of}
use Rattle.spk_app.specs.Applications.{Application}
use Rattle.spk_app.specs.PlainViews.{places_beside}
use Rattle.spk_solve.specs.Choice.{Rule}
use Rattle.spk_sched.specs.declared.counts.Counts.{Counts}
use Rattle.spk_sched.specs.declared.run_settings.RunSettings.{RunSettings}
use Rattle.spk_sched.specs.Decompositions.{Decomposition, rank_count, sector_box}
use Rattle.spk_sched.specs.Plans.{sector_at, window}
use Rattle.spk_sched.specs.Turns.{Sector, RankState, turn_by, no_counts}

-- the values of all sites, the streams by rank and then by sector, and for each rank the events since the run's start
pub record GlobalState : Type 0 where
  pub values : List ℕ
  pub streams : List ℕ
  pub counts : List Counts

-- the rules by which events come about, and the one by which each is chosen
pub record Kinetics : Type 0 where
  pub application : Application
  pub rule : Rule

abbrev pub kinetics_of : Application → Rule → Kinetics
kinetics_of application rule = record { application = application; rule = rule }

-- what a run is of: its kinetics, the boxes of ranks and sectors, the run's settings, and the values and streams at its start
pub record Job : Type 0 where
  pub kinetics : Kinetics
  pub boxes : Decomposition
  pub settings : RunSettings
  pub values : List ℕ
  pub streams : List ℕ

abbrev pub lattice_of_job : Job → Layout
lattice_of_job job = job.boxes.grid.lattice

-- a rank has a stream for each sector that its box can have, also where the box isn't halved
abbrev pub streams_each : Layout → ℕ
streams_each lattice = 2 ^ dimensions_of lattice.style

abbrev pub ranks_of : Job → ℕ
ranks_of job = rank_count job.boxes.grid.ranks

-- what a rank's turn in a sector is of
abbrev pub sector_of : Job → ℕ → ℕ → Sector
sector_of job rank sector = record {
  application = job.kinetics.application;
  rule = job.kinetics.rule;
  near = places_beside (lattice_of_job job);
  places = places_of (lattice_of_job job) (sector_box job.boxes rank sector);
}

abbrev pub counts_at : List Counts → ℕ → Counts
counts_at counts rank = unwrap_or (slice_get counts rank) no_counts

-- the place of the stream of a rank at a step
abbrev pub stream_place : Job → ℕ → ℕ → ℕ
stream_place job step rank = rank * streams_each (lattice_of_job job) + sector_at job.settings step

abbrev pub rank_state : Job → ℕ → ℕ → GlobalState → RankState
rank_state job step rank state = record {
  values = state.values;
  stream = slice_index state.streams (stream_place job step rank);
  counts = counts_at state.counts rank;
}

abbrev pub with_rank_state : Job → ℕ → ℕ → GlobalState → RankState → GlobalState
with_rank_state job step rank state turned = record {
  values = turned.values;
  streams = slice_set state.streams (stream_place job step rank) turned.stream;
  counts = slice_set state.counts rank turned.counts;
}

-- the turn of a rank
abbrev pub after_rank : Job → ℕ → ℕ → GlobalState → GlobalState
after_rank job step rank state =
    with_rank_state job step rank state (turn_by job.settings.sweep (sector_of job rank (sector_at job.settings step)) (window job.settings step) (rank_state job step rank state))

-- the turns of the first so many ranks, one after another
abbrev pub after_ranks : Job → ℕ → ℕ → GlobalState → GlobalState
after_ranks job step zero state = state
after_ranks job step (suc ranks) state = after_rank job step ranks (after_ranks job step ranks state)

abbrev pub at_start : Job → GlobalState
at_start job = record { values = job.values; streams = job.streams; counts = replicate (ranks_of job) no_counts }

-- after so many steps
unfoldable pub global_state : Job → ℕ → GlobalState
global_state job zero = at_start job
global_state job (suc step) = after_ranks job step (ranks_of job) (global_state job step)

-- the events of all ranks
abbrev pub all_counts : List Counts → Counts
all_counts counts = record {
  accepted = sum_by (λ (c : Counts). c.accepted) counts;
  rejected = sum_by (λ (c : Counts). c.rejected) counts;
}
