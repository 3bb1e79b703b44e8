-- A run of an application on the sites of a box: what it tells at its marks, and the box and the dumps after it.
use Rattle.std.specs.Prelude.{ℕ, ◌+◌, ◌-◌, ◌*◌, ◌/◌, ◌^◌, min, Bool, if◌then◌else◌, List, [], ◌∷◌, map, Option, Some, None}
use Rattle.spk_num.specs.declared.decimal.Dec.{Dec}
use Rattle.spk_num.specs.declared.sweep.Sweep.{Sweep}
use Rattle.spk_world.specs.Effects.{Effect, ◌>>◌, answers, writes}
use Rattle.spk_app.specs.Applications.{Application}
use Rattle.spk_app.specs.PlainViews.{places_beside}
use Rattle.spk_app.specs.Sights.{Sight}
use Rattle.spk_run.specs.declared.domain.Domain.{Domain}
use Rattle.spk_run.specs.declared.dump.DumpState.{DumpState}
use Rattle.spk_sched.specs.declared.energy_kind.EnergyKind.{EnergyKind}
use Rattle.spk_sched.specs.declared.run_settings.RunSettings.{RunSettings}
use Rattle.spk_report.specs.declared.stats_line.StatsLine.{StatsLine}
use Rattle.spk_sched.specs.Turns.{counts_sum}
use Rattle.spk_sched.specs.Plans.{elapsed, has_line, marks, steps}
use Rattle.spk_sched.specs.Decompositions.{Triple, whole_of}
use Rattle.spk_sched.specs.Globals.{GlobalState, Job, Kinetics, global_state, all_counts}
use Rattle.spk_report.specs.Output.{prints}
use Rattle.spk_report.specs.Statistics.{statistics_text}
use Rattle.spk_run.specs.Dumps.{Scene, dumps_events, passed, started}
use Rattle.spk_run.specs.Energies.{energy_of_all}
use Rattle.spk_run.specs.Output.{header_text}

abbrev pub one_rank : Triple
one_rank = record { x = 1; y = 1; z = 1 }

-- a run on one rank, with one sector
abbrev pub job : Kinetics → RunSettings → Domain → Job
job kinetics settings domain = record {
  kinetics = kinetics;
  boxes = whole_of (record { lattice = domain.lattice; ranks = one_rank });
  settings = settings;
  values = domain.values;
  streams = domain.streams;
}

-- a sweep lasts 10^9 ticks; a count of sweeps ends at the last value of 64 bits
abbrev pub sweeps_after : Option Sweep → ℕ → ℕ → ℕ
sweeps_after None sweeps ticks = sweeps
sweeps_after (Some style) sweeps ticks = min (sweeps + ticks / 1000000000) (2 ^ 64 - 1)

-- the box, with the state of all ranks after so many ticks
abbrev pub domain_with : RunSettings → Domain → ℕ → GlobalState → Domain
domain_with settings domain ticks state = record domain {
  time = domain.time + ticks;
  values = state.values;
  streams = state.streams;
  counts = counts_sum domain.counts (all_counts state.counts);
  sweeps = sweeps_after settings.sweep domain.sweeps ticks;
}

-- the box after so many cycles
unfoldable pub domain_at : Kinetics → RunSettings → Domain → ℕ → Domain
domain_at kinetics settings domain done = domain_with settings domain (elapsed settings done) (global_state (job kinetics settings domain) (done * settings.sectors))

abbrev pub domain_after : Kinetics → RunSettings → Domain → Domain
domain_after kinetics settings domain = domain_with settings domain settings.length (global_state (job kinetics settings domain) (steps settings))

-- how a run is shown: where its log is, whether its lines have an energy, and for snapshots the length of a lattice unit and the
-- neighbours that the energy of a site counts
pub record Display : Type 0 where
  pub log : Option (List ℕ)
  pub with_energy : Bool
  pub scale : Dec
  pub energy : EnergyKind

-- all sites of a box, as an application sees them
abbrev pub sight_on : Domain → Sight
sight_on domain = record { values = domain.values; near = places_beside domain.lattice }

abbrev pub energy_if : Bool → ℕ → Option ℕ
energy_if asked energy = if asked then Some energy else None

-- the line of statistics of a box
abbrev pub line_of : Bool → Application → Domain → StatsLine
line_of with_energy application domain = record {
  time = domain.time;
  counts = domain.counts;
  sweeps = domain.sweeps;
  energy = energy_if with_energy (energy_of_all application (sight_on domain));
}

-- what snapshots show of a box
abbrev pub scene_of : Display → Domain → Scene
scene_of display domain = record { lattice = domain.lattice; scale = display.scale; energy = display.energy; time = domain.time; values = domain.values }

abbrev pub tells_line : Display → Application → Domain → Effect (Unit {0})
tells_line display application domain = prints display.log (statistics_text (line_of display.with_energy application domain))

abbrev pub tells_if : Bool → Effect (Unit {0}) → Effect (Unit {0})
tells_if lined line = if lined then line else answers tt

-- At a mark a line of statistics is written where one is due, and then the snapshots that are due.
unfoldable pub tells_mark : Display → Application → Bool → Domain → List DumpState → Effect (Unit {0})
tells_mark display application lined domain dumps =
    tells_if lined (tells_line display application domain) >> writes (dumps_events (scene_of display domain) dumps)

-- the dumps after a mark, which has so many cycles before it
abbrev pub passed_mark : RunSettings → Domain → ℕ → List DumpState → List DumpState
passed_mark settings domain done dumps = map (passed (domain.time + elapsed settings done)) dumps

-- one mark after another
unfoldable pub tells_marks : Display → Kinetics → RunSettings → Domain → List ℕ → List DumpState → Effect (Unit {0})
tells_marks display kinetics settings domain [] dumps = answers tt
tells_marks display kinetics settings domain (done ∷ marks) dumps =
    tells_mark display kinetics.application (has_line settings done) (domain_at kinetics settings domain done) dumps
    >> tells_marks display kinetics settings domain marks (passed_mark settings domain done dumps)

abbrev pub passed_marks : RunSettings → Domain → List ℕ → List DumpState → List DumpState
passed_marks settings domain [] dumps = dumps
passed_marks settings domain (done ∷ marks) dumps = passed_marks settings domain marks (passed_mark settings domain done dumps)

-- a header, and then all marks; a dump that no run has met yet is due at the run's start
unfoldable pub tells_run : Display → Kinetics → RunSettings → Domain → List DumpState → Effect (Unit {0})
tells_run display kinetics settings domain dumps =
    prints display.log (header_text display.with_energy) >> tells_marks display kinetics settings domain (marks settings) (map (started domain.time) dumps)

abbrev pub dumps_after : RunSettings → Domain → List DumpState → List DumpState
dumps_after settings domain dumps = passed_marks settings domain (marks settings) (map (started domain.time) dumps)

-- the box and the dumps after a run
pub record RunEnd : Type 0 where
  pub domain : Domain
  pub dumps : List DumpState

abbrev pub end_of : Kinetics → RunSettings → Domain → List DumpState → RunEnd
end_of kinetics settings domain dumps = record { domain = domain_after kinetics settings domain; dumps = dumps_after settings domain dumps }

abbrev pub runs : Display → Kinetics → RunSettings → Domain → List DumpState → Effect RunEnd
runs display kinetics settings domain dumps = tells_run display kinetics settings domain dumps >> answers (end_of kinetics settings domain dumps)
