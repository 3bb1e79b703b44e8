-- A run after so many of its steps: the sites are in the state of the plain simulator, and the marks so far are told.
use Rattle.std.specs.Prelude.{◌≡◌, ℕ, ◌+◌, ◌<◌, ◌≤◌, Bool, IsTrue, true, List, [], ◌∷◌, length, slice_set, Option, None, All}
use Rattle.spk_num.specs.declared.sweep.Sweep.{Sweep}
use Rattle.spk_lattice.specs.Layout.{Layout, IsLattice, sites_of}
use Rattle.spk_lattice.specs.Boxes.{cells_of, whole_box}
use Rattle.spk_patch.specs.Patches.{PatchSites, place_count}
use Rattle.spk_app.specs.Applications.{Application}
use Rattle.spk_world.specs.States.{WorldState}
use Rattle.spk_run.specs.declared.domain.Domain.{Domain}
use Rattle.spk_sched.specs.declared.run_settings.RunSettings.{RunSettings}
use Rattle.spk_run.specs.declared.dump.DumpState.{DumpState}
use Rattle.spk_run.specs.declared.run_room.RunRoom.{RunRoom}
use Rattle.spk_run.specs.declared.snapshot_writer.SnapshotWriter.{SnapshotWriter}
use Rattle.spk_run.specs.declared.running.Running.{Running}
use Rattle.spk_sched.specs.Plans.{elapsed, marks_from}
use Rattle.spk_sched.specs.Globals.{Kinetics, global_state}
use Rattle.spk_run.specs.Ranks.{IsKept}
use Rattle.spk_run.specs.Runs.{Display, dumps_after, job, one_rank, passed_marks, sweeps_after, tells_marks, tells_run}
use Rattle.spk_run.specs.Snapshots.{CanWrite, HasRoomForDumps}
use Rattle.spk_run.specs.Solvers.{rule_of, style_of, room_of}
use Rattle.spk_run.specs.Telling.{CanTell, GoesOnTelling}

-- a patch of all cells of a lattice
pub record HasAllCells (lattice : Layout) (patch : PatchSites) : Type 0 where
  pub lattice_is : patch.lattice ≡ lattice
  pub own : patch.own ≡ cells_of (whole_box lattice)
  pub halo : patch.halo ≡ 0
  pub wrapped : patch.wrapped ≡ true

-- there is room for the values of the sites of a box, for their texts, and for their propensities where there is no sweep
pub record HasRoomFor (domain : Domain) (dumps : List DumpState) (sweep : Option Sweep) (room : RunRoom) : Type 0 where
  pub patch : HasAllCells domain.lattice room.patch
  pub solver : sweep ≡ None → sites_of domain.lattice ≤ room_of room.solver
  pub writer : CanWrite room.writer
  pub lattice : room.writer.sectors.grid.lattice ≡ domain.lattice
  pub texts : HasRoomForDumps room.writer dumps
  pub piece : length room.piece ≡ sites_of domain.lattice

-- an application can run on a box: each site has a value, which is valid, and there is room
pub record IsRunnable (application : Application) (sweep : Option Sweep) (domain : Domain) (dumps : List DumpState) (room : RunRoom) : Type 0 where
  pub fits : length domain.values ≡ sites_of domain.lattice
  pub valid : All (λ v. IsTrue (application.is_valid v)) domain.values
  pub room_for : HasRoomFor domain dumps sweep room

-- All sites can be shown, as long as no write has failed.
pub record CanShow (running : Running) : Type 0 where
  pub patch : HasAllCells running.lattice running.rank.patch
  pub piece : length running.piece ≡ sites_of running.lattice
  pub tell : CanTell running.teller
  pub lattice : running.teller.writer.sectors.grid.lattice ≡ running.lattice
  pub ranks : running.teller.writer.sectors.grid.ranks ≡ one_rank
  pub texts : HasRoomForDumps running.teller.writer running.dumps

-- The rank is ready for turns, there is room for its values, and all sites can be shown.
pub record IsReady (application : Application) (sweep : Option Sweep) (running : Running) : Type 0 where
  pub kept : IsKept application sweep running.rank
  pub values : length running.values ≡ place_count running.rank.patch
  pub show : CanShow running

-- how a run is shown, by what it holds
abbrev pub display_of : Option (List ℕ) → Bool → SnapshotWriter → Display
display_of log with_energy writer = record { log = log; with_energy = with_energy; scale = writer.scale; energy = writer.energy }

pub record IsShownBy (display : Display) (running : Running) : Type 0 where
  pub with_energy : running.with_energy ≡ display.with_energy
  pub scale : running.teller.writer.scale ≡ display.scale
  pub energy : running.teller.writer.energy ≡ display.energy

-- what a run keeps of the box that it began with
pub record KeepsBox (domain : Domain) (running : Running) : Type 0 where
  pub lattice : running.lattice ≡ domain.lattice
  pub streams : running.streams ≡ domain.streams
  pub counts : running.counts ≡ domain.counts
  pub patch : HasAllCells domain.lattice running.rank.patch
  pub cells : running.rank.cells ≡ cells_of (whole_box domain.lattice)
  pub on : IsLattice domain.lattice
  pub some_stream : 0 < length domain.streams

pub record HasDone (kinetics : Kinetics) (settings : RunSettings) (domain : Domain) (done : ℕ) (running : Running) : Type 0 where
  pub keeps : KeepsBox domain running
  pub time : running.time ≡ domain.time + elapsed settings done
  pub sweeps : running.sweeps ≡ sweeps_after settings.sweep domain.sweeps (elapsed settings done)
  pub rule : rule_of (style_of running.rank.solver) ≡ kinetics.rule
  pub state : global_state (job kinetics settings domain) done
      ≡ record { values = running.rank.patch.values; streams = slice_set domain.streams 0 running.rank.stream; counts = running.rank.counts ∷ [] }

-- The run is after so many steps: the sites, the dumps and what is told are those of the plain simulator.
pub record RunsOn (start now : WorldState) (display : Display) (kinetics : Kinetics) (settings : RunSettings) (domain : Domain) (given : List DumpState) (done : ℕ) (running : Running) : Type 0 where
  pub has_done : HasDone kinetics settings domain done running
  pub shown : IsShownBy display running
  pub dumps : passed_marks settings domain (marks_from settings done) running.dumps ≡ dumps_after settings domain given
  pub goes : GoesOnTelling start now display.log running.teller (tells_run display kinetics settings domain given)
      (tells_marks display kinetics settings domain (marks_from settings done) running.dumps)
