-- What a run needs to write snapshots.
use Rattle.std.specs.Prelude.{◌≡◌, ℕ, ◌+◌, ◌*◌, ◌≤◌, true, List, vec_capacity}
use Rattle.std.specs.List.{All}
use Rattle.std.specs.String.{string_capacity}
use Rattle.spk_lattice.specs.Layout.{IsLattice, sites_of}
use Rattle.spk_report.specs.Pieces.{one_rank}
use Rattle.spk_run.specs.declared.dump.DumpState.{DumpState}
use Rattle.spk_run.specs.Dumps.{Scene, is_of_sites}
use Rattle.spk_run.specs.declared.snapshot_writer.SnapshotWriter.{SnapshotWriter}

-- the sites with these values at a time, as a run shows them
abbrev pub scene_at : SnapshotWriter → ℕ → List ℕ → Scene
scene_at writer time values =
    record { lattice = writer.sectors.grid.lattice; scale = writer.scale; energy = writer.energy; time = time; values = values }

-- It is for one rank, its report for the same lattice, and it has room for the name of any file.
pub record CanWrite (writer : SnapshotWriter) : Type 0 where
  pub one : writer.sectors.grid.ranks ≡ one_rank
  pub lattice : writer.sectors.grid.lattice ≡ writer.report
  pub on : IsLattice writer.sectors.grid.lattice
  pub name : 275 ≤ string_capacity writer.name

-- it has room for a site file
abbrev pub HasSitesRoom : SnapshotWriter → Type 0
HasSitesRoom writer = 80 + 19 * sites_of writer.sectors.grid.lattice ≤ vec_capacity writer.text

-- Where a dump writes site files there is room for one.
abbrev pub HasTextRoom : SnapshotWriter → DumpState → Type 0
HasTextRoom writer dump = is_of_sites dump.style ≡ true → HasSitesRoom writer

abbrev pub HasRoomForDumps : SnapshotWriter → List DumpState → Type 0
HasRoomForDumps writer dumps = All (HasTextRoom writer) dumps

-- a writer that shows the same as another, with as much room for texts
pub record ShowsAs (before now : SnapshotWriter) : Type 0 where
  pub sectors : now.sectors ≡ before.sectors
  pub scale : now.scale ≡ before.scale
  pub energy : now.energy ≡ before.energy
  pub report : now.report ≡ before.report
  pub room : vec_capacity before.text ≤ vec_capacity now.text
