-- Dumps: when the snapshots of each are due, and which files they go to. They are made after SPPARKS's dumps; the rules are our own.
use Rattle.std.specs.Prelude.{ℕ, ◌+◌, ◌≤◌, Bool, true, false, ◌||◌, ◌==◌, nat_le, if◌then◌else◌, List, [], ◌++◌, length, flat_map, decimal, Option, Some, unwrap_or}
use Rattle.std.specs.List.{after_first, before_first, list_any, position}
use Rattle.std.specs.Option.{option_map_or}
use Rattle.std.specs.Str.{bytes_eq}
use Rattle.spk_num.specs.declared.decimal.Dec.{Dec}
use Rattle.spk_lattice.specs.Layout.{Layout}
use Rattle.spk_sched.specs.Plans.{next_above}
use Rattle.spk_sched.specs.SiteTexts.{sites_text}
use Rattle.spk_sched.specs.declared.dues.Due.{Due}
use Rattle.spk_sched.specs.declared.energy_kind.EnergyKind.{EnergyKind}
use Rattle.spk_report.specs.Snapshots.{snapshot_text}
use Rattle.spk_report.specs.declared.dump_head.DumpHead.{DumpHead}
use Rattle.spk_world.specs.Outside.{Event, adds, starts}
use Rattle.spk_cmds.specs.declared.command.DumpStyle.{DumpStyle}
use Rattle.spk_cmds.specs.declared.command.DumpStyle.TheVariants.{Text, Sites}
use Rattle.spk_run.specs.declared.dump.DumpState.{DumpState}

-- Its interval is in range, its file has a name of at most 255 bytes, and it has had no more snapshots than times have passed.
pub record IsDump (dump : DumpState) : Type 0 where
  pub some_delta : 1 ≤ dump.delta
  pub short_delta : dump.delta ≤ 1000000000000000000
  pub short_file : length dump.file ≤ 255
  pub few : dump.number ≤ unwrap_or dump.next 0

-- A dump is due first at the start of the first run after it, and then at whole intervals from there.
abbrev pub due_of : ℕ → DumpState → Due
due_of start dump = record { next = unwrap_or dump.next start; delta = dump.delta }

abbrev pub started : ℕ → DumpState → DumpState
started start dump = record dump { next = Some (unwrap_or dump.next start) }

-- a snapshot is due at a time
abbrev pub is_due : ℕ → DumpState → Bool
is_due time dump = option_map_or (λ next. nat_le next time) dump.next false

abbrev pub is_any_due : ℕ → List DumpState → Bool
is_any_due time dumps = list_any (is_due time) dumps

-- a dump after the moment with this time, at which it has written a snapshot where one was due
abbrev pub passed : ℕ → DumpState → DumpState
passed time dump = if is_due time dump then record dump { next = Some (next_above time (due_of time dump)); number = dump.number + 1 } else dump

-- the file of a snapshot: the first `*` of its name stands for the snapshot's number
abbrev pub is_star : ℕ → Bool
is_star b = b == 42

abbrev pub has_star : List ℕ → Bool
has_star name = list_any is_star name

abbrev pub numbered : List ℕ → ℕ → List ℕ
numbered name number = if has_star name then before_first is_star name ++ (decimal number ++ after_first is_star name) else name

abbrev pub file_of : DumpState → List ℕ
file_of dump = numbered dump.file dump.number

-- Each snapshot with a number in its file's name starts its file, and each of style sites; one of style text does so where it is the
-- first, and goes on with it later.
abbrev pub is_of_sites : DumpStyle → Bool
is_of_sites Text = false
is_of_sites Sites = true

abbrev pub starts_file : DumpState → Bool
starts_file dump = has_star dump.file || is_of_sites dump.style || (dump.number == 0)

abbrev pub has_sites_dump : List DumpState → Bool
has_sites_dump dumps = list_any (λ (dump : DumpState). is_of_sites dump.style) dumps

-- the place of the dump with a name
abbrev pub place_of : List DumpState → List ℕ → Option ℕ
place_of dumps name = position (λ (dump : DumpState). bytes_eq dump.name name) dumps

-- what snapshots show: the sites of a lattice at a time
pub record Scene : Type 0 where
  pub lattice : Layout
  pub scale : Dec
  pub energy : EnergyKind
  pub time : ℕ
  pub values : List ℕ

abbrev pub head_of : Scene → DumpState → DumpHead
head_of scene dump = record { number = dump.number; time = scene.time; scale = scene.scale; energy = scene.energy }

abbrev pub text_by : DumpStyle → Scene → DumpState → List ℕ
text_by Text scene dump = snapshot_text (head_of scene dump) scene.lattice dump.fields scene.values
text_by Sites scene dump = sites_text scene.time scene.values

-- the events of a snapshot
abbrev pub starts_if : Bool → List ℕ → List Event
starts_if starting name = if starting then starts name else []

unfoldable pub snapshot_events : Scene → DumpState → List Event
snapshot_events scene dump = starts_if (starts_file dump) (file_of dump) ++ adds (file_of dump) (text_by dump.style scene dump)

-- what a dump does at a moment, and what all dumps do, in the order in which they were given
unfoldable pub dump_events : Scene → DumpState → List Event
dump_events scene dump = if is_due scene.time dump then snapshot_events scene dump else []

unfoldable pub dumps_events : Scene → List DumpState → List Event
dumps_events scene dumps = flat_map (dump_events scene) dumps
