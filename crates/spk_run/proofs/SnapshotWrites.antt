-- What a snapshot writes, part by part.
use Rattle.std.proofs.Common.{◌≡◌, ℕ, Bool, true, false, List, [], ◌++◌, Ok, Err, Result, refl, subst}
use Rattle.std.proofs.Math.Path.{fun_ext}
use Rattle.std.specs.Option.{option_map}
use Rattle.std.specs.Result.{IsErrAnd}
use Rattle.spk_world.specs.Outside.{Event, File, adds, started, starts, WritesPrefix}
use Rattle.spk_world.specs.States.{WorldState}
use Rattle.spk_world.specs.Causes.{FileCause}
use Rattle.spk_world.specs.Effects.{Effect, ◌>>=◌, ◌>>◌, answers, writes, Stop, WriteFailed, Wrote}
use Rattle.spk_world.specs.declared.world.Failed.{Failed}
use Rattle.spk_world.proofs.EffectLaws.{wrote_answer, wrote_failed, wrote_fault, wrote_then, wrote_whole}
use Rattle.spk_world.proofs.Writes.{wrote_starts, failed_starts}
use Rattle.spk_report.specs.Output.{failed_stop, trouble_stop}
use Rattle.spk_report.specs.declared.write_trouble.WriteTrouble.{WriteTrouble}
use Rattle.spk_report.specs.declared.write_trouble.WriteTrouble.TheVariants as trouble_of
use Rattle.spk_num.specs.declared.field.Field.{Field}
use Rattle.spk_report.specs.Snapshots.{snapshot_text}
use Rattle.spk_report.specs.declared.dump_head.DumpHead.{DumpHead}
use Rattle.spk_cmds.specs.declared.command.DumpStyle.TheVariants as dump_of
use Rattle.spk_run.specs.declared.dump.DumpState.{DumpState}
use Rattle.spk_run.specs.declared.snapshot_writer.SnapshotWriter.{SnapshotWriter}
use Rattle.spk_run.specs.Dumps.{Scene, file_of, head_of, snapshot_events, starts_file, starts_if, text_by}
use Rattle.spk_run.specs.Snapshots.{scene_at}

-- no events, and two lists of events one after the other
pub no_events : writes [] ≡ answers tt
unfolding writes answers
no_events = fun_ext (λ outside. refl)

pub both_events : (first second : List Event) → writes (first ++ second) ≡ (writes first >> writes second)
unfolding writes ◌>>=◌
both_events first second = fun_ext (λ outside. refl)

-- a file that isn't to be started
pub not_started : (state : WorldState) (name : List ℕ) (starting : Bool) → starting ≡ false → Wrote (failed_stop name) state state (writes (starts_if starting name)) (Ok tt)
not_started state name starting is = rw (is, no_events) wrote_answer

-- one that was started, and one that could not be
pub file_started : (before now : WorldState) (name : List ℕ) (starting : Bool) → starting ≡ true → now.told ≡ option_map (λ outside. started outside name) before.told →
    FileCause {T = Unit {0}} {E = Failed} before now (Ok tt) → Wrote (failed_stop name) before now (writes (starts_if starting name)) (Ok tt)
file_started before now name starting is done cause = rw is (wrote_starts _ before now name done cause)

failed_is_write : (name : List ℕ) (fault : Failed) → failed_stop name fault ≡ WriteFailed (File name)
unfolding failed_stop
failed_is_write name fault = refl

pub file_not_started : (before now : WorldState) (name : List ℕ) (starting : Bool) (fault : Failed) → starting ≡ true → WritesPrefix before.told now.told (starts name) →
    FileCause {T = Unit {0}} before now (Err fault) → Wrote (failed_stop name) before now (writes (starts_if starting name)) (Err fault)
file_not_started before now name starting fault is prefix cause = rw is (failed_starts _ before now name fault _ (failed_is_write name fault) prefix cause)

-- the trouble of a snapshot is that a write to its file failed
trouble_is_failed : (name : List ℕ) (fault : Failed) → failed_stop name fault ≡ trouble_stop name trouble_of.File
unfolding failed_stop trouble_stop
trouble_is_failed name fault = refl

text_failed : (before now : WorldState) (name : List ℕ) (effect : Effect (Unit {0})) (trouble : WriteTrouble) (fault : Failed) → trouble ≡ trouble_of.File →
    Wrote (trouble_stop name) before now effect (Err trouble) → Wrote (failed_stop name) before now effect (Err fault)
text_failed before now name effect trouble fault is wrote =
    wrote_fault trouble_of.File (trouble_is_failed name fault) (subst (λ t. Wrote (trouble_stop name) before now effect (Err t)) is wrote)

-- the text of a snapshot, by what was handed to the report
pub text_is : (writer : SnapshotWriter) (dump : DumpState) (time : ℕ) (values name shown : List ℕ) (head : DumpHead) (fields : List Field) → dump.style ≡ dump_of.Text → shown ≡ name →
    head ≡ head_of (scene_at writer time values) dump → fields ≡ dump.fields → writer.sectors.grid.lattice ≡ writer.report →
    writes (adds shown (snapshot_text head writer.report fields values)) ≡ writes (adds name (text_by dump.style (scene_at writer time values) dump))
text_is writer dump time values name shown head fields text named headed same lattice = rw (text, named, headed, same, ← lattice) refl

same_effect : {E : Type 0} {stop : E → Stop} {before now : WorldState} {effect other : Effect (Unit {0})} (result : Result (Unit {0}) E) → effect ≡ other → Wrote stop before now effect result → Wrote stop before now other result
same_effect {stop = stop} {before = before} {now = now} result same wrote = subst (λ e. Wrote stop before now e result) same wrote

pub put_whole : (before now : WorldState) (shown name : List ℕ) (effect other : Effect (Unit {0})) → effect ≡ other → Wrote (trouble_stop shown) before now effect (Ok tt) → Wrote (failed_stop name) before now other (Ok tt)
put_whole before now shown name effect other same wrote = same_effect (Ok tt) same (wrote_whole wrote)

pub put_failed : (before now : WorldState) (shown name : List ℕ) (effect other : Effect (Unit {0})) (trouble : WriteTrouble) (fault : Failed) → trouble ≡ trouble_of.File → shown ≡ name → effect ≡ other →
    Wrote (trouble_stop shown) before now effect (Err trouble) → Wrote (failed_stop name) before now other (Err fault)
put_failed before now shown name effect other trouble fault is named same wrote =
    same_effect (Err fault) same (text_failed before now name effect trouble fault is (subst (λ n. Wrote (trouble_stop n) before now effect (Err trouble)) named wrote))

-- a snapshot is its file's start, where there is one, and then its text
pub snapshot_parts : (scene : Scene) (dump : DumpState) →
    writes (snapshot_events scene dump) ≡ (writes (starts_if (starts_file dump) (file_of dump)) >> writes (adds (file_of dump) (text_by dump.style scene dump)))
unfolding snapshot_events
snapshot_parts scene dump = both_events _ _

pub snapshot_not_started : (before now : WorldState) (scene : Scene) (dump : DumpState) (name : List ℕ) (starting : Bool) (fault : Failed) (result : Result (Unit {0}) Failed) → name ≡ file_of dump → starting ≡ starts_file dump →
    IsErrAnd result (λ y. y ≡ fault) → Wrote (failed_stop name) before now (writes (starts_if starting name)) (Err fault) →
    Wrote (failed_stop (file_of dump)) before now (writes (snapshot_events scene dump)) result
snapshot_not_started before now scene dump name starting fault result named same is wrote =
    rw (snapshot_parts scene dump) (wrote_failed _ is (rw (← named, ← same) wrote))

pub snapshot_put : (before now later : WorldState) (scene : Scene) (dump : DumpState) (name : List ℕ) (starting : Bool) (result : Result (Unit {0}) Failed) → name ≡ file_of dump → starting ≡ starts_file dump →
    Wrote (failed_stop name) before now (writes (starts_if starting name)) (Ok tt) → Wrote (failed_stop name) now later (writes (adds name (text_by dump.style scene dump))) result →
    Wrote (failed_stop (file_of dump)) before later (writes (snapshot_events scene dump)) result
snapshot_put before now later scene dump name starting result named same begun put =
    rw (snapshot_parts scene dump) (wrote_then {now = now} _ (rw (← named, ← same) begun) (rw (← named) put))
