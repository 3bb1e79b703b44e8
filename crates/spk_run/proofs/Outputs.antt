-- What a call for the screen or the log does, and where its fault stands.
use Rattle.std.proofs.Common.{◌≡◌, ℕ, ◌<◌, List, length, Option, Some, None, Ok, Err, refl}
use Rattle.std.specs.Option.{option_map}
use Rattle.spk_world.specs.Outside.{added, started, adds, starts, says, WritesPrefix}
use Rattle.spk_world.specs.Outside.{Screen as ScreenPlace, File as FilePlace}
use Rattle.spk_world.specs.States.{WorldState}
use Rattle.spk_world.specs.Causes.{FileCause, ScreenCause}
use Rattle.spk_world.specs.Effects.{◌>>◌, writes, WriteFailed, Wrote}
use Rattle.spk_world.specs.declared.world.Failed.{Failed}
use Rattle.spk_world.proofs.EffectLaws.{wrote_answer}
use Rattle.spk_world.proofs.Writes.{failed_says, wrote_adds, failed_adds, wrote_no_adds, wrote_starts, failed_starts}
use Rattle.spk_report.specs.declared.write_trouble.WriteTrouble.{WriteTrouble}
use Rattle.spk_report.specs.declared.write_trouble.WriteTrouble.TheVariants as trouble_of
use Rattle.spk_report.specs.Output.{IsTroubleOf, log_name, trouble_stop}
use Rattle.spk_run.specs.declared.answer.Target.TheVariants.{Screen}
use Rattle.spk_run.specs.Endings.{target_stop}
use Rattle.spk_report.specs.Output.{logs, prints}
use Rattle.spk_run.specs.Output.{log_target, starts_log}

pub target_stop-screen : target_stop Screen ≡ WriteFailed ScreenPlace
unfolding target_stop
target_stop-screen = refl

pub target_stop-log : (log : Option (List ℕ)) (name : List ℕ) → log ≡ Some name → target_stop (log_target log) ≡ WriteFailed (FilePlace name)
unfolding target_stop
target_stop-log log name is = rw is refl

-- a line of statistics
pub screen_trouble : (name : List ℕ) (trouble : WriteTrouble) → trouble ≡ trouble_of.Screen → target_stop Screen ≡ trouble_stop name trouble
unfolding target_stop trouble_stop
screen_trouble name trouble is = rw is refl

log_by : (log : Option (List ℕ)) → IsTroubleOf log trouble_of.File → target_stop (log_target log) ≡ trouble_stop (log_name log) trouble_of.File
unfolding target_stop trouble_stop
log_by None none = absurd none
log_by (Some name) some = refl

pub log_trouble : (log : Option (List ℕ)) (trouble : WriteTrouble) → trouble ≡ trouble_of.File → IsTroubleOf log trouble → target_stop (log_target log) ≡ trouble_stop (log_name log) trouble
log_trouble log trouble is of_log = rw is (log_by log (rw is at of_log))

-- the screen
pub screen_failed : (before now : WorldState) (text : List ℕ) (fault : Failed) → 0 < length text →
    WritesPrefix before.told now.told (says text) → ScreenCause {T = Unit {0}} before now (Err fault) → Wrote target_stop before now (writes (says text)) (Err Screen)
screen_failed before now text fault some prefix cause = failed_says _ before now text fault _ some target_stop-screen prefix cause

-- the log
pub no_log : (log : Option (List ℕ)) (state : WorldState) (text : List ℕ) → log ≡ None → Wrote target_stop state state (logs log text) (Ok tt)
no_log log state text is = rw is wrote_answer

pub empty_for_log : (log : Option (List ℕ)) (name : List ℕ) (state : WorldState) (text : List ℕ) → log ≡ Some name → length text ≡ 0 →
    Wrote target_stop state state (logs log text) (Ok tt)
empty_for_log log name state text is empty = rw is (wrote_no_adds _ state name text empty)

pub log_written : (log : Option (List ℕ)) (name : List ℕ) (before now : WorldState) (text : List ℕ) → log ≡ Some name → 0 < length text →
    now.told ≡ option_map (λ outside. added outside name text) before.told → FileCause {T = Unit {0}} {E = Failed} before now (Ok tt) →
    Wrote target_stop before now (logs log text) (Ok tt)
log_written log name before now text is some done cause = rw is (wrote_adds _ before now name text some done cause)

pub log_failed : (log : Option (List ℕ)) (name : List ℕ) (before now : WorldState) (text : List ℕ) (fault : Failed) → log ≡ Some name → 0 < length text →
    WritesPrefix before.told now.told (adds name text) → FileCause {T = Unit {0}} before now (Err fault) →
    Wrote target_stop before now (logs log text) (Err (log_target log))
log_failed log name before now text fault is some prefix cause =
    rw is (failed_adds _ before now name text fault _ some (target_stop-log (Some name) name refl) prefix cause)

pub no_log_started : (log : Option (List ℕ)) (state : WorldState) → log ≡ None → Wrote target_stop state state (starts_log log) (Ok tt)
no_log_started log state is = rw is wrote_answer

pub log_started : (log : Option (List ℕ)) (name : List ℕ) (before now : WorldState) → log ≡ Some name →
    now.told ≡ option_map (λ outside. started outside name) before.told → FileCause {T = Unit {0}} {E = Failed} before now (Ok tt) →
    Wrote target_stop before now (starts_log log) (Ok tt)
log_started log name before now is done cause = rw is (wrote_starts _ before now name done cause)

pub log_not_started : (log : Option (List ℕ)) (name : List ℕ) (before now : WorldState) (fault : Failed) → log ≡ Some name →
    WritesPrefix before.told now.told (starts name) → FileCause {T = Unit {0}} before now (Err fault) →
    Wrote target_stop before now (starts_log log) (Err (log_target log))
log_not_started log name before now fault is prefix cause =
    rw is (failed_starts _ before now name fault _ (target_stop-log (Some name) name refl) prefix cause)

-- a text for both
pub prints_is : (log : Option (List ℕ)) (text : List ℕ) → prints log text ≡ (writes (says text) >> logs log text)
unfolding prints
prints_is log text = refl
