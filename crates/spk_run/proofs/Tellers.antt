-- One part more for a teller.
use Rattle.std.proofs.Common.{◌≡◌, ℕ, List, ◌++◌, Option, Result, Ok, Err, true, false, refl, sym, subst}
use Rattle.std.specs.Prelude.{is_err, OnOk}
use Rattle.spk_world.specs.Outside.{Event}
use Rattle.spk_world.specs.States.{WorldState}
use Rattle.spk_world.specs.Effects.{Effect, ◌>>◌, answers, writes, Stop, Wrote}
use Rattle.spk_world.specs.declared.world.Failed.{Failed}
use Rattle.spk_world.proofs.EffectEquations.{answers_then, then_assoc}
use Rattle.spk_world.proofs.EffectLaws.{wrote_fault, wrote_whole}
use Rattle.spk_world.proofs.Loops.{GoesOn, goes_after, goes_no_further}
use Rattle.spk_run.specs.declared.answer.Target.{Target}
use Rattle.spk_run.specs.declared.answer.Target.TheVariants as target_of
use Rattle.spk_run.specs.declared.output.Output.{Output}
use Rattle.spk_run.specs.declared.snapshot_writer.SnapshotWriter.{SnapshotWriter}
use Rattle.spk_run.specs.declared.teller.Teller.{Teller}
use Rattle.spk_run.specs.Endings.{target_stop}
use Rattle.spk_report.specs.Output.{failed_stop, prints}
use Rattle.spk_run.specs.Telling.{GoesOnAfter, HasLog, GoesOnTelling, Tells}
use Rattle.spk_run.proofs.SnapshotWrites.{both_events}

silent_by : (written : Result (Unit {0}) Target) (start now : WorldState) (whole rest more : Effect (Unit {0})) → is_err written ≡ true →
    GoesOnAfter written start now whole (more >> rest) → GoesOnAfter written start now whole rest
silent_by (Ok _) start now whole rest more failed goes = let no : false ≡ true = failed in cc
silent_by (Err target) start now whole rest more failed goes = goes

-- a write has failed before, and nothing is written
pub silent_teller : (log : Option (List ℕ)) (part : Effect (Unit {0})) (now : WorldState) (teller : Teller) → is_err teller.written ≡ true →
    Tells log part now now teller teller
silent_teller log part now teller failed = λ start whole rest on. record {
  has_log = on.has_log;
  goes = silent_by teller.written start now whole rest part failed on.goes;
}

-- an effect that does nothing
pub tells_nothing : (log : Option (List ℕ)) (part : Effect (Unit {0})) (now : WorldState) (teller : Teller) → part ≡ answers tt → Tells log part now now teller teller
tells_nothing log part now teller nothing = λ start whole rest on.
    subst (λ (e : Effect (Unit {0})). GoesOnTelling start now log teller whole e) (answers_then tt (λ _. rest)) (subst (λ (p : Effect (Unit {0})). GoesOnTelling start now log teller whole (p >> rest)) nothing on)

-- one part after another
pub tells_then : (log : Option (List ℕ)) (first second : Effect (Unit {0})) (before now later : WorldState) (old new newer : Teller) →
    Tells log first before now old new → Tells log second now later new newer → Tells log (first >> second) before later old newer
tells_then log first second before now later old new newer one two = λ start whole rest on.
    two start whole rest (one start whole (second >> rest)
    (subst (λ (e : Effect (Unit {0})). GoesOnTelling start before log old whole e) (then_assoc first (λ _. second) (λ _. rest)) on))

pub tells_events : (log : Option (List ℕ)) (first second : List Event) (before now later : WorldState) (old new newer : Teller) →
    Tells log (writes first) before now old new → Tells log (writes second) now later new newer → Tells log (writes (first ++ second)) before later old newer
tells_events log first second before now later old new newer one two =
    subst (λ (e : Effect (Unit {0})). Tells log e before later old newer) (sym (both_events first second))
    (tells_then log (writes first) (writes second) before now later old new newer one two)

-- the same part, told in other words
pub tells_same : (log : Option (List ℕ)) (part other : Effect (Unit {0})) (before now : WorldState) (old new : Teller) → part ≡ other → Tells log part before now old new → Tells log other before now old new
tells_same log part other before now old new same tells = subst (λ (e : Effect (Unit {0})). Tells log e before now old new) same tells

printed_by : (start now later : WorldState) (log : Option (List ℕ)) (output : Output) (writer : SnapshotWriter) (part whole rest : Effect (Unit {0})) (result : Result (Unit {0}) Target) →
    GoesOn target_stop start now whole (part >> rest) → Wrote target_stop now later part result → OnOk result (output.log ≡ log) →
    GoesOnTelling start later log (record { output = output; writer = writer; written = result }) whole rest
printed_by start now later log output writer part whole rest (Ok _) on wrote kept = record { has_log = kept; goes = goes_after _ on wrote }
printed_by start now later log output writer part whole rest (Err target) on wrote kept = record { has_log = tt; goes = goes_no_further _ on refl wrote }

more_by : (start now later : WorldState) (log : Option (List ℕ)) (before output : Output) (writer : SnapshotWriter) (written result : Result (Unit {0}) Target) (text : List ℕ) (whole rest : Effect (Unit {0})) →
    is_err written ≡ false → HasLog written log before.log → GoesOnAfter written start now whole (prints log text >> rest) →
    Wrote target_stop now later (prints before.log text) result → OnOk result (output.log ≡ before.log) →
    GoesOnTelling start later log (record { output = output; writer = writer; written = result }) whole rest
more_by start now later log before output writer (Err target) result text whole rest working has_log goes wrote kept = let no : true ≡ false = working in absurd (cc)
more_by start now later log before output writer (Ok _) result text whole rest working has_log goes wrote kept =
    printed_by start now later log output writer (prints log text) whole rest result goes (rw has_log at wrote) (rw has_log at kept)

-- all writes so far were done, and one more text is written
pub teller_more : (log : Option (List ℕ)) (now later : WorldState) (before : Teller) (output : Output) (writer : SnapshotWriter) (result : Result (Unit {0}) Target) (text : List ℕ) →
    is_err before.written ≡ false → Wrote target_stop now later (prints before.output.log text) result → OnOk result (output.log ≡ before.output.log) →
    Tells log (prints log text) now later before (record { output = output; writer = writer; written = result })
teller_more log now later before output writer result text working wrote kept = λ start whole rest on.
    more_by start now later log before.output output writer before.written result text whole rest working on.has_log on.goes wrote kept

wrote_by : (written : Result (Unit {0}) Target) (start now later : WorldState) (part whole rest : Effect (Unit {0})) → is_err written ≡ false →
    GoesOnAfter written start now whole (part >> rest) → Wrote target_stop now later part (Ok tt) → GoesOnAfter written start later whole rest
wrote_by (Err target) start now later part whole rest working goes wrote = let no : true ≡ false = working in absurd (cc)
wrote_by (Ok _) start now later part whole rest working goes wrote = goes_after _ goes wrote

failed_by : (written : Result (Unit {0}) Target) (start now later : WorldState) (part whole rest : Effect (Unit {0})) (target : Target) → is_err written ≡ false →
    GoesOnAfter written start now whole (part >> rest) → Wrote target_stop now later part (Err target) → Wrote target_stop start later whole (Err target)
failed_by (Err other) start now later part whole rest target working goes wrote = let no : true ≡ false = working in absurd (cc)
failed_by (Ok _) start now later part whole rest target working goes wrote = goes_no_further _ goes refl wrote

-- all writes so far were done, and a snapshot was written, or could not be
pub teller_wrote : {stop : Failed → Stop} (log : Option (List ℕ)) (part : Effect (Unit {0})) (now later : WorldState) (before : Teller) (writer : SnapshotWriter) → is_err before.written ≡ false →
    Wrote stop now later part (Ok tt) → Tells log part now later before (record before { writer = writer })
teller_wrote log part now later before writer working wrote = λ start whole rest on. record {
  has_log = on.has_log;
  goes = wrote_by before.written start now later part whole rest working on.goes (wrote_whole wrote);
}

file_stop : (name : List ℕ) (fault : Failed) → target_stop (target_of.File name) ≡ failed_stop name fault
unfolding target_stop failed_stop
file_stop name fault = refl

pub teller_failed : (log : Option (List ℕ)) (part : Effect (Unit {0})) (now later : WorldState) (before : Teller) (writer : SnapshotWriter) (file name : List ℕ) (fault : Failed) → is_err before.written ≡ false →
    name ≡ file → Wrote (failed_stop file) now later part (Err fault) → Tells log part now later before (record { output = before.output; writer = writer; written = Err (target_of.File name) })
teller_failed log part now later before writer file name fault working named wrote = λ start whole rest on. record {
  has_log = tt;
  goes = failed_by before.written start now later part whole rest (target_of.File name) working on.goes
      (wrote_fault fault (file_stop name fault) (subst (λ (n : List ℕ). Wrote (failed_stop n) now later part (Err fault)) (sym named) wrote));
}
