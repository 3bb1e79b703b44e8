-- From what a run was carried out as to what the top call answers.
use Rattle.std.proofs.Common.{◌≡◌, ℕ, List, [], true, false, Option, Some, None, Result, Ok, Err, refl, sym, ap, subst, arith}
use Rattle.std.specs.Prelude.{nat_lt, ◌<◌, ◌≤◌}
use Rattle.std.specs.Option.{IfNone}
use Rattle.std.specs.Result.{IfOk}
use Rattle.std.proofs.lemmas.Bool.Decides.{nat_tests}
use Rattle.spk_world.specs.Outside.{Outside, after, says}
use Rattle.spk_world.specs.States.{Faults, WorldState}
use Rattle.spk_world.specs.Effects.{Effect, ◌>>=◌, answers, writes, Stop, WriteFailed, StopCause, Stands, Wrote}
use Rattle.spk_world.proofs.EffectLaws.{wrote_then, wrote_failed, wrote_answer}
use Rattle.spk_cmds.specs.declared.options.Options.{Options}
use Rattle.spk_run.specs.declared.cause.Cause.{Cause}
use Rattle.spk_run.specs.declared.cause.Cause.TheVariants.{ScriptTooLong, FileMissing, FileTooLong}
use Rattle.spk_run.specs.declared.answer.Target.{Target}
use Rattle.spk_run.specs.declared.answer.Target.TheVariants as target
use Rattle.spk_run.specs.declared.answer.Ending.{Ending}
use Rattle.spk_run.specs.declared.answer.Ending.TheVariants.{Done, Refused}
use Rattle.spk_run.specs.declared.answer.Answer.{Answer}
use Rattle.spk_run.specs.declared.answer.Answer.TheVariants as answer
use Rattle.spk_run.specs.declared.answer.Answer.TheVariants.{ReadFault, WriteFault, Usage, OutOfMemory}
use Rattle.spk_run.specs.declared.fault.Fault.{Fault}
use Rattle.spk_run.specs.declared.fault.Fault.TheVariants.{Read, Write, Memory}
use Rattle.spk_run.specs.Causes.{FileRefusalRose}
use Rattle.spk_run.specs.Endings.{Simulated, AnswerCause, EndingFileCause, AnswerFileCause, IsUsageOf, NoneRose, IsNoFileCause, IsComplete, answer_of, place_of_target, target_stop, usage_text}
use Rattle.spk_run.specs.Faults.{fault_stop, answer_by}
use Rattle.spk_run.specs.Plain.{plain_words, with_one_worker}

ended_by_cases : {E : Type 0} (stop : E → Stop) (told now : Option Outside) (plain : Effect Answer) (ending : Ending) →
    Stands stop told now plain (Ok (answer_of ending)) → Simulated told now plain (answer_of ending)
ended_by_cases stop None now plain ending stands = stands
ended_by_cases stop (Some outside) now plain Done stands = record { whole = stands.0; same = sym stands.1 }
ended_by_cases stop (Some outside) now plain (Refused line cause) stands = record { whole = stands.0; same = sym stands.1 }

stopped_by_cases : (told now : Option Outside) (plain : Effect Answer) (fault : Fault) →
    Stands fault_stop told now plain (Err fault) → Simulated told now plain (answer_by (Err fault))
unfolding fault_stop
stopped_by_cases None now plain fault stands = stands
stopped_by_cases (Some outside) now plain (Read name) stands = stands
stopped_by_cases (Some outside) now plain (Write at) stands = stands
stopped_by_cases (Some outside) now plain Memory stands = stands

-- what was carried out is what the headline says
pub simulated_by : {before now : WorldState} {run : Effect Ending} (outcome : Result Ending Fault) →
    Wrote fault_stop before now run outcome → Simulated before.told now.told (run >>= λ ending. answers (answer_of ending)) (answer_by outcome)
simulated_by {before = before} {now = now} {run = run} (Ok ending) done =
    let whole : Wrote fault_stop before now (run >>= λ ending. answers (answer_of ending)) (Ok (answer_of ending)) = wrote_then _ done wrote_answer in
    ended_by_cases fault_stop before.told now.told _ ending whole.stands
simulated_by {before = before} {now = now} {run = run} (Err fault) done =
    let part : Wrote fault_stop before now (run >>= λ ending. answers (answer_of ending)) (Err fault) = wrote_failed {result = Err fault} _ refl done in
    stopped_by_cases before.told now.told _ fault part.stands

target_cause : (before now : Faults) (at : Target) → StopCause (WriteFailed (place_of_target at)) before now → AnswerCause before now (WriteFault at)
target_cause before now target.Screen cause = cause
target_cause before now (target.File name) cause = cause

fault_cause : (before now : Faults) (fault : Fault) → StopCause (fault_stop fault) before now → AnswerCause before now (answer_by (Err fault))
unfolding fault_stop
fault_cause before now (Read name) cause = cause
fault_cause before now (Write at) cause = target_cause before now at cause
fault_cause before now Memory cause = tt

ending_cause : (before now : Faults) (ending : Ending) → AnswerCause before now (answer_of ending)
ending_cause before now Done = tt
ending_cause before now (Refused line cause) = tt

-- a fault that is answered has raised its count
pub cause_by : {before now : WorldState} {run : Effect Ending} (outcome : Result Ending Fault) →
    Wrote fault_stop before now run outcome → AnswerCause before.faults now.faults (answer_by outcome)
cause_by {before = before} {now = now} (Ok ending) done = ending_cause before.faults now.faults ending
cause_by {before = before} {now = now} (Err fault) done = fault_cause before.faults now.faults fault done.cause

-- so has a refusal for a file that isn't told
pub file_cause_by : (told : Option Outside) (before now : Faults) (outcome : Result Ending Fault) →
    IfNone told (IfOk outcome (EndingFileCause before now)) → IfNone told (AnswerFileCause before now (answer_by outcome))
file_cause_by (Some outside) before now outcome cause = cause
file_cause_by None before now (Ok Done) cause = tt
file_cause_by None before now (Ok (Refused line why)) cause = cause
file_cause_by None before now (Err (Read name)) cause = tt
file_cause_by None before now (Err (Write at)) cause = tt
file_cause_by None before now (Err Memory) cause = tt

-- no word was a bad one
pub not_usage : (options : Options) (outcome : Result Ending Fault) → IsUsageOf (Ok options) (answer_by outcome)
not_usage options (Ok Done) = tt
not_usage options (Ok (Refused line cause)) = tt
not_usage options (Err (Read name)) = tt
not_usage options (Err (Write at)) = tt
not_usage options (Err Memory) = tt

-- out of memory before anything was written
pub simulated_nothing : (told : Option Outside) (plain : Effect Answer) → Simulated told told plain OutOfMemory
unfolding after
simulated_nothing None plain = refl
simulated_nothing (Some outside) plain = record { written = []; left = (plain outside).events; split = refl; stands = refl; cause = tt }

usage_by_cases : {E : Type 0} (stop : E → Stop) (told now : Option Outside) (plain : Effect Answer) (place : ℕ) → Stands stop told now plain (Ok (Usage place)) → Simulated told now plain (Usage place)
usage_by_cases stop None now plain place stands = stands
usage_by_cases stop (Some outside) now plain place stands = record { whole = stands.0; same = sym stands.1 }

target_by_cases : (told now : Option Outside) (plain : Effect Answer) (at : Target) → Stands target_stop told now plain (Err at) → Simulated told now plain (WriteFault at)
unfolding target_stop
target_by_cases None now plain at stands = stands
target_by_cases (Some outside) now plain at stands = stands

-- the usage line was written, or the screen failed
pub usage_said : {before now : WorldState} (text : List ℕ) (place : ℕ) → text ≡ usage_text place →
    Wrote target_stop before now (writes (says text)) (Ok tt) → Simulated before.told now.told (plain_words (Err place)) (Usage place)
usage_said {before = before} {now = now} text place is done =
    let whole : Wrote target_stop before now (plain_words (Err place)) (Ok (Usage place)) = wrote_then _ (rw is at done) wrote_answer in
    usage_by_cases target_stop before.told now.told _ place whole.stands

pub usage_not_said : {before now : WorldState} (text : List ℕ) (place : ℕ) (at : Target) → text ≡ usage_text place → at ≡ target.Screen →
    Wrote target_stop before now (writes (says text)) (Err at) → Simulated before.told now.told (plain_words (Err place)) (WriteFault target.Screen)
usage_not_said {before = before} {now = now} text place at is screen done =
    let part : Wrote target_stop before now (plain_words (Err place)) (Err at) = wrote_failed {result = Err at} _ refl (rw is at done) in
    subst (λ t. Simulated before.told now.told (plain_words (Err place)) (WriteFault t)) screen (target_by_cases before.told now.told _ at part.stands)

screen_by_cases : (before now : Faults) (at : Target) → StopCause (target_stop at) before now → AnswerCause before now (WriteFault at)
unfolding target_stop
screen_by_cases before now at cause = target_cause before now at cause

pub screen_cause : {before now : WorldState} {A : Type 0} {effect : Effect A} (at : Target) → at ≡ target.Screen →
    Wrote target_stop before now effect (Err at) → AnswerCause before.faults now.faults (WriteFault target.Screen)
screen_cause {before = before} {now = now} at screen done =
    subst (λ t. AnswerCause before.faults now.faults (WriteFault t)) screen (screen_by_cases before.faults now.faults at done.cause)

-- the options for one thread
pub few_workers : (words : Result Options ℕ) (options : Options) → words ≡ Ok options → options.workers ≤ 1 → with_one_worker words ≡ Ok options
few_workers words options is few =
    let one : nat_lt 1 options.workers ≡ false = grind (arith, nat_tests) in rw (is, one) refl

pub many_workers : (words : Result Options ℕ) (options : Options) → words ≡ Ok options → 1 < options.workers → with_one_worker words ≡ Err options.workers_word
many_workers words options is many =
    let more : nat_lt 1 options.workers ≡ true = grind (arith, nat_tests) in rw (is, more) refl

pub refused_words : (words : Result Options ℕ) (place : ℕ) → words ≡ Err place → with_one_worker words ≡ Err place
refused_words words place is = ap with_one_worker is

-- where no count rose, the answer is the plain simulator's, or out of memory
write_complete : (plain : Effect Answer) (told : Option Outside) (before now : Faults) (at : Target) → AnswerCause before now (WriteFault at) → NoneRose before now → IsComplete told plain (WriteFault at)
write_complete plain told before now target.Screen cause none = absurd (none.screen cause)
write_complete plain told before now (target.File name) cause none = absurd (none.files cause)

refused_complete : (before now : Faults) (cause : Cause) → FileRefusalRose before now cause → NoneRose before now → IsNoFileCause cause
refused_complete before now ScriptTooLong rose none = absurd (none.loads rose)
refused_complete before now (FileMissing name) rose none = absurd (none.loads rose)
refused_complete before now (FileTooLong name) rose none = absurd (none.loads rose)
refused_complete before now cause rose none = tt

told_complete : (outside : Outside) (now : Option Outside) (plain : Effect Answer) (before later : Faults) (result : Answer) →
    Simulated (Some outside) now plain result → AnswerCause before later result → NoneRose before later → IsComplete (Some outside) plain result
told_complete outside now plain before later answer.Done simulated cause none = sym simulated.same
told_complete outside now plain before later (answer.Refused line why) simulated cause none = sym simulated.same
told_complete outside now plain before later (Usage word) simulated cause none = sym simulated.same
told_complete outside now plain before later (ReadFault name) simulated cause none = absurd (none.loads cause)
told_complete outside now plain before later (WriteFault at) simulated cause none = write_complete plain (Some outside) before later at cause none
told_complete outside now plain before later OutOfMemory simulated cause none = tt

untold_complete : (plain : Effect Answer) (before now : Faults) (result : Answer) →
    AnswerCause before now result → AnswerFileCause before now result → NoneRose before now → IsComplete None plain result
untold_complete plain before now answer.Done cause file none = tt
untold_complete plain before now (answer.Refused line why) cause file none = refused_complete before now why file none
untold_complete plain before now (Usage word) cause file none = tt
untold_complete plain before now (ReadFault name) cause file none = absurd (none.loads cause)
untold_complete plain before now (WriteFault at) cause file none = write_complete plain None before now at cause none
untold_complete plain before now OutOfMemory cause file none = tt

pub complete_by : (told now : Option Outside) (plain : Effect Answer) (before later : Faults) (result : Answer) →
    Simulated told now plain result → AnswerCause before later result → IfNone told (AnswerFileCause before later result) → NoneRose before later → IsComplete told plain result
complete_by None now plain before later result simulated cause file none = untold_complete plain before later result cause file none
complete_by (Some outside) now plain before later result simulated cause file none = told_complete outside now plain before later result simulated cause none
