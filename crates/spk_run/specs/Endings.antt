-- How a run of the program ends: with its answer and its exit status. The headline, and what it says of faults.
use Rattle.std.specs.Prelude.{◌≡◌, ℕ, List, [], ◌∷◌, ◌++◌, codes, decimal, Option, Some, None, Result, Ok, Err}
use Rattle.spk_world.specs.Outside.{Outside, Place, Screen, File, after}
use Rattle.spk_world.specs.Causes.{Rose}
use Rattle.spk_world.specs.States.{Faults}
use Rattle.spk_world.specs.Effects.{Outcome, Effect, ◌>>◌, answers, Stop, LoadFailed, WriteFailed, Stopped}
use Rattle.spk_world.specs.Effects.{OutOfMemory as WorldOutOfMemory}
use Rattle.spk_cmds.specs.declared.options.Options.{Options}
use Rattle.spk_run.specs.Causes.{cause_number, cause_text, FileRefusalRose}
use Rattle.spk_report.specs.Output.{prints}
use Rattle.spk_run.specs.declared.cause.Cause.{Cause}
use Rattle.spk_run.specs.declared.cause.Cause.TheVariants.{ScriptTooLong, FileMissing, FileTooLong}
use Rattle.spk_run.specs.declared.answer.Target.{Target}
use Rattle.spk_run.specs.declared.answer.Target.TheVariants as target
use Rattle.spk_run.specs.declared.answer.Ending.{Ending}
use Rattle.spk_run.specs.declared.answer.Ending.TheVariants as ending
use Rattle.spk_run.specs.declared.answer.Answer.{Answer}
use Rattle.spk_run.specs.declared.answer.Answer.TheVariants.{Done, Refused, Usage, ReadFault, WriteFault, OutOfMemory}

-- the line that says why a script is refused, and at which line
unfoldable pub refusal_text : ℕ → Cause → List ℕ
refusal_text line cause =
    codes "ERROR: line " ++ (decimal line ++ (codes ": (" ++ (decimal (cause_number cause) ++ (codes ") " ++ (cause_text cause ++ (10 ∷ []))))))

-- the line that names the first bad word of a command line
unfoldable pub usage_text : ℕ → List ℕ
usage_text place = codes "ERROR: usage at word " ++ (decimal place ++ (10 ∷ []))

-- the script is refused at a line
unfoldable pub refuses : Option (List ℕ) → ℕ → Cause → Effect Ending
refuses log line cause = prints log (refusal_text line cause) >> answers (ending.Refused line cause)

-- the exit status
abbrev pub status_of : Answer → ℕ
status_of Done = 0
status_of (Refused line cause) = 1
status_of (Usage word) = 2
status_of (ReadFault name) = 3
status_of (WriteFault target) = 3
status_of OutOfMemory = 4

abbrev pub place_of_target : Target → Place
place_of_target target.Screen = Screen
place_of_target (target.File name) = File name

-- a write to a target failed
unfoldable pub target_stop : Target → Stop
target_stop target = WriteFailed (place_of_target target)

-- what is answered where a script has ended so
abbrev pub answer_of : Ending → Answer
answer_of ending.Done = Done
answer_of (ending.Refused line cause) = Refused line cause

-- All events were done, and the simulator ends so.
pub record Ended (outside : Outside) (now : Option Outside) (outcome : Outcome Answer) (answer : Answer) : Type 0 where
  pub whole : now ≡ Some (after outside outcome.events)
  pub same : outcome.answer ≡ answer

-- The headline. What was written is a prefix of what the plain simulator writes. On Done, Refused and Usage it is the whole, and
-- the answer is the plain simulator's. A fault stands where the prefix ends.
abbrev pub Simulated : Option Outside → Option Outside → Effect Answer → Answer → Type 0
Simulated None now plain answer = now ≡ None
Simulated (Some outside) now plain (ReadFault name) = Stopped outside now (plain outside) (LoadFailed name)
Simulated (Some outside) now plain (WriteFault target) = Stopped outside now (plain outside) (WriteFailed (place_of_target target))
Simulated (Some outside) now plain OutOfMemory = Stopped outside now (plain outside) WorldOutOfMemory
Simulated (Some outside) now plain answer = Ended outside now (plain outside) answer

-- where a command line is refused, the answer is its first bad word, or that the screen or memory failed
abbrev pub IsUsageAt : ℕ → Answer → Type 0
IsUsageAt place (Usage word) = word ≡ place
IsUsageAt place (WriteFault target.Screen) = Unit {0}
IsUsageAt place OutOfMemory = Unit {0}
IsUsageAt place answer = ⊥

-- The first bad word is answered where the words are refused, at its place, and else never.
abbrev pub IsUsageOf : Result Options ℕ → Answer → Type 0
IsUsageOf (Err place) answer = IsUsageAt place answer
IsUsageOf (Ok options) (Usage word) = ⊥
IsUsageOf (Ok options) answer = Unit {0}

-- A fault is answered only where the count of its kind rose.
abbrev pub AnswerCause : Faults → Faults → Answer → Type 0
AnswerCause before now (ReadFault name) = Rose before.loads now.loads
AnswerCause before now (WriteFault target.Screen) = Rose before.screen now.screen
AnswerCause before now (WriteFault (target.File name)) = Rose before.files now.files
AnswerCause before now answer = Unit {0}

-- Over a world that tells nothing, a script is missing or too long only where the count of loads rose.
abbrev pub EndingFileCause : Faults → Faults → Ending → Type 0
EndingFileCause before now ending.Done = Unit {0}
EndingFileCause before now (ending.Refused line cause) = FileRefusalRose before now cause

abbrev pub AnswerFileCause : Faults → Faults → Answer → Type 0
AnswerFileCause before now (Refused line cause) = FileRefusalRose before now cause
AnswerFileCause before now answer = Unit {0}

-- no load and no write has failed
pub record NoneRose (before now : Faults) : Type 0 where
  pub loads : Rose before.loads now.loads → ⊥
  pub files : Rose before.files now.files → ⊥
  pub screen : Rose before.screen now.screen → ⊥

-- Completeness: the answer is the plain simulator's, or out of memory. Where nothing is told it is no fault, and no refusal for
-- the file that a script is.
abbrev pub IsPlainAnswer : Answer → Answer → Type 0
IsPlainAnswer plain OutOfMemory = Unit {0}
IsPlainAnswer plain answer = answer ≡ plain

abbrev pub IsNoFileCause : Cause → Type 0
IsNoFileCause (FileMissing name) = ⊥
IsNoFileCause (FileTooLong name) = ⊥
IsNoFileCause ScriptTooLong = ⊥
IsNoFileCause cause = Unit {0}

abbrev pub IsNoFault : Answer → Type 0
IsNoFault (Refused line cause) = IsNoFileCause cause
IsNoFault (ReadFault name) = ⊥
IsNoFault (WriteFault at) = ⊥
IsNoFault answer = Unit {0}

abbrev pub IsComplete : Option Outside → Effect Answer → Answer → Type 0
IsComplete None plain answer = IsNoFault answer
IsComplete (Some outside) plain answer = IsPlainAnswer (plain outside).answer answer
