-- What a session comes to with a command, and what its own lines are.
use Rattle.std.proofs.Common.{◌≡◌, ℕ, List, Option, Some, None, Result, Ok, Err, refl, sym}
use Rattle.std.specs.Option.{IfNone}
use Rattle.std.specs.Result.{IsErrAnd}
use Rattle.spk_world.specs.Outside.{Outside}
use Rattle.spk_world.specs.Causes.{Rose}
use Rattle.spk_world.specs.States.{Faults, WorldState}
use Rattle.spk_world.specs.Effects.{Effect, ◌>>◌, answers, WriteFailed, Stands, StopCause, Wrote}
use Rattle.spk_world.proofs.EffectLaws.{wrote_then, wrote_failed, wrote_answer, wrote_nothing, wrote_whole, wrote_fault}
use Rattle.spk_cmds.specs.declared.command.Command.{Command}
use Rattle.spk_run.specs.declared.answer.Target.{Target}
use Rattle.spk_run.specs.declared.answer.Target.TheVariants as target
use Rattle.spk_run.specs.declared.answer.Ending.{Ending}
use Rattle.spk_run.specs.declared.answer.Ending.TheVariants as ending
use Rattle.spk_run.specs.declared.cause.Cause.{Cause}
use Rattle.spk_run.specs.declared.cause.Cause.TheVariants.{ScriptTooLong, FileMissing, FileTooLong}
use Rattle.spk_run.specs.declared.fault.Fault.{Fault}
use Rattle.spk_run.specs.declared.fault.Fault.TheVariants as fault
use Rattle.spk_run.specs.declared.fault.Trouble.{Trouble}
use Rattle.spk_run.specs.declared.fault.Trouble.TheVariants as trouble
use Rattle.spk_run.specs.declared.state.SessionState.{SessionState}
use Rattle.spk_run.specs.Causes.{FileRefusalRose}
use Rattle.spk_run.specs.Endings.{target_stop, place_of_target, refusal_text, refuses, IsNoFileCause, NoneRose}
use Rattle.spk_run.specs.Faults.{fault_stop, trouble_stop, verdict, obeyed_to, trouble_of, IfRefused, OnRefusal, Leaves, IsCompleteCommand}
use Rattle.spk_report.specs.Output.{prints}
use Rattle.spk_run.specs.Commands.{cause, performs, obeys}
use Rattle.spk_run.proofs.CommandSteps.{fault_stop-memory, fault_stop-write}

refuses_is : (log : Option (List ℕ)) (line : ℕ) (refused : Cause) → refuses log line refused ≡ (prints log (refusal_text line refused) >> answers (ending.Refused line refused))
unfolding refuses
refuses_is log line refused = refl

-- the line of a refusal was written, or could not be
pub refused_whole : (before now : WorldState) (log : Option (List ℕ)) (line : ℕ) (refused : Cause) → Wrote target_stop before now (prints log (refusal_text line refused)) (Ok tt) →
    Wrote fault_stop before now (refuses log line refused) (Ok (ending.Refused line refused))
refused_whole before now log line refused done = rw (refuses_is log line refused) (wrote_then _ (wrote_whole done) wrote_answer)

pub refused_not : (before now : WorldState) (log : Option (List ℕ)) (line : ℕ) (refused : Cause) (target : Target) (result : Result Ending Fault) → IsErrAnd result (λ y. y ≡ fault.Write target) →
    Wrote target_stop before now (prints log (refusal_text line refused)) (Err target) → Wrote fault_stop before now (refuses log line refused) result
refused_not before now log line refused target result failed prefix =
    rw (refuses_is log line refused) (wrote_failed _ failed (wrote_fault target (fault_stop-write target) prefix))

-- a command that is refused, and one that has no cause in the state
obeys_refused : (state : SessionState) (command : Command) (refused : Cause) → cause state command ≡ Some refused → obeys state command ≡ answers (Err refused)
unfolding obeys
obeys_refused state command refused is = rw is refl

obeys_free : (state : SessionState) (command : Command) → cause state command ≡ None → obeys state command ≡ performs state command
unfolding obeys
obeys_free state command none = rw none refl

pub refused_command : {world : WorldState} (state : SessionState) (command : Command) (refused : Cause) → cause state command ≡ Some refused →
    Wrote fault_stop world world (obeys state command) (Ok (Err refused))
refused_command state command refused is = rw (obeys_refused state command refused is) wrote_answer

pub command_out_of_memory : {world : WorldState} {effect : Effect (Result SessionState Cause)} (state : SessionState) (result : Result (Result (Unit {0}) Cause) Fault) →
    IsErrAnd result (λ y. y ≡ fault.Memory) → Wrote fault_stop world world effect (verdict state result)
command_out_of_memory state (Ok done) is = absurd is
command_out_of_memory state (Err stopped) is = wrote_nothing {result = Err stopped} _ is fault_stop-memory

pub performed : {before now : WorldState} (state : SessionState) (command : Command) (result : Result (Result SessionState Cause) Fault) → cause state command ≡ None →
    Wrote fault_stop before now (performs state command) result → Wrote fault_stop before now (obeys state command) result
performed state command result none done = rw (obeys_free state command none) done

-- what a session is after a command that was refused for a file, or stopped
pub performed_leaves : (told : Option Outside) (before now : SessionState) (command : Command) (result : Result (Unit {0}) Trouble) → cause before command ≡ None →
    Leaves told (performs before command) before now result → Leaves told (obeys before command) before now result
performed_leaves told before now command result none left = rw (obeys_free before command none) left

-- the same under the names of the public call
stops_read : (name : List ℕ) → trouble_stop (trouble.ReadFault name) ≡ fault_stop (fault.Read name)
unfolding trouble_stop fault_stop
stops_read name = refl

stops_write : (target : Target) → trouble_stop (trouble.WriteFault target) ≡ fault_stop (fault.Write target)
unfolding trouble_stop fault_stop
stops_write target = refl

stops_memory : trouble_stop trouble.Memory ≡ fault_stop fault.Memory
unfolding trouble_stop fault_stop
stops_memory = refl

pub obeyed_publicly : (before now : WorldState) (effect : Effect (Result SessionState Cause)) (state : SessionState) (result : Result (Result (Unit {0}) Cause) Fault) →
    Wrote fault_stop before now effect (verdict state result) → Wrote trouble_stop before now effect (obeyed_to state (trouble_of result))
obeyed_publicly before now effect state (Ok (Ok _)) done = wrote_whole done
obeyed_publicly before now effect state (Ok (Err refused)) done = wrote_whole done
obeyed_publicly before now effect state (Err (fault.Read name)) prefix = wrote_fault (fault.Read name) (stops_read name) prefix
obeyed_publicly before now effect state (Err (fault.Write target)) prefix = wrote_fault (fault.Write target) (stops_write target) prefix
obeyed_publicly before now effect state (Err fault.Memory) prefix = wrote_fault fault.Memory stops_memory prefix

pub no_file_cause : (before now : Faults) (refused : Cause) → NoneRose before now → FileRefusalRose before now refused → IsNoFileCause refused
no_file_cause before now (FileMissing name) none rose = absurd (none.loads rose)
no_file_cause before now (FileTooLong name) none rose = absurd (none.loads rose)
no_file_cause before now ScriptTooLong none rose = absurd (none.loads rose)
no_file_cause before now refused none rose = tt

no_write : (before now : Faults) (at : Target) → NoneRose before now → StopCause (WriteFailed (place_of_target at)) before now → ⊥
no_write before now target.Screen none rose = none.screen rose
no_write before now (target.File name) none rose = none.files rose

answer_by : (told : Option Outside) (now : Option Outside) (effect : Effect (Result SessionState Cause)) (state : SessionState) → Stands trouble_stop told now effect (Ok (Ok state)) →
    IsCompleteCommand told effect state (Ok tt)
answer_by None now effect state stands = tt
answer_by (Some outside) now effect state stands = sym stands.1

refusal_by : (told : Option Outside) (now : Option Outside) (before later : Faults) (effect : Effect (Result SessionState Cause)) (state : SessionState) (refused : Cause) → NoneRose before later →
    Stands trouble_stop told now effect (Ok (Err refused)) → IfNone told (FileRefusalRose before later refused) → IsCompleteCommand told effect state (Err (trouble.Refused refused))
refusal_by None now before later effect state refused none stands rose = no_file_cause before later refused none rose
refusal_by (Some outside) now before later effect state refused none stands rose = sym stands.1

read_rose : (name : List ℕ) (before now : Faults) → StopCause (trouble_stop (trouble.ReadFault name)) before now → Rose before.loads now.loads
unfolding trouble_stop
read_rose name before now rose = rose

write_rose : (at : Target) (before now : Faults) → StopCause (trouble_stop (trouble.WriteFault at)) before now → StopCause (WriteFailed (place_of_target at)) before now
unfolding trouble_stop
write_rose at before now rose = rose

-- completeness of one command
pub complete_command : (before now : WorldState) (effect : Effect (Result SessionState Cause)) (state : SessionState) (result : Result (Unit {0}) Trouble) →
    Wrote trouble_stop before now effect (obeyed_to state result) → IfNone before.told (IfRefused result (FileRefusalRose before.faults now.faults)) → NoneRose before.faults now.faults →
    IsCompleteCommand before.told effect state result
complete_command before now effect state (Ok _) wrote untold none = answer_by before.told now.told effect state wrote.stands
complete_command before now effect state (Err (trouble.Refused refused)) wrote untold none = refusal_by before.told now.told before.faults now.faults effect state refused none wrote.stands untold
complete_command before now effect state (Err (trouble.ReadFault name)) wrote untold none = none.loads (read_rose name before.faults now.faults wrote.cause)
complete_command before now effect state (Err (trouble.WriteFault at)) wrote untold none = no_write before.faults now.faults at none (write_rose at before.faults now.faults wrote.cause)
complete_command before now effect state (Err trouble.Memory) wrote untold none = tt

refused_by : (result : Result (Result (Unit {0}) Cause) Fault) (P : Cause → Type 0) → OnRefusal result P → IfRefused (trouble_of result) P
refused_by (Ok (Ok _)) P holds = tt
refused_by (Ok (Err refused)) P holds = holds
refused_by (Err (fault.Read name)) P holds = tt
refused_by (Err (fault.Write target)) P holds = tt
refused_by (Err fault.Memory) P holds = tt

pub refused_publicly : (told : Option Outside) (result : Result (Result (Unit {0}) Cause) Fault) (P : Cause → Type 0) → IfNone told (OnRefusal result P) → IfNone told (IfRefused (trouble_of result) P)
refused_publicly None result P holds = refused_by result P holds
refused_publicly (Some outside) result P holds = tt
