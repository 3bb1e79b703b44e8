-- Why a call inside gave up, and what a command has come to.
use Rattle.std.specs.Prelude.{◌≡◌, Option, Some, None, Result, Ok, Err}
use Rattle.spk_world.specs.Outside.{Outside}
use Rattle.spk_world.specs.Effects.{Effect, Stop, LoadFailed, WriteFailed}
use Rattle.spk_world.specs.Effects.{OutOfMemory as WorldOutOfMemory}
use Rattle.spk_run.specs.declared.fault.Fault.{Fault}
use Rattle.spk_run.specs.declared.fault.Fault.TheVariants as fault
use Rattle.spk_run.specs.declared.fault.Trouble.{Trouble}
use Rattle.spk_run.specs.declared.fault.Trouble.TheVariants as trouble
use Rattle.spk_run.specs.declared.cause.Cause.{Cause}
use Rattle.spk_run.specs.declared.answer.Ending.{Ending}
use Rattle.spk_run.specs.declared.answer.Answer.{Answer}
use Rattle.spk_run.specs.declared.answer.Answer.TheVariants.{ReadFault, WriteFault, OutOfMemory}
use Rattle.spk_run.specs.declared.state.SessionState.{SessionState}
use Rattle.spk_run.specs.Causes.{IsOfFile}
use Rattle.spk_run.specs.Endings.{IsNoFileCause, answer_of, place_of_target}

unfoldable pub fault_stop : Fault → Stop
fault_stop (fault.Read name) = LoadFailed name
fault_stop (fault.Write target) = WriteFailed (place_of_target target)
fault_stop fault.Memory = WorldOutOfMemory

-- What stopped a command. A refusal stops none: it is what a command comes to.
unfoldable pub trouble_stop : Trouble → Stop
trouble_stop (trouble.Refused cause) = WorldOutOfMemory
trouble_stop (trouble.ReadFault name) = LoadFailed name
trouble_stop (trouble.WriteFault target) = WriteFailed (place_of_target target)
trouble_stop trouble.Memory = WorldOutOfMemory

-- what is answered where a script ended so, or where a call gave up
abbrev pub answer_by : Result Ending Fault → Answer
answer_by (Ok ending) = answer_of ending
answer_by (Err (fault.Read name)) = ReadFault name
answer_by (Err (fault.Write target)) = WriteFault target
answer_by (Err fault.Memory) = OutOfMemory

-- what a command has come to: the session after it, the cause for which it is refused, or the fault that stopped it
abbrev pub verdict : SessionState → Result (Result (Unit {0}) Cause) Fault → Result (Result SessionState Cause) Fault
verdict state (Ok (Ok _)) = Ok (Ok state)
verdict state (Ok (Err cause)) = Ok (Err cause)
verdict state (Err fault) = Err fault

-- the same of a command that can't be refused any more
abbrev pub done_to : SessionState → Result (Unit {0}) Fault → Result (Result SessionState Cause) Fault
done_to state (Ok _) = Ok (Ok state)
done_to state (Err fault) = Err fault

-- and of the public call
abbrev pub obeyed_to : SessionState → Result (Unit {0}) Trouble → Result (Result SessionState Cause) Trouble
obeyed_to state (Ok _) = Ok (Ok state)
obeyed_to state (Err (trouble.Refused cause)) = Ok (Err cause)
obeyed_to state (Err stopped) = Err stopped

abbrev pub trouble_of : Result (Result (Unit {0}) Cause) Fault → Result (Unit {0}) Trouble
trouble_of (Ok (Ok _)) = Ok tt
trouble_of (Ok (Err cause)) = Err (trouble.Refused cause)
trouble_of (Err (fault.Read name)) = Err (trouble.ReadFault name)
trouble_of (Err (fault.Write target)) = Err (trouble.WriteFault target)
trouble_of (Err fault.Memory) = Err trouble.Memory

-- A command with a cause in the state is refused for that one, and another one only for a file that it loads.
abbrev pub IsRefusal : Option Cause → Cause → Type 0
IsRefusal (Some cause) refused = refused ≡ cause
IsRefusal None refused = IsOfFile refused

-- what holds of the cause where a command was refused
abbrev pub IfRefused : Result (Unit {0}) Trouble → (Cause → Type 0) → Type 0
IfRefused (Err (trouble.Refused cause)) p = p cause
IfRefused result p = Unit {0}

abbrev pub OnRefusal : Result (Result (Unit {0}) Cause) Fault → (Cause → Type 0) → Type 0
OnRefusal (Ok (Err cause)) p = p cause
OnRefusal result p = Unit {0}

-- A command that was refused, that could not read, or that ran out of memory has written nothing.
abbrev pub Unwritten : Option Outside → Option Outside → Result (Unit {0}) Trouble → Type 0
Unwritten before now (Ok _) = Unit {0}
Unwritten before now (Err (trouble.WriteFault target)) = Unit {0}
Unwritten before now (Err other) = now ≡ before

abbrev pub WritesAfterMemory : {A : Type 0} → Option Outside → Option Outside → Result A Fault → Type 0
WritesAfterMemory before now (Ok a) = Unit {0}
WritesAfterMemory before now (Err (fault.Write target)) = Unit {0}
WritesAfterMemory before now (Err other) = now ≡ before

-- what reads no file fails at none
abbrev pub NoRead : Fault → Type 0
NoRead (fault.Read name) = ⊥
NoRead stopped = Unit {0}

-- After a failed write a session is the one after the whole command, and after a failed read it is unchanged.
abbrev pub LeavesDone : {A : Type 0} → Option Outside → Effect (Result SessionState Cause) → SessionState → SessionState → Result A Fault → Type 0
LeavesDone told effect before now (Ok a) = Unit {0}
LeavesDone told effect before now (Err fault.Memory) = Unit {0}
LeavesDone told effect before now (Err (fault.Read name)) = now ≡ before
LeavesDone None effect before now (Err (fault.Write target)) = Unit {0}
LeavesDone (Some outside) effect before now (Err (fault.Write target)) = (effect outside).answer ≡ Ok now

-- A session is unchanged where a command was refused or could not read. After a failed write it is the session after the
-- whole command.
abbrev pub Leaves : Option Outside → Effect (Result SessionState Cause) → SessionState → SessionState → Result (Unit {0}) Trouble → Type 0
Leaves told effect before now (Err (trouble.Refused cause)) = now ≡ before
Leaves told effect before now (Err (trouble.ReadFault name)) = now ≡ before
Leaves (Some outside) effect before now (Err (trouble.WriteFault target)) = (effect outside).answer ≡ Ok now
Leaves told effect before now result = Unit {0}

-- Completeness of one command: where no count rose, it has come to what the plain simulator says, or is out of memory. Where
-- nothing is told it is no fault, and no refusal for a file that is missing or too long.
abbrev pub IsCompleteCommand : Option Outside → Effect (Result SessionState Cause) → SessionState → Result (Unit {0}) Trouble → Type 0
IsCompleteCommand told effect now (Err trouble.Memory) = Unit {0}
IsCompleteCommand told effect now (Err (trouble.ReadFault name)) = ⊥
IsCompleteCommand told effect now (Err (trouble.WriteFault target)) = ⊥
IsCompleteCommand (Some outside) effect now (Ok _) = (effect outside).answer ≡ Ok now
IsCompleteCommand (Some outside) effect now (Err (trouble.Refused cause)) = (effect outside).answer ≡ Err cause
IsCompleteCommand None effect now (Ok _) = Unit {0}
IsCompleteCommand None effect now (Err (trouble.Refused cause)) = IsNoFileCause cause
