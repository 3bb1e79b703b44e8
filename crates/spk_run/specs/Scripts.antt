-- What a call that obeys a command of a script has come to, with the machine and the session as they are then.
use Rattle.std.specs.Prelude.{◌≡◌, ◌≤◌, ◌+◌, Result, Ok, Err}
use Rattle.spk_world.specs.States.{Faults}
use Rattle.spk_script.specs.declared.fault.LineFault.{LineFault}
use Rattle.spk_script.specs.declared.fault.LineFault.TheVariants.{TooManyCommands}
use Rattle.spk_script.specs.States.{State}
use Rattle.spk_run.specs.declared.script.Progress.{Progress}
use Rattle.spk_run.specs.declared.script.Progress.TheVariants as progress
use Rattle.spk_run.specs.declared.fault.Fault.{Fault}
use Rattle.spk_run.specs.declared.state.SessionState.{SessionState}
use Rattle.spk_run.specs.Endings.{EndingFileCause}
use Rattle.spk_run.specs.Plain.{Course, GoesOn, Ends}

abbrev pub course : State → SessionState → Progress → Course
course state session progress.GoesOn = GoesOn state session
course state session (progress.Ends ending) = Ends ending

abbrev pub course_to : State → SessionState → Result Progress Fault → Result Course Fault
course_to state session (Ok progress) = Ok (course state session progress)
course_to state session (Err fault) = Err fault

-- Over a world that tells nothing, a script ends for a file that is missing or too long only where the count of loads rose.
abbrev pub ProgressFileCause : Faults → Faults → Progress → Type 0
ProgressFileCause before now progress.GoesOn = Unit {0}
ProgressFileCause before now (progress.Ends ending) = EndingFileCause before now ending

-- where a script goes on after a command, one arrival was counted
pub record IsCounted (before now : State) : Type 0 where
  pub counted : now.arrivals ≡ before.arrivals + 1
  pub few : now.arrivals ≤ 1000000

abbrev pub CountsOn : State → State → Progress → Type 0
CountsOn before now progress.GoesOn = IsCounted before now
CountsOn before now (progress.Ends ending) = Unit {0}

-- the only fault of an arrival is that it is one too many
abbrev pub IsOneTooMany : LineFault → Type 0
IsOneTooMany (TooManyCommands number) = Unit {0}
IsOneTooMany fault = ⊥
