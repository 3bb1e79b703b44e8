-- What the fields of the machine stand for, and what its calls come to.
use Rattle.std.specs.Prelude.{◌≡◌, ℕ, List, Option, Some, None, IsSomeAnd, Ok, Err, Result}
use Rattle.spk_script.specs.declared.fault.LineFault.{LineFault}
use Rattle.spk_script.specs.declared.fault.LineFault.TheVariants.{TooManyCommands}
use Rattle.spk_script.specs.declared.machine.Arrival.{Arrival}
use Rattle.spk_script.specs.declared.machine.Arrival.TheVariants.{At, End}
use Rattle.spk_script.specs.declared.machine.Step.{Step}
use Rattle.spk_script.specs.declared.machine.Step.TheVariants.{Own}
use Rattle.spk_script.specs.declared.labelled_script.Command.{Command}
use Rattle.spk_script.specs.declared.state.MachineState.{MachineState}
use Rattle.spk_script.specs.Lines.{LogicalLine, line_numbered}
use Rattle.spk_num.specs.Results.{IsPlainOrMemory, result_with}
use Rattle.spk_script.specs.Faults.{is_memory}
use Rattle.spk_script.specs.Tables.{environment_of}
use Rattle.spk_script.specs.States.{State}
use Rattle.spk_script.specs.Machine.{Arrived, arrive_at, line_at}

abbrev pub state_of : MachineState → State
state_of machine = record {
  place = machine.place;
  variables = environment_of machine.variables;
  skips = machine.skips;
  arrivals = machine.arrivals;
}

-- an arrival at the command that was found, or at the end
abbrev pub arrive_found : State → Option Command → Arrived
arrive_found state None = record { answer = Ok End; state = state }
arrive_found state (Some command) = arrive_at state command.place command.number

-- what a call has come to, with the state after it
abbrev pub arrived_to : State → Result Arrival LineFault → Arrived
arrived_to state answer = record { answer = answer; state = state }

abbrev pub read_to : State → Result Step LineFault → Result (Step × State) LineFault
read_to state (Ok step) = Ok (step, state)
read_to state (Err fault) = Err fault

-- what a command of the machine itself has come to, or none
abbrev pub OwnTo : Option (Result State LineFault) → State → Option (Result (Unit {0}) LineFault) → Type 0
OwnTo None state None = Unit {0}
OwnTo None state (Some obeyed) = ⊥
OwnTo (Some own) state None = ⊥
OwnTo (Some own) state (Some obeyed) = IsPlainOrMemory is_memory own (result_with state obeyed)

abbrev pub own_step : ℕ → Result (Unit {0}) LineFault → Result Step LineFault
own_step number (Ok _) = Ok (Own number)
own_step number (Err fault) = Err fault

-- An arrival is at the line with the number that is answered, or there was one too many.
abbrev pub StandsAt : List LogicalLine → State → Result Arrival LineFault → Type 0
StandsAt lines state (Ok (At number)) = IsSomeAnd (line_at lines state) (λ line. (line.number ≡ number) × (line_numbered lines number ≡ Some line))
StandsAt lines state (Ok End) = Unit {0}
StandsAt lines state (Err (TooManyCommands number)) = Unit {0}
StandsAt lines state (Err fault) = ⊥
