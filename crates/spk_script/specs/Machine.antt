-- The machine that goes through a script: what it arrives at, and what it makes of a line.
use Rattle.std.specs.Prelude.{ℕ, ◌+◌, ◌-◌, Bool, true, false, ◌==◌, nat_lt, List, [], ◌∷◌, drop, slice_get, Option, Some, None, Ok, Err, Result, if◌then◌else◌}
use Rattle.spk_num.specs.Results.{◌>>=◌}
use Rattle.spk_script.specs.Commands.{own_state}
use Rattle.spk_script.specs.Lines.{LogicalLine, is_command}
use Rattle.spk_script.specs.States.{State}
use Rattle.spk_script.specs.Substitution.{line_words}
use Rattle.spk_script.specs.declared.fault.LineFault.{LineFault}
use Rattle.spk_script.specs.declared.fault.LineFault.TheVariants.{TooManyCommands}
use Rattle.spk_script.specs.declared.machine.Arrival.{Arrival}
use Rattle.spk_script.specs.declared.machine.Arrival.TheVariants.{At, End}
use Rattle.spk_script.specs.declared.machine.Step.{Step}
use Rattle.spk_script.specs.declared.machine.Step.TheVariants.{Words, Own}

-- The machine arrives at the next command, and goes past it. The arrival after the 1000000th is refused.
pub record Arrived : Type 0 where
  pub answer : Result Arrival LineFault
  pub state : State

abbrev pub arrive_where : State → ℕ → ℕ → Bool → Arrived
arrive_where state place number true = record { answer = Ok (At number); state = record state { place = place + 1; arrivals = state.arrivals + 1 } }
arrive_where state place number false = record { answer = Err (TooManyCommands number); state = record state { arrivals = 1000001 } }

abbrev pub arrive_at : State → ℕ → ℕ → Arrived
arrive_at state place number = arrive_where state place number (nat_lt state.arrivals 1000000)

unfoldable pub arrive_ahead : State → ℕ → List LogicalLine → Arrived
arrive_ahead state place [] = record { answer = Ok End; state = state }
arrive_ahead state place (line ∷ lines) =
    if is_command line then arrive_at state place line.number else arrive_ahead state (place + 1) lines

abbrev pub arrive : List LogicalLine → State → Arrived
arrive lines state = arrive_ahead state state.place (drop state.place lines)

-- the line that the machine stands at
abbrev pub line_at : List LogicalLine → State → Option LogicalLine
line_at lines state = if state.place == 0 then None else slice_get lines (state.place - 1)

-- such a command is step_by; the words of another one are handed on
abbrev pub step_of : ℕ → List (List ℕ) → State → Option (Result State LineFault) → Result (Step × State) LineFault
step_of number words state None = Ok (Words number words, state)
step_of number words state (Some own) = own >>= λ next. Ok (Own number, next)

abbrev pub step_by : List LogicalLine → State → ℕ → List (List ℕ) → Result (Step × State) LineFault
step_by lines state number words = step_of number words state (own_state lines state words)

-- what the machine makes of a line that it stands at
unfoldable pub read : List LogicalLine → State → LogicalLine → Result (Step × State) LineFault
read lines state line = line_words state.variables line.words >>= λ words. step_by lines state line.number words
