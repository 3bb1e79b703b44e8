-- `next NAME`: goes to the next value of a variable.
use Rattle.std.specs.Map.{update}
use Rattle.std.specs.Prelude.{ℕ, ◌+◌, Bool, true, false, nat_lt, List, [], ◌∷◌, Option, Some, None, Ok, Err, Result, if◌then◌else◌}
use Rattle.std.specs.Str.{bytes_eq}
use Rattle.spk_num.specs.Results.{◌>>◌}
use Rattle.spk_script.specs.Commands.CheckedWords.{checked_name}
use Rattle.spk_script.specs.States.{State, with_variable}
use Rattle.spk_script.specs.declared.fault.LineFault.{LineFault}
use Rattle.spk_script.specs.declared.fault.LineFault.TheVariants.{UnknownVariable, WrongWords, NotStepped}
use Rattle.spk_script.specs.declared.variable.Variable.{Variable}
use Rattle.spk_script.specs.declared.variable.Variable.TheVariants.{Index, Loop}

-- an index variable goes to the next of its values, and a loop to the next number, where there is one
abbrev pub next_variable : Variable → Option Variable
next_variable (Index value []) = None
next_variable (Index value (next ∷ later)) = Some (Index next later)
next_variable (Loop value last) = if nat_lt value last then Some (Loop (value + 1) last) else None
next_variable variable = None

abbrev pub has_steps : Variable → Bool
has_steps (Index value later) = true
has_steps (Loop value last) = true
has_steps variable = false

-- `next NAME`: where no value is left the variable is deleted, and the next jump is skipped
abbrev pub with_next : State → List ℕ → Option Variable → State
with_next state name None = record state { variables = update bytes_eq state.variables name None; skips = true }
with_next state name (Some next) = with_variable state name next

abbrev pub with_step : State → List ℕ → Option Variable → Result State LineFault
with_step state name None = Err (UnknownVariable name)
with_step state name (Some variable) = if has_steps variable then Ok (with_next state name (next_variable variable)) else Err (NotStepped name)

abbrev pub with_named_step : State → List ℕ → Result State LineFault
with_named_step state name = checked_name name >> with_step state name (state.variables name)

abbrev pub after_next : State → List (List ℕ) → Result State LineFault
after_next state (name ∷ []) = with_named_step state name
after_next state words = Err WrongWords
