-- What the machine keeps while it goes through a script.
use Rattle.std.specs.Map.{update}
use Rattle.std.specs.Prelude.{ℕ, Bool, false, List, [], ◌∷◌, Some, None, is_some, if◌then◌else◌}
use Rattle.std.specs.Str.{bytes_eq}
use Rattle.spk_script.specs.Values.{Environment}
use Rattle.spk_script.specs.declared.setting.Setting.{Setting}
use Rattle.spk_script.specs.declared.variable.Variable.{Variable}
use Rattle.spk_script.specs.declared.variable.Variable.TheVariants.{Index}

-- How many lines the machine has gone past, the one that it stands at included; the variables; whether the next jump is
-- skipped; and how often it has arrived at a command, which stays at 1000001.
pub record State : Type 0 where
  pub place : ℕ
  pub variables : Environment
  pub skips : Bool
  pub arrivals : ℕ

-- a variable that is set, whatever its name was, and one that is only set where its name is free
abbrev pub with_variable : State → List ℕ → Variable → State
with_variable state name variable = record state { variables = update bytes_eq state.variables name (Some variable) }

abbrev pub with_new_variable : State → List ℕ → Variable → State
with_new_variable state name variable = if is_some (state.variables name) then state else with_variable state name variable

-- before the first line each setting is a variable of one value; of two with one name the first is kept
abbrev pub no_variables : Environment
no_variables name = None

abbrev pub new_state : State
new_state = record { place = 0; variables = no_variables; skips = false; arrivals = 0 }

abbrev pub with_settings : State → List Setting → State
with_settings state [] = state
with_settings state (setting ∷ settings) = with_settings (with_new_variable state setting.name (Index setting.value [])) settings
