-- `variable NAME STYLE VALUE ..`: makes a variable.
use Rattle.std.specs.Prelude.{ℕ, List, ◌∷◌, codes, Option, Some, None, Ok, Err, Result, if◌then◌else◌}
use Rattle.std.specs.Str.{bytes_eq}
use Rattle.spk_num.specs.Results.{◌>>◌}
use Rattle.spk_num.specs.Whole.{whole_within}
use Rattle.spk_script.specs.Commands.CheckedWords.{checked_name, nothing_after}
use Rattle.spk_script.specs.States.{State, with_variable, with_new_variable}
use Rattle.spk_script.specs.declared.fault.LineFault.{LineFault}
use Rattle.spk_script.specs.declared.fault.LineFault.TheVariants.{WrongWords, LoopValue, BadStyle}
use Rattle.spk_script.specs.declared.variable.Variable.TheVariants.{Index, Loop, String, Equal}

-- a loop has 1 to 1000000 turns
abbrev pub with_turns : State → List ℕ → Option ℕ → Result State LineFault
with_turns state name None = Err LoopValue
with_turns state name (Some last) = Ok (with_new_variable state name (Loop 1 last))

abbrev pub with_loop : State → List ℕ → List ℕ → List (List ℕ) → Result State LineFault
with_loop state name turns rest = nothing_after rest >> with_turns state name (whole_within 1 1000000 turns)

abbrev pub with_string : State → List ℕ → List ℕ → List (List ℕ) → Result State LineFault
with_string state name text rest = nothing_after rest >> Ok (with_variable state name (String text))

abbrev pub with_formula : State → List ℕ → List ℕ → List (List ℕ) → Result State LineFault
with_formula state name formula rest = nothing_after rest >> Ok (with_variable state name (Equal formula))

-- `variable NAME STYLE VALUE ..`
abbrev pub with_styled : State → List ℕ → List ℕ → List ℕ → List (List ℕ) → Result State LineFault
with_styled state name style value rest =
    if bytes_eq style (codes "index") then Ok (with_new_variable state name (Index value rest))
    else (if bytes_eq style (codes "loop") then with_loop state name value rest
    else (if bytes_eq style (codes "string") then with_string state name value rest
    else (if bytes_eq style (codes "equal") then with_formula state name value rest
    else Err (BadStyle style))))

abbrev pub with_named : State → List ℕ → List ℕ → List ℕ → List (List ℕ) → Result State LineFault
with_named state name style value rest = checked_name name >> with_styled state name style value rest

abbrev pub after_variable : State → List (List ℕ) → Result State LineFault
after_variable state (name ∷ style ∷ value ∷ rest) = with_named state name style value rest
after_variable state words = Err WrongWords
