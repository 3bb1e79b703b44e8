-- The commands that the machine obeys itself.
use Rattle.std.specs.Prelude.{ℕ, List, [], ◌∷◌, codes, Option, Some, None, Ok, Result, if◌then◌else◌}
use Rattle.std.specs.Str.{bytes_eq}
use Rattle.spk_script.specs.Commands.Jump.{after_jump}
use Rattle.spk_script.specs.Commands.Label.{after_label}
use Rattle.spk_script.specs.Commands.Next.{after_next}
use Rattle.spk_script.specs.Commands.Variable.{after_variable}
use Rattle.spk_script.specs.Lines.{LogicalLine}
use Rattle.spk_script.specs.States.{State}
use Rattle.spk_script.specs.declared.fault.LineFault.{LineFault}
pub mod CheckedWords
pub mod Jump
pub mod Label
pub mod Next
pub mod Variable

-- the commands of the machine itself; a line that has no word left is one too
abbrev pub own_state_named : List LogicalLine → State → List ℕ → List (List ℕ) → Option (Result State LineFault)
own_state_named lines state first rest =
    if bytes_eq first (codes "variable") then Some (after_variable state rest)
    else (if bytes_eq first (codes "next") then Some (after_next state rest)
    else (if bytes_eq first (codes "label") then Some (after_label state rest)
    else (if bytes_eq first (codes "jump") then Some (after_jump lines state rest)
    else None)))

abbrev pub own_state : List LogicalLine → State → List (List ℕ) → Option (Result State LineFault)
own_state lines state [] = Some (Ok state)
own_state lines state (first ∷ rest) = own_state_named lines state first rest
