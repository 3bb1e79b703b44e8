-- What stands after a `$`: a name, or one that doesn't end, and the rest.
use Rattle.std.specs.Prelude.{◌≡◌, ℕ, ◌<◌, Bool, false, ◌==◌, List, length, Result, Ok, Err}
use Rattle.std.specs.Borrow.{Bor}
use Rattle.std.specs.Str.{IsAscii}
use Rattle.spk_script.specs.declared.fault.LineFault.{LineFault}
use Rattle.spk_script.specs.declared.fault.LineFault.TheVariants.{UnknownVariable}
use Rattle.spk_num.specs.Results.{◌>>=◌}
use Rattle.spk_script.specs.Faults.{is_memory}
use Rattle.spk_script.specs.Values.{Environment, variable_text}
use Rattle.spk_script.specs.Substitution.{Dollar, put_text, substituted_after, substituted}

-- the bytes around a name
abbrev pub is_dollar : ℕ → Bool
is_dollar b = b == 36

abbrev pub is_closing : ℕ → Bool
is_closing b = b == 125

-- the text of a variable before what is replaced after its name
abbrev pub put_variable : Environment → List ℕ → List ℕ → Result (List ℕ) LineFault
put_variable variables name rest = variable_text variables name >>= λ value. put_text value (substituted variables rest)

-- a text that begins with a name, and what stands after it
pub record BeginsWithName (text name rest : List ℕ) : Type 0 where
  pub is : (variables : Environment) → substituted_after variables Dollar text ≡ put_variable variables name rest
  pub ascii : IsAscii rest
  pub shorter : length rest < length text

-- a text that is a name without an end
abbrev pub IsOpenName : List ℕ → List ℕ → Type 0
IsOpenName text name = (variables : Environment) → substituted_after variables Dollar text ≡ Err (UnknownVariable name)

-- a text that begins with the name of a variable, its text, and what stands after the name
pub record BeginsWithVariable (variables : Environment) (text value rest : List ℕ) : Type 0 where
  pub is : substituted_after variables Dollar text ≡ put_text value (substituted variables rest)
  pub ascii : IsAscii rest
  pub shorter : length rest < length text

-- what is wrong after a `$`, unless it is out of memory
abbrev pub IsWrongAfter : Environment → List ℕ → LineFault → Type 0
IsWrongAfter variables text fault = is_memory fault ≡ false → substituted_after variables Dollar text ≡ Err fault

-- a text that is split after its name, or is a name without an end
abbrev pub SplitsName : List ℕ → Result (Bor (List ℕ) × Bor (List ℕ)) (Bor (List ℕ)) → Type 0
SplitsName text (Ok parts) = BeginsWithName text parts.0.now parts.1.now
SplitsName text (Err name) = IsOpenName text name.now
