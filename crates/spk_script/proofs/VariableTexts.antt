-- The text of an equal-style variable.
use Rattle.std.proofs.Common.{◌≡◌, ℕ, List, Some, Ok, sym, ap, ◌∙◌}
use Rattle.spk_num.specs.Decimal.{decimal_text}
use Rattle.spk_script.specs.declared.variable.Variable.{Variable}
use Rattle.spk_script.specs.declared.variable.Variable.TheVariants.{Equal}
use Rattle.spk_num.specs.Results.{◌>>=◌}
use Rattle.spk_script.specs.Values.{Environment, formula_value, text_of_variable, variable_text}

pub text_of_equal : (variables : Environment) (name text : List ℕ) (variable : Variable) → Some variable ≡ variables name →
    variable ≡ Equal text → variable_text variables name ≡ formula_value variables text >>= λ value. Ok (decimal_text value.millionths)
unfolding variable_text
text_of_equal variables name text variable there is = ap (text_of_variable variables name) (sym there ∙ ap Some is)
