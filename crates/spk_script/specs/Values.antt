-- The value of a formula, in millionths, and how variables and texts with names in them are read.
use Rattle.std.specs.Prelude.{ℕ, zero, suc, ◌+◌, ◌^◌, not, ◌&&◌, ◌==◌, nat_lt, if◌then◌else◌, List, decimal, Option, Some, None, Result, Ok, Err, ℤ, pos, neg_ℤ, ◌+ℤ◌, ◌-ℤ◌, ◌*ℤ◌, int_div, int_rem, unsigned_abs}
use Rattle.spk_num.specs.Decimal.{millionths_of, decimal_text}
use Rattle.spk_num.specs.declared.decimal.Dec.{Dec}
use Rattle.spk_num.specs.declared.decimal.DecFault.{DecFault}
use Rattle.spk_script.specs.declared.fault.LineFault.{LineFault}
use Rattle.spk_script.specs.declared.formula.part.Operator.{Operator}
use Rattle.spk_script.specs.declared.formula.part.Operator.TheVariants.{Plus, Minus, Times, Over}
use Rattle.spk_script.specs.declared.variable.Variable.{Variable}
use Rattle.spk_script.specs.declared.variable.Variable.TheVariants.{Index, Loop, String, Equal}
use Rattle.spk_script.specs.declared.fault.LineFault.TheVariants.{UnknownVariable, BadFormula, Inexact, NumberTooLarge}
use Rattle.spk_num.specs.Results.{◌>>=◌}
use Rattle.spk_script.specs.Formulas.{Formula, Amount, Variable as Named, Negative, Enclosed, Operation, formula_of}

-- the variables by their names
abbrev pub Environment : Type 0
Environment = List ℕ → Option Variable

-- a result has no more than six places, and is no more than 10^12 with either sign
abbrev pub within : ℤ → Result ℤ LineFault
within z = if nat_lt (10 ^ 18) (unsigned_abs z) then Err NumberTooLarge else Ok z

abbrev pub quotient : ℤ → ℤ → Result ℤ LineFault
quotient a b =
    if unsigned_abs b == 0 then Err Inexact
    else (if not (unsigned_abs (int_rem a b) == 0) then Err Inexact else within (int_div a b))

-- what an operator makes of two numbers of millionths
abbrev pub result_of : Operator → ℤ → ℤ → Result ℤ LineFault
result_of Plus a b = within (a +ℤ b)
result_of Minus a b = within (a -ℤ b)
result_of Times a b = quotient (a *ℤ b) (pos 1000000)
result_of Over a b = quotient (a *ℤ pos 1000000) b

-- a value, and how many numbers and names have been read up to it
pub record Evaluated : Type 0 where
  pub value : ℤ
  pub operand_count : ℕ

-- the value of a name, at this depth and after so many numbers and names
abbrev pub Naming : Type 0
Naming = ℕ → ℕ → List ℕ → Result Evaluated LineFault

-- what stands wrong in the formula of a name stands wrong at that name
abbrev pub at_reference : ℕ → Result Evaluated LineFault → Result Evaluated LineFault
at_reference place (Ok evaluated) = Ok evaluated
at_reference place (Err (BadFormula at)) = Err (BadFormula place)
at_reference place (Err fault) = Err fault

-- A formula stands inside no more than 100 parentheses, minuses and names, and has no more than 1000 numbers and names.
unfoldable pub value_of : Naming → ℕ → ℕ → Formula → Result Evaluated LineFault
value_of naming depth operand_count (Amount place z) =
    if nat_lt operand_count 1000 then Ok (record { value = z; operand_count = operand_count + 1 }) else Err (BadFormula place)
value_of naming depth operand_count (Named place name) =
    if nat_lt depth 100 && nat_lt operand_count 1000 then at_reference place (naming (depth + 1) (operand_count + 1) name) else Err (BadFormula place)
value_of naming depth operand_count (Negative place formula) =
    if nat_lt depth 100 then (value_of naming (depth + 1) operand_count formula >>= λ a. Ok (record a { value = neg_ℤ a.value })) else Err (BadFormula place)
value_of naming depth operand_count (Enclosed place formula) =
    if nat_lt depth 100 then value_of naming (depth + 1) operand_count formula else Err (BadFormula place)
value_of naming depth operand_count (Operation operator left right) = do
  a ← value_of naming depth operand_count left
  b ← value_of naming depth a.operand_count right
  z ← result_of operator a.value b.value
  Ok (record b { value = z })

abbrev pub value_of_read : Naming → ℕ → ℕ → Result Formula ℕ → Result Evaluated LineFault
value_of_read naming depth operand_count (Ok formula) = value_of naming depth operand_count formula
value_of_read naming depth operand_count (Err place) = Err (BadFormula place)

-- a text that is read as a decimal number, and else is wrong where its name stands
abbrev pub decimal_of : ℕ → Result ℤ DecFault → Result Evaluated LineFault
decimal_of operand_count (Ok z) = Ok (record { value = z; operand_count = operand_count })
decimal_of operand_count (Err fault) = Err (BadFormula 0)

-- the value of the variable with this name, where formulas in formulas are at most so many
abbrev pub value_of_variable : Naming → ℕ → ℕ → List ℕ → Option Variable → Result Evaluated LineFault
value_of_variable naming depth operand_count name None = Err (UnknownVariable name)
value_of_variable naming depth operand_count name (Some (Index value later)) = decimal_of operand_count (millionths_of value)
value_of_variable naming depth operand_count name (Some (Loop value last)) = decimal_of operand_count (millionths_of (decimal value))
value_of_variable naming depth operand_count name (Some (String text)) = decimal_of operand_count (millionths_of text)
value_of_variable naming depth operand_count name (Some (Equal text)) = value_of_read naming depth operand_count (formula_of text)

unfoldable pub naming_by : ℕ → Environment → Naming
naming_by zero variables depth operand_count name = Err (BadFormula 0)
naming_by (suc levels) variables depth operand_count name = value_of_variable (naming_by levels variables) depth operand_count name (variables name)

-- the value of a text as a formula
unfoldable pub formula_value : Environment → List ℕ → Result Dec LineFault
formula_value variables text = value_of_read (naming_by 100 variables) 0 0 (formula_of text) >>= λ a. Ok (record { millionths = a.value })

-- what stands for a name in a text
abbrev pub text_of_variable : Environment → List ℕ → Option Variable → Result (List ℕ) LineFault
text_of_variable variables name None = Err (UnknownVariable name)
text_of_variable variables name (Some (Index value later)) = Ok value
text_of_variable variables name (Some (Loop value last)) = Ok (decimal value)
text_of_variable variables name (Some (String text)) = Ok text
text_of_variable variables name (Some (Equal text)) = formula_value variables text >>= λ value. Ok (decimal_text value.millionths)

unfoldable pub variable_text : Environment → List ℕ → Result (List ℕ) LineFault
variable_text variables name = text_of_variable variables name (variables name)
