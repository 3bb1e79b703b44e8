-- The parts of a formula whose form was judged.
use Rattle.std.specs.Prelude.{ℕ, zero, suc, ◌+◌, if◌then◌else◌, List, [], ◌∷◌, length, Option, Some, None, Result, Ok, Err}
use Rattle.spk_script.specs.declared.fault.LineFault.{LineFault}
use Rattle.spk_script.specs.declared.formula.part.Operator.TheVariants.{Minus}
use Rattle.spk_script.specs.declared.formula.part.Token.{Token}
use Rattle.spk_script.specs.declared.formula.part.Token.TheVariants.{Number, Name, Open, Close, Sign, Broken}
use Rattle.spk_script.specs.declared.formula.part.Part.{Part}
use Rattle.spk_script.specs.declared.formula.form.FormState.{FormState}
use Rattle.spk_script.specs.declared.formula.form.FormState.TheVariants.{BeforeOperand, AfterOperand}
use Rattle.spk_script.specs.declared.fault.LineFault.TheVariants.{BadFormula}
use Rattle.spk_script.specs.Formulas.{Formula, begins_blank, ends_blank, parts_of, formula_of}

abbrev pub parts_by : List ℕ → Result Formula ℕ → Result (List Part) LineFault
parts_by text (Ok formula) = Ok (parts_of text)
parts_by text (Err place) = Err (BadFormula place)

-- the parts of a text that is a formula, or its fault
abbrev pub parts_formed : List ℕ → Result (List Part) LineFault
parts_formed text = parts_by text (formula_of text)

-- The form judged from the left, part by part. Where an operand is wanted, it begins with a number, a name, a minus or a
-- parenthesis. After an operand an operator comes, or a parenthesis closes that is open.
abbrev pub passed_before : ℕ → ℕ → Token → Result FormState ℕ
passed_before depth place (Number z) = Ok (AfterOperand depth)
passed_before depth place (Name name) = Ok (AfterOperand depth)
passed_before depth place Open = Ok (BeforeOperand (depth + 1))
passed_before depth place (Sign Minus) = Ok (BeforeOperand depth)
passed_before depth place (Broken at) = Err at
passed_before depth place token = Err place

abbrev pub closed_at : ℕ → ℕ → Result FormState ℕ
closed_at zero place = Err place
closed_at (suc depth) place = Ok (AfterOperand depth)

abbrev pub passed_after : ℕ → ℕ → Token → Result FormState ℕ
passed_after depth place (Sign operator) = Ok (BeforeOperand depth)
passed_after depth place Close = closed_at depth place
passed_after depth place token = Err place

-- the state after a token at this place, or the place of what can't stand there
abbrev pub passed : FormState → ℕ → Token → Result FormState ℕ
passed (BeforeOperand depth) place token = passed_before depth place token
passed (AfterOperand depth) place token = passed_after depth place token

abbrev pub depth_of : FormState → ℕ
depth_of (BeforeOperand depth) = depth
depth_of (AfterOperand depth) = depth

-- a text may end after an operand, where no parenthesis is open and no blank stands there
abbrev pub fault_at_end : List ℕ → FormState → Option ℕ
fault_at_end text (AfterOperand zero) = if ends_blank text then Some (length text) else None
fault_at_end text state = Some (length text)

abbrev pub fault_after : Result FormState ℕ → (FormState → Option ℕ) → Option ℕ
fault_after (Ok state) next = next state
fault_after (Err place) next = Some place

unfoldable pub fault_from : List ℕ → FormState → List Part → Option ℕ
fault_from text state [] = fault_at_end text state
fault_from text state (part ∷ parts) = fault_after (passed state part.place part.token) (λ next. fault_from text next parts)

-- the first byte of a text with these parts that can't stand there, if it is no formula
abbrev pub form_fault : List ℕ → List Part → Option ℕ
form_fault text parts = if begins_blank text then Some 0 else fault_from text (BeforeOperand 0) parts
