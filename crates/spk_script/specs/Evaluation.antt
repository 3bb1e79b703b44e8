-- How a formula is evaluated, one part after another.
use Rattle.std.specs.Prelude.{ℕ, ◌+◌, ◌-◌, ◌^◌, ◌≤◌, Bool, false, ◌&&◌, nat_lt, if◌then◌else◌, List, [], ◌∷◌, Option, Some, None, Ok, Err, ℤ, unsigned_abs, Result}
use Rattle.spk_script.specs.declared.fault.LineFault.{LineFault}
use Rattle.spk_script.specs.declared.formula.part.Operator.TheVariants.{Minus}
use Rattle.spk_script.specs.declared.formula.part.Token.{Token}
use Rattle.spk_script.specs.declared.formula.part.Token.TheVariants.{Number, Name, Open, Close, Sign}
use Rattle.spk_script.specs.declared.formula.part.Part.{Part}
use Rattle.spk_script.specs.declared.formula.stack.Frame.{Frame}
use Rattle.spk_script.specs.declared.formula.stack.Frame.TheVariants.{Minus as Negation, Parenthesis, Pending}
use Rattle.spk_script.specs.declared.formula.progress.Progress.{Progress}
use Rattle.spk_script.specs.declared.fault.LineFault.TheVariants.{BadFormula}
use Rattle.spk_num.specs.Results.{◌>>=◌}
use Rattle.spk_script.specs.Formulas.{is_product}
use Rattle.spk_script.specs.Values.{Environment, Naming, Evaluated, at_reference, naming_by}
use Rattle.spk_script.specs.Frames.{depth_of, settled}

-- the names of variables, where formulas stand inside one another as deep as they may
unfoldable pub naming_of : Environment → Naming
naming_of variables depth operand_count name = naming_by (101 - depth) variables depth operand_count name

-- the number of a part is no more than 10^12
abbrev pub IsSmall : Token → Type 0
IsSmall (Number z) = unsigned_abs z.millionths ≤ 10 ^ 18
IsSmall token = Unit {0}

-- after so many numbers and names nothing has been read yet
abbrev pub started : ℕ → Progress
started operand_count = record { stack = []; operand_count = operand_count; value = None }

-- a minus or a parenthesis opens
abbrev pub opened : ℕ → ℕ → Progress → Frame → Result Progress LineFault
opened depth place progress frame =
    if nat_lt (depth + depth_of progress.stack) 100 then Ok (record progress { stack = frame ∷ progress.stack }) else Err (BadFormula place)

-- a number
abbrev pub counted : ℕ → Progress → ℤ → Result Progress LineFault
counted place progress z = if nat_lt progress.operand_count 1000 then Ok (record progress { operand_count = progress.operand_count + 1; value = Some z })
    else Err (BadFormula place)

-- a name
abbrev pub evaluated_on : Progress → Evaluated → Progress
evaluated_on progress evaluated = record progress { operand_count = evaluated.operand_count; value = Some evaluated.value }

abbrev pub named : Naming → ℕ → ℕ → Progress → List ℕ → Result Progress LineFault
named naming depth place progress name =
    if nat_lt (depth + depth_of progress.stack) 100 && nat_lt progress.operand_count 1000
    then (at_reference place (naming (depth + depth_of progress.stack + 1) (progress.operand_count + 1) name) >>= λ a. Ok (evaluated_on progress a))
    else Err (BadFormula place)

-- what a part opens where a number is wanted
abbrev pub opened_by : Token → Option Frame
opened_by Open = Some Parenthesis
opened_by (Sign Minus) = Some Negation
opened_by token = None

abbrev pub opens : ℕ → ℕ → Progress → Option Frame → Result Progress LineFault
opens depth place progress None = Err (BadFormula place)
opens depth place progress (Some frame) = opened depth place progress frame

-- a part where a number is wanted
abbrev pub operand_by : Naming → ℕ → ℕ → Progress → Token → Result Progress LineFault
operand_by naming depth place progress (Number z) = counted place progress z.millionths
operand_by naming depth place progress (Name name) = named naming depth place progress name
operand_by naming depth place progress token = opens depth place progress (opened_by token)

-- a part after a number, when what the number finishes is gone
abbrev pub is_product_sign : Token → Bool
is_product_sign (Sign operator) = is_product operator
is_product_sign token = false

abbrev pub closed : ℕ → ℕ → ℤ → List Frame → Result Progress LineFault
closed place operand_count z (Parenthesis ∷ frames) = Ok (record { stack = frames; operand_count = operand_count; value = Some z })
closed place operand_count z frames = Err (BadFormula place)

abbrev pub after_operand_by : ℕ → ℕ → Token → List Frame → ℤ → Result Progress LineFault
after_operand_by place operand_count (Sign operator) frames z = Ok (record { stack = Pending operator z ∷ frames; operand_count = operand_count; value = None })
after_operand_by place operand_count Close frames z = closed place operand_count z frames
after_operand_by place operand_count token frames z = Err (BadFormula place)

abbrev pub after_operand : ℕ → Progress → ℤ → Token → Result Progress LineFault
after_operand place progress z token = settled (is_product_sign token) progress.stack z >>= λ s. after_operand_by place progress.operand_count token s.0 s.1

-- one part more
abbrev pub step_by : Naming → ℕ → Progress → Part → Option ℤ → Result Progress LineFault
step_by naming depth progress part None = operand_by naming depth part.place progress part.token
step_by naming depth progress part (Some z) = after_operand part.place progress z part.token

unfoldable pub step : Naming → ℕ → Progress → Part → Result Progress LineFault
step naming depth progress part = step_by naming depth progress part progress.value

-- no part more
abbrev pub finished_by : Progress → Option ℤ → Result Evaluated LineFault
finished_by progress None = Err (BadFormula 0)
finished_by progress (Some z) = settled false progress.stack z >>= λ s. Ok (record { value = s.1; operand_count = progress.operand_count })

abbrev pub finished : Progress → Result Evaluated LineFault
finished progress = finished_by progress progress.value

-- what comes of parts, inside so many others
unfoldable pub run : Naming → ℕ → Progress → List Part → Result Evaluated LineFault
run naming depth progress [] = finished progress
run naming depth progress (part ∷ parts) = step naming depth progress part >>= λ next. run naming depth next parts
