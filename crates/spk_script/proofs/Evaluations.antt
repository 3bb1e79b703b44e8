-- What the parts of a formula, its names and its text come to.
use Rattle.std.proofs.Common.{◌≡◌, ℕ, ◌+◌, ◌-◌, ◌<◌, ◌≤◌, true, false, ◌&&◌, List, ◌∷◌, length, drop, get_or, ◌⊎◌, inl, inr, Option, Some, Ok, Err, refl, sym, ap, ◌∙◌, subst, arith, ℤ, pos, decimal, ◌*◌, ◌^◌, Result}
use Rattle.std.specs.Prelude.{nat_lt}
use Rattle.std.proofs.lemmas.Bool.Decides.{nat_tests}
use Rattle.std.proofs.lemmas.List.{drop_more, drop_all}
use Rattle.spk_script.specs.declared.fault.LineFault.{LineFault}
use Rattle.spk_script.specs.declared.fault.LineFault.TheVariants.{BadFormula}
use Rattle.spk_num.specs.declared.decimal.Dec.{Dec}
use Rattle.spk_script.specs.declared.formula.part.Token.{Token}
use Rattle.spk_script.specs.declared.formula.part.Token.TheVariants.{Number, Name}
use Rattle.spk_script.specs.declared.formula.part.Part.{Part}
use Rattle.spk_script.specs.declared.formula.stack.Frame.{Frame}
use Rattle.spk_script.specs.declared.formula.progress.Progress.{Progress}
use Rattle.spk_script.specs.declared.variable.Variable.{Variable}
use Rattle.spk_num.specs.Results.{◌>>=◌, IsPlainOrMemory}
use Rattle.spk_script.specs.Faults.{is_memory}
use Rattle.spk_script.specs.Values.{Environment, Naming, Evaluated, at_reference, decimal_of, value_of_variable, value_of_read, formula_value}
use Rattle.spk_script.specs.Formulas.{formula_of}
use Rattle.spk_script.specs.Frames.{depth_of}
use Rattle.spk_script.specs.Evaluation.{naming_of, evaluated_on, named, opened_by, opens, operand_by, step, finished, run}
use Rattle.spk_num.proofs.ResultLaws.{then_value, plain_is, plain_fault, plain_then, plain_failed}
use Rattle.spk_script.proofs.Following.{plain_same}
use Rattle.spk_script.proofs.Levels.{naming_is, value_by_levels}
use Rattle.spk_script.proofs.Wholes.{millionths_of_decimal}
use Rattle.spk_num.specs.Decimal.{millionths_of}

-- a name that stands too deep, or after too many numbers and names
untaken : (deep operand_count : ℕ) → (100 ≤ deep) ⊎ (1000 ≤ operand_count) → (nat_lt deep 100 && nat_lt operand_count 1000) ≡ false
untaken deep operand_count over = grind (arith, nat_tests)

taken : (deep operand_count : ℕ) → deep < 100 → operand_count < 1000 → (nat_lt deep 100 && nat_lt operand_count 1000) ≡ true
taken deep operand_count deep_below met_below = grind (arith, nat_tests)

too_deep : (depth nested deep operand_count : ℕ) → nested ≡ deep → depth ≤ 100 → (100 - depth ≤ nested) ⊎ ((nested < 100 - depth) × (1000 ≤ operand_count)) →
    (100 ≤ depth + deep) ⊎ (1000 ≤ operand_count)
too_deep depth nested deep operand_count is within (inl over) = inl (omega arith)
too_deep depth nested deep operand_count is within (inr over) = inr over.1

pub name_untaken : (naming : Naming) (depth place : ℕ) (progress : Progress) (name : List ℕ) (nested : ℕ) →
    nested ≡ depth_of progress.stack → depth ≤ 100 →
    (100 - depth ≤ nested) ⊎ ((nested < 100 - depth) × (1000 ≤ progress.operand_count)) →
    IsPlainOrMemory is_memory (named naming depth place progress name) (Err (BadFormula place))
name_untaken naming depth place progress name nested is within over =
    plain_fault _ _ _ (rw (untaken (depth + depth_of progress.stack) progress.operand_count
    (too_deep depth nested (depth_of progress.stack) progress.operand_count is within over)) refl)

-- a fault in the formula of a name
plain_at_reference : (place : ℕ) (plain result : Result Evaluated LineFault) → IsPlainOrMemory is_memory plain result → IsPlainOrMemory is_memory (at_reference place plain) (at_reference place result)
unfolding IsPlainOrMemory
plain_at_reference place plain (Ok a) answers = ap (at_reference place) answers
plain_at_reference place plain (Err (BadFormula at)) answers = λ known. ap (at_reference place) (answers refl)
plain_at_reference place plain (Err fault) answers = λ known. ap (at_reference place) (answers known)

name_at_reference : (naming : Naming) (depth place : ℕ) (progress : Progress) (name : List ℕ) (nested : ℕ) (result : Result Evaluated LineFault) →
    nested ≡ depth_of progress.stack →
    IsPlainOrMemory is_memory (naming (depth + nested + 1) (progress.operand_count + 1) name) result →
    IsPlainOrMemory is_memory (at_reference place (naming (depth + depth_of progress.stack + 1) (progress.operand_count + 1) name)) (at_reference place result)
name_at_reference naming depth place progress name nested result is answers =
    subst (λ deep. IsPlainOrMemory is_memory (at_reference place (naming (depth + deep + 1) (progress.operand_count + 1) name)) (at_reference place result)) is
    (plain_at_reference place (naming (depth + nested + 1) (progress.operand_count + 1) name) result answers)

name_taken : (naming : Naming) (depth place : ℕ) (progress : Progress) (name : List ℕ) (nested : ℕ) → nested ≡ depth_of progress.stack →
    nested < 100 - depth → progress.operand_count < 1000 →
    named naming depth place progress name ≡ at_reference place (naming (depth + depth_of progress.stack + 1) (progress.operand_count + 1) name) >>= λ a.
    Ok (evaluated_on progress a)
name_taken naming depth place progress name nested is below below_most =
    rw (taken (depth + depth_of progress.stack) progress.operand_count (omega arith) below_most) refl

pub name_fault : (naming : Naming) (depth place : ℕ) (progress : Progress) (name : List ℕ) (nested : ℕ) (result : Result Evaluated LineFault)
    (fault : LineFault) →
    nested ≡ depth_of progress.stack → nested < 100 - depth → progress.operand_count < 1000 →
    IsPlainOrMemory is_memory (naming (depth + nested + 1) (progress.operand_count + 1) name) result →
    Err fault ≡ at_reference place result → IsPlainOrMemory is_memory (named naming depth place progress name) (Err fault)
name_fault naming depth place progress name nested result fault is below below_most answers refers =
    subst (λ plain. IsPlainOrMemory is_memory plain (Err fault)) (sym (name_taken naming depth place progress name nested is below below_most))
    (plain_failed _ _ (λ a. Ok (evaluated_on progress a)) fault
    (subst (IsPlainOrMemory is_memory (at_reference place (naming (depth + depth_of progress.stack + 1) (progress.operand_count + 1) name))) (sym refers)
    (name_at_reference naming depth place progress name nested result is answers)))

pub name_value : (naming : Naming) (depth place : ℕ) (progress next : Progress) (name : List ℕ) (nested : ℕ) (result : Result Evaluated LineFault)
    (a : Evaluated) →
    nested ≡ depth_of progress.stack → nested < 100 - depth → progress.operand_count < 1000 →
    IsPlainOrMemory is_memory (naming (depth + nested + 1) (progress.operand_count + 1) name) result →
    Ok a ≡ at_reference place result → next ≡ evaluated_on progress a → IsPlainOrMemory is_memory (named naming depth place progress name) (Ok next)
name_value naming depth place progress next name nested result a is below below_most answers refers continues =
    subst (λ plain. IsPlainOrMemory is_memory plain (Ok next)) (sym (name_taken naming depth place progress name nested is below below_most))
    (plain_then _ _ (λ b. Ok (evaluated_on progress b)) a (Ok next)
    (subst (IsPlainOrMemory is_memory (at_reference place (naming (depth + depth_of progress.stack + 1) (progress.operand_count + 1) name))) (sym refers)
    (name_at_reference naming depth place progress name nested result is answers))
    (plain_same (Ok (evaluated_on progress a)) (Ok next) (ap Ok continues)))

-- a name by its variable
pub name_answers : (variables : Environment) (depth operand_count : ℕ) (name : List ℕ) (variable : Option Variable) (result : Result Evaluated LineFault) →
    depth ≤ 100 → variables name ≡ variable →
    IsPlainOrMemory is_memory (value_of_variable (naming_of variables) depth operand_count name variable) result → IsPlainOrMemory is_memory (naming_of variables depth operand_count name) result
name_answers variables depth operand_count name variable result within is answers =
    subst (λ plain. IsPlainOrMemory is_memory plain result) (sym
    (naming_is variables depth operand_count name within ∙ ap (value_of_variable (naming_of variables) depth operand_count name) is)) answers

-- one part after another
part_next : (naming : Naming) (depth : ℕ) (progress : Progress) (parts : List Part) (i : ℕ) (part : Part) → i < length parts →
    get_or parts i part ≡ part →
    run naming depth progress (drop i parts) ≡ step naming depth progress part >>= λ next. run naming depth next (drop (i + 1) parts)
unfolding run
part_next naming depth progress parts i part within at =
    ap (run naming depth progress) (drop_more parts i part within ∙ ap (λ p. p ∷ drop (i + 1) parts) at)

pub part_taken : (naming : Naming) (depth : ℕ) (progress next : Progress) (parts : List Part) (i : ℕ) (part : Part) → i < length parts →
    get_or parts i part ≡ part →
    IsPlainOrMemory is_memory (step naming depth progress part) (Ok next) →
    run naming depth progress (drop i parts) ≡ run naming depth next (drop (i + 1) parts)
part_taken naming depth progress next parts i part within at answers =
    part_next naming depth progress parts i part within at
    ∙ then_value _ (λ after. run naming depth after (drop (i + 1) parts)) next (plain_is _ _ next answers)

pub part_fault : (naming : Naming) (depth : ℕ) (progress : Progress) (parts : List Part) (i : ℕ) (part : Part) (fault : LineFault) →
    i < length parts → get_or parts i part ≡ part →
    IsPlainOrMemory is_memory (step naming depth progress part) (Err fault) → IsPlainOrMemory is_memory (run naming depth progress (drop i parts)) (Err fault)
part_fault naming depth progress parts i part fault within at answers =
    subst (λ plain. IsPlainOrMemory is_memory plain (Err fault)) (sym (part_next naming depth progress parts i part within at))
    (plain_failed _ _ (λ after. run naming depth after (drop (i + 1) parts)) fault answers)

pub parts_end : (naming : Naming) (depth : ℕ) (progress : Progress) (parts : List Part) (i : ℕ) → length parts ≤ i →
    run naming depth progress (drop i parts) ≡ finished progress
unfolding run
parts_end naming depth progress parts i end = ap (run naming depth progress) (drop_all i parts end)

-- the variable that was found by a name
pub name_finds : (variables : Environment) (name key : List ℕ) (found variable : Variable) → Some found ≡ variables key → key ≡ name →
    found ≡ variable → variables name ≡ Some variable
name_finds variables name key found variable there is same = ap variables (sym is) ∙ sym there ∙ ap Some same

pub text_value : (operand_count : ℕ) (bytes text : List ℕ) (result : Result Evaluated LineFault) → bytes ≡ text →
    result ≡ decimal_of operand_count (millionths_of bytes) → result ≡ decimal_of operand_count (millionths_of text)
text_value operand_count bytes text result same is = is ∙ ap (λ t. decimal_of operand_count (millionths_of t)) same

pub loop_value : (operand_count n : ℕ) (whole : ℤ) (a : Evaluated) → n < 2 ^ 32 → whole ≡ pos (n * 1000000) →
    a ≡ record { value = whole; operand_count = operand_count } → Ok a ≡ decimal_of operand_count (millionths_of (decimal n))
loop_value operand_count n whole a small is same =
    ap Ok same ∙ ap (λ z. Ok (record { value = z; operand_count = operand_count })) is ∙ sym (ap (decimal_of operand_count) (millionths_of_decimal n small))

-- a part that is neither a number nor a name
operand_opens : (naming : Naming) (depth place : ℕ) (progress : Progress) (token : Token) → ((z : Dec) → token ≡ Number z → ⊥) →
    ((name : List ℕ) → token ≡ Name name → ⊥) →
    operand_by naming depth place progress token ≡ opens depth place progress (opened_by token)
operand_opens naming depth place progress (Number z) no_number no_name = absurd (no_number z refl)
operand_opens naming depth place progress (Name name) no_number no_name = absurd (no_name name refl)
operand_opens naming depth place progress token no_number no_name = refl

pub operand_answers : (naming : Naming) (depth place : ℕ) (progress : Progress) (token : Token) (frame : Option Frame)
    (result : Result Progress LineFault) →
    ((z : Dec) → token ≡ Number z → ⊥) → ((name : List ℕ) → token ≡ Name name → ⊥) → frame ≡ opened_by token →
    IsPlainOrMemory is_memory (opens depth place progress frame) result →
    IsPlainOrMemory is_memory (operand_by naming depth place progress token) result
operand_answers naming depth place progress token frame result no_number no_name is answers =
    subst (λ plain. IsPlainOrMemory is_memory plain result) (ap (opens depth place progress) is
    ∙ sym (operand_opens naming depth place progress token no_number no_name)) answers

-- the value of a text as a formula
abbrev decimal_answer : ℤ → Result Dec LineFault
decimal_answer z = Ok (record { millionths = z })

levels_first : (variables : Environment) (text : List ℕ) →
    formula_value variables text ≡ value_of_read (naming_of variables) 0 0 (formula_of text) >>= λ a. Ok (record { millionths = a.value })
unfolding formula_value
levels_first variables text = ap (λ value. value >>= λ a. Ok (record { millionths = a.value }))
    (value_by_levels 100 variables 0 0 (formula_of text) (omega arith))

pub fault_answers : (variables : Environment) (text : List ℕ) (fault : LineFault) →
    IsPlainOrMemory is_memory (value_of_read (naming_of variables) 0 0 (formula_of text)) (Err fault) → IsPlainOrMemory is_memory (formula_value variables text) (Err fault)
fault_answers variables text fault answers =
    subst (λ plain. IsPlainOrMemory is_memory plain (Err fault)) (sym (levels_first variables text)) (plain_failed _ _ _ fault answers)

pub value_answers : (variables : Environment) (text : List ℕ) (a : Evaluated) (number : Dec) →
    IsPlainOrMemory is_memory (value_of_read (naming_of variables) 0 0 (formula_of text)) (Ok a) → number.millionths ≡ a.value →
    IsPlainOrMemory is_memory (formula_value variables text) (Ok number)
value_answers variables text a number answers is =
    subst (λ plain. IsPlainOrMemory is_memory plain (Ok number)) (sym (levels_first variables text))
    (plain_then _ _ _ a (Ok number) answers (plain_same _ (Ok number) (ap decimal_answer is)))
