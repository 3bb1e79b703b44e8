-- How many formulas may stand inside one another says as much as the depth at which a name stands.
use Rattle.std.proofs.Common.{◌≡◌, ℕ, zero, suc, ◌+◌, ◌-◌, ◌<◌, ◌≤◌, Bool, true, false, if◌then◌else◌, ◌&&◌, List, neg_ℤ, Option, Some, None, Result, Ok, Err, refl, ap, ◌∙◌, arith}
use Rattle.std.specs.Prelude.{nat_lt}
use Rattle.std.proofs.lemmas.Bool.Decides.{nat_tests}
use Rattle.spk_script.specs.declared.fault.LineFault.{LineFault}
use Rattle.spk_script.specs.declared.fault.LineFault.TheVariants.{BadFormula}
use Rattle.spk_script.specs.declared.formula.part.Operator.{Operator}
use Rattle.spk_script.specs.declared.variable.Variable.{Variable}
use Rattle.spk_script.specs.declared.variable.Variable.TheVariants.{Index, Loop, String, Equal}
use Rattle.spk_num.specs.Results.{◌>>=◌}
use Rattle.spk_script.specs.Formulas.{Formula, Amount, Variable as Named, Negative, Enclosed, Operation, formula_of}
use Rattle.spk_script.specs.Values.{Environment, Naming, Evaluated, at_reference, value_of, value_of_read, value_of_variable, naming_by, result_of}
use Rattle.spk_script.specs.Evaluation.{naming_of}
use Rattle.spk_script.proofs.Following.{then_same}

-- two namings that agree deeper than this
abbrev AgreeBelow : ℕ → Naming → Naming → Type 0
AgreeBelow depth one other = (deeper operand_count : ℕ) (name : List ℕ) → depth < deeper → deeper ≤ 100 → one deeper operand_count name ≡ other deeper operand_count name

if_same : {A : Type 0} (b : Bool) (x y z : A) → (b ≡ true → x ≡ y) → (if b then x else z) ≡ (if b then y else z)
if_same true x y z same = same refl
if_same false x y z same = refl

not_deepest : (depth : ℕ) → nat_lt depth 100 ≡ true → depth + 1 ≤ 100
not_deepest depth is = grind (arith, nat_tests)

not_deepest_with : (depth : ℕ) (b : Bool) → (nat_lt depth 100 && b) ≡ true → depth + 1 ≤ 100
not_deepest_with depth b is = grind (arith, nat_tests)

-- what is made of the value of a factor, and of two values
abbrev negated : Evaluated → Result Evaluated LineFault
negated a = Ok (record a { value = neg_ℤ a.value })

abbrev with_left : Operator → Evaluated → Evaluated → Result Evaluated LineFault
with_left operator a b = result_of operator a.value b.value >>= λ z. Ok (record b { value = z })

value_alike : (depth : ℕ) (one other : Naming) → AgreeBelow depth one other → (inner operand_count : ℕ) (formula : Formula) → depth ≤ inner →
    value_of one inner operand_count formula ≡ value_of other inner operand_count formula
unfolding value_of
value_alike depth one other agree inner operand_count (Amount place z) within = refl
value_alike depth one other agree inner operand_count (Named place name) within =
    if_same (nat_lt inner 100 && nat_lt operand_count 1000) _ _ (Err (BadFormula place))
    (λ small. ap (at_reference place) (agree (inner + 1) (operand_count + 1) name (omega arith) (not_deepest_with inner (nat_lt operand_count 1000) small)))
value_alike depth one other agree inner operand_count (Negative place formula) within =
    if_same (nat_lt inner 100) _ _ (Err (BadFormula place))
    (λ small. ap (λ value. value >>= negated) (value_alike depth one other agree (inner + 1) operand_count formula (omega arith)))
value_alike depth one other agree inner operand_count (Enclosed place formula) within =
    if_same (nat_lt inner 100) _ _ (Err (BadFormula place))
    (λ small. value_alike depth one other agree (inner + 1) operand_count formula (omega arith))
value_alike depth one other agree inner operand_count (Operation operator left right) within =
    then_same _ _ _ _ (value_alike depth one other agree inner operand_count left within)
    (λ a. ap (λ value. value >>= with_left operator a) (value_alike depth one other agree inner a.operand_count right within))

read_alike : (depth : ℕ) (one other : Naming) → AgreeBelow depth one other → (operand_count : ℕ) (read : Result Formula ℕ) →
    value_of_read one depth operand_count read ≡ value_of_read other depth operand_count read
read_alike depth one other agree operand_count (Ok formula) = value_alike depth one other agree depth operand_count formula (omega arith)
read_alike depth one other agree operand_count (Err place) = refl

variable_alike : (depth : ℕ) (one other : Naming) → AgreeBelow depth one other → (operand_count : ℕ) (name : List ℕ) (variable : Option Variable) →
    value_of_variable one depth operand_count name variable ≡ value_of_variable other depth operand_count name variable
variable_alike depth one other agree operand_count name None = refl
variable_alike depth one other agree operand_count name (Some (Index value later)) = refl
variable_alike depth one other agree operand_count name (Some (Loop value last)) = refl
variable_alike depth one other agree operand_count name (Some (String text)) = refl
variable_alike depth one other agree operand_count name (Some (Equal text)) = read_alike depth one other agree operand_count (formula_of text)

levels_alike : (few many : ℕ) (variables : Environment) (depth operand_count : ℕ) (name : List ℕ) → 100 < few + depth → 100 < many + depth →
    depth ≤ 100 →
    naming_by few variables depth operand_count name ≡ naming_by many variables depth operand_count name
unfolding naming_by
levels_alike zero many variables depth operand_count name few_enough many_enough within = absurd (omega arith)
levels_alike (suc few) zero variables depth operand_count name few_enough many_enough within = absurd (omega arith)
levels_alike (suc few) (suc many) variables depth operand_count name few_enough many_enough within =
    variable_alike depth (naming_by few variables) (naming_by many variables)
    (λ deeper more other below below_most. levels_alike few many variables deeper more other (omega arith) (omega arith) below_most)
    operand_count name (variables name)

levels_agree : (levels : ℕ) (variables : Environment) (depth : ℕ) → 100 ≤ levels + depth →
    AgreeBelow depth (naming_by levels variables) (naming_of variables)
unfolding naming_of
levels_agree levels variables depth enough deeper operand_count name below within =
    levels_alike levels (101 - deeper) variables deeper operand_count name (omega arith) (omega arith) within

-- the value of what was read, where so many formulas may stand inside one another
pub value_by_levels : (levels : ℕ) (variables : Environment) (depth operand_count : ℕ) (read : Result Formula ℕ) → 100 ≤ levels + depth →
    value_of_read (naming_by levels variables) depth operand_count read ≡ value_of_read (naming_of variables) depth operand_count read
value_by_levels levels variables depth operand_count read enough =
    read_alike depth (naming_by levels variables) (naming_of variables) (levels_agree levels variables depth enough) operand_count read

-- the value of a name by its variable
pub naming_is : (variables : Environment) (depth operand_count : ℕ) (name : List ℕ) → depth ≤ 100 →
    naming_of variables depth operand_count name ≡ value_of_variable (naming_of variables) depth operand_count name (variables name)
unfolding naming_of naming_by
naming_is variables depth operand_count name within =
    let next : 101 - depth ≡ suc (100 - depth) = omega arith in
    ap (λ levels. naming_by levels variables depth operand_count name) next
    ∙ variable_alike depth (naming_by (100 - depth) variables) (naming_of variables)
    (levels_agree (100 - depth) variables depth (omega arith)) operand_count name (variables name)
