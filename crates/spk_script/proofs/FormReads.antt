-- The form of a formula, judged part by part, is what its grammar reads.
use Rattle.std.proofs.Common.{◌≡◌, ℕ, zero, suc, ◌+◌, ◌*◌, ◌<◌, ◌≤◌, Bool, true, false, cond, List, [], ◌∷◌, length, Option, Some, None, Result, Ok, Err, refl, sym, ◌∙◌, ap, arith}
use Rattle.spk_script.specs.declared.formula.part.Operator.{Operator}
use Rattle.spk_script.specs.declared.formula.part.Operator.TheVariants.{Plus, Minus, Times, Over}
use Rattle.spk_script.specs.declared.formula.part.Token.{Token}
use Rattle.spk_script.specs.declared.formula.part.Token.TheVariants.{Number, Name, Open, Close, Sign, Broken}
use Rattle.spk_script.specs.declared.formula.part.Part.{Part}
use Rattle.spk_script.specs.declared.formula.form.FormState.{FormState}
use Rattle.spk_script.specs.declared.formula.form.FormState.TheVariants.{BeforeOperand, AfterOperand}
use Rattle.spk_script.specs.declared.fault.LineFault.TheVariants.{BadFormula}
use Rattle.spk_script.specs.Formulas.{Formula, Operation, Goal, Expression, Term, Factor, MoreTerms, MoreFactors, Read, ◌then◌, is_sum, is_product, operator_by, operator_at, closed_by, closed, factor_by, factor_of, more_of_kind, read, begins_blank, ends_blank, whole, read_of, parts_of, formula_of}
use Rattle.spk_script.specs.Forms.{parts_by, parts_formed, passed_before, passed_after, fault_at_end, fault_after, fault_from, form_fault}

-- where a goal begins, and how many steps are enough for so many parts
abbrev pub state_at : Goal → ℕ → FormState
state_at (MoreTerms formula) depth = AfterOperand depth
state_at (MoreFactors formula) depth = AfterOperand depth
state_at goal depth = BeforeOperand depth

abbrev pub steps_for : Goal → ℕ → ℕ
steps_for Expression n = 3 * n + 3
steps_for Term n = 3 * n + 2
steps_for goal n = 3 * n + 1

-- what begins with no operator of one kind, or of any
abbrev pub NoProduct : List Part → Type 0
NoProduct parts = operator_at is_product parts ≡ None

abbrev pub NoOperator : List Part → Type 0
NoOperator parts = (operator_at is_sum parts ≡ None) × (operator_at is_product parts ≡ None)

abbrev pub IsNoOperator : Token → List Part → Type 0
IsNoOperator token rest = (operator_by is_sum token rest ≡ None) × (operator_by is_product token rest ≡ None)

-- what a goal is given, what it leaves, and how much
abbrev pub Begins : Goal → List Part → Type 0
Begins (MoreTerms formula) parts = NoProduct parts
Begins goal parts = Unit {0}

abbrev pub Ends : Goal → List Part → Type 0
Ends Expression rest = NoOperator rest
Ends Term rest = NoProduct rest
Ends Factor rest = Unit {0}
Ends (MoreTerms formula) rest = NoOperator rest
Ends (MoreFactors formula) rest = NoProduct rest

abbrev pub Fewer : Goal → List Part → List Part → Type 0
Fewer (MoreTerms formula) rest parts = length rest ≤ length parts
Fewer (MoreFactors formula) rest parts = length rest ≤ length parts
Fewer goal rest parts = length rest < length parts

module _ (text : List ℕ) where
  -- the fault is the same further on, at each depth
  abbrev pub Passes : (ℕ → FormState) → List Part → (ℕ → FormState) → List Part → Type 0
  Passes here parts there rest = (depth : ℕ) → fault_from text (here depth) parts ≡ fault_from text (there depth) rest

  -- what was read of a goal leaves this rest
  pub record Leaves (goal : Goal) (rest parts : List Part) : Type 0 where
    pub follows : Passes (state_at goal) parts AfterOperand rest
    pub ends : Ends goal rest
    pub fewer : Fewer goal rest parts

  abbrev pub Reads : Goal → List Part → Read → Type 0
  Reads goal parts (Ok found) = Leaves goal found.1 parts
  Reads goal parts (Err place) = (depth : ℕ) → fault_from text (state_at goal depth) parts ≡ Some place

  -- what is read first, and then what is made of it
  then_reads : (goal first : Goal) (deeper : ℕ → ℕ) (parts inner : List Part) (next : Formula → List Part → Read) (r : Read) →
      Passes (state_at goal) parts (λ depth. state_at first (deeper depth)) inner → Reads first inner r →
      ((formula : Formula) (rest : List Part) → Leaves first rest inner → Reads goal parts (next formula rest)) →
      Reads goal parts (r then next)
  then_reads goal first deeper parts inner next (Err place) starts reads goes = λ depth. starts depth ∙ reads (deeper depth)
  then_reads goal first deeper parts inner next (Ok found) starts leaves goes = goes found.0 found.1 leaves

  -- what is read on after it
  on_reads : (goal first again : Goal) (parts inner rest : List Part) (r : Read) →
      Passes (state_at goal) parts (state_at first) inner → Leaves first rest inner →
      ((depth : ℕ) → state_at again depth ≡ AfterOperand depth) → ((last : List Part) → Ends again last → Ends goal last) →
      ((last : List Part) → Fewer again last rest → Fewer goal last parts) → Reads again rest r → Reads goal parts r
  on_reads goal first again parts inner rest (Err place) starts leaves stands ends fewer reads = λ depth.
      starts depth ∙ leaves.follows depth ∙ ap (λ state. fault_from text state rest) (sym (stands depth)) ∙ reads depth
  on_reads goal first again parts inner rest (Ok found) starts leaves stands ends fewer reads = record {
    follows = λ depth.
        starts depth ∙ leaves.follows depth ∙ ap (λ state. fault_from text state rest) (sym (stands depth)) ∙ reads.follows depth;
    ends = ends found.1 reads.ends;
    fewer = fewer found.1 reads.fewer;
  }

  -- an operator at the start is passed
  operator_passed : (is : Operator → Bool) (token : Token) (place depth : ℕ) (parts : List Part) (found : Operator × List Part) →
      operator_by is token parts ≡ Some found →
      (fault_after (passed_after depth place token) (λ next. fault_from text next parts) ≡ fault_from text (BeforeOperand depth) found.1)
      × (parts ≡ found.1)
  operator_passed is (Sign operator) place depth parts found at =
      (elim (is operator) as (λ v. cond v (Some (operator, parts)) None ≡ Some found →
      (fault_from text (BeforeOperand depth) parts ≡ fault_from text (BeforeOperand depth) found.1) × (parts ≡ found.1)) [
        | true ↦ λ some.
            let same : parts ≡ found.1 = ap (λ (o : Option (Operator × List Part)). elim o [ Some pair ↦ pair.1 | None ↦ parts ]) some in
            (ap (fault_from text (BeforeOperand depth)) same, same)
        | false ↦ λ none. absurd (cc)
      ]) at
  operator_passed is token place depth parts found at = absurd (cc)

  operator_first : (is : Operator → Bool) (parts : List Part) (found : Operator × List Part) → operator_at is parts ≡ Some found →
      (length found.1 < length parts) × Passes AfterOperand parts BeforeOperand found.1
  unfolding fault_from
  operator_first is [] found at = absurd (cc)
  operator_first is (part ∷ parts) found at =
      let same : parts ≡ found.1 = (operator_passed is part.token part.place 0 parts found at).1 in
      let count : length parts ≡ length found.1 = ap length same in
      (omega arith, λ depth. (operator_passed is part.token part.place depth parts found at).0)

  -- what isn't an operator and closes nothing can't stand after an operand
  stops_after : (place : ℕ) (token : Token) (rest : List Part) → IsNoOperator token rest →
      fault_after (passed_after 0 place token) (λ next. fault_from text next rest) ≡ Some place
  stops_after place (Sign Plus) rest ends = absurd (cc (ends.0))
  stops_after place (Sign Minus) rest ends = absurd (cc (ends.0))
  stops_after place (Sign Times) rest ends = absurd (cc (ends.1))
  stops_after place (Sign Over) rest ends = absurd (cc (ends.1))
  stops_after place token rest ends = refl

  -- a parenthesis closes after an expression
  closed_by_reads : (parts rest : List Part) (place : ℕ) (formula : Formula) (part : Part) (token : Token) → length rest < length parts →
      ((depth : ℕ) → fault_from text (BeforeOperand depth) parts
      ≡ fault_after (passed_after (suc depth) part.place token) (λ next. fault_from text next rest)) →
      IsNoOperator token rest → Reads Factor parts (closed_by place formula part rest token)
  closed_by_reads parts rest place formula part (Sign Plus) less starts ends = absurd (cc (ends.0))
  closed_by_reads parts rest place formula part (Sign Minus) less starts ends = absurd (cc (ends.0))
  closed_by_reads parts rest place formula part (Sign Times) less starts ends = absurd (cc (ends.1))
  closed_by_reads parts rest place formula part (Sign Over) less starts ends = absurd (cc (ends.1))
  closed_by_reads parts rest place formula part Close less starts ends = record { follows = starts; ends = tt; fewer = less }
  closed_by_reads parts rest place formula part token less starts ends = starts

  closed_reads : (parts following rest : List Part) (place : ℕ) (formula : Formula) → length following < length parts →
      Passes BeforeOperand parts (λ depth. BeforeOperand (depth + 1)) following → Leaves Expression rest following →
      Reads Factor parts (closed (length text) place formula rest)
  unfolding fault_from
  closed_reads parts following [] place formula less starts leaves = λ depth.
      let one : depth + 1 ≡ suc depth = omega arith in
      starts depth ∙ leaves.follows (depth + 1) ∙ ap (λ d. fault_at_end text (AfterOperand d)) one
  closed_reads parts following (part ∷ rest) place formula less starts leaves =
      let fewer : length (part ∷ rest) < length following = leaves.fewer in
      closed_by_reads parts rest place formula part part.token (omega arith)
      (λ depth. let one : depth + 1 ≡ suc depth = omega arith in
      starts depth ∙ leaves.follows (depth + 1)
      ∙ ap (λ d. fault_after (passed_after d part.place part.token) (λ next. fault_from text next rest)) one) leaves.ends

  abbrev pub read_by : ℕ → Goal → List Part → Read
  read_by steps goal parts = read steps (length text) goal parts

  -- so many steps read each goal
  abbrev pub ReadsEach : ℕ → Type 0
  ReadsEach steps =
      (goal : Goal) (parts : List Part) → steps_for goal (length parts) ≤ steps → Begins goal parts →
      Reads goal parts (read_by steps goal parts)

  module _ (steps : ℕ) (each : ReadsEach steps) where
    -- an expression and a term
    expression_reads : (parts : List Part) → 3 * length parts + 2 ≤ steps →
        Reads Expression parts (read_by steps Term parts then λ left rest. read_by steps (MoreTerms left) rest)
    expression_reads parts enough =
        then_reads Expression Term (λ depth. depth) parts parts _ _ (λ depth. refl) (each Term parts enough tt)
        (λ left rest leaves. let less : length rest < length parts = leaves.fewer in
        on_reads Expression Term (MoreTerms left) parts parts rest _ (λ depth. refl) leaves (λ depth. refl) (λ last ends. ends)
        (λ last fewer. omega arith) (each (MoreTerms left) rest (omega arith) leaves.ends))

    term_reads : (parts : List Part) → 3 * length parts + 1 ≤ steps →
        Reads Term parts (read_by steps Factor parts then λ left rest. read_by steps (MoreFactors left) rest)
    term_reads parts enough =
        then_reads Term Factor (λ depth. depth) parts parts _ _ (λ depth. refl) (each Factor parts enough tt)
        (λ left rest leaves. let less : length rest < length parts = leaves.fewer in
        on_reads Term Factor (MoreFactors left) parts parts rest _ (λ depth. refl) leaves (λ depth. refl) (λ last ends. ends)
        (λ last fewer. omega arith) (each (MoreFactors left) rest (omega arith) tt))

    -- more terms and more factors
    more_terms_read : (left : Formula) (parts : List Part) (found : Option (Operator × List Part)) → operator_at is_sum parts ≡ found →
        3 * length parts ≤ steps → NoProduct parts →
        Reads (MoreTerms left) parts (more_of_kind (read_by steps) Term MoreTerms left parts found)
    more_terms_read left parts None none enough begins = record { follows = λ depth. refl; ends = (none, begins); fewer = omega arith }
    more_terms_read left parts (Some found) some enough begins =
        let prefix = operator_first is_sum parts found some in
        then_reads (MoreTerms left) Term (λ depth. depth) parts found.1 _ _ prefix.1 (each Term found.1 (omega arith) tt)
        (λ right rest leaves. let less : length rest < length found.1 = leaves.fewer in
        let more : Goal = MoreTerms (Operation found.0 left right) in
        on_reads (MoreTerms left) Term more parts found.1 rest _ prefix.1 leaves (λ depth. refl) (λ last ends. ends)
        (λ last fewer. omega arith) (each more rest (omega arith) leaves.ends))

    more_factors_read : (left : Formula) (parts : List Part) (found : Option (Operator × List Part)) →
        operator_at is_product parts ≡ found → 3 * length parts ≤ steps →
        Reads (MoreFactors left) parts (more_of_kind (read_by steps) Factor MoreFactors left parts found)
    more_factors_read left parts None none enough = record { follows = λ depth. refl; ends = none; fewer = omega arith }
    more_factors_read left parts (Some found) some enough =
        let prefix = operator_first is_product parts found some in
        then_reads (MoreFactors left) Factor (λ depth. depth) parts found.1 _ _ prefix.1 (each Factor found.1 (omega arith) tt)
        (λ right rest leaves. let less : length rest < length found.1 = leaves.fewer in
        let more : Goal = MoreFactors (Operation found.0 left right) in
        on_reads (MoreFactors left) Factor more parts found.1 rest _ prefix.1 leaves (λ depth. refl) (λ last ends. ends)
        (λ last fewer. omega arith) (each more rest (omega arith) tt))

    -- a factor, by its first token
    factor_reads : (parts following : List Part) (place : ℕ) (token : Token) → length following < length parts → 3 * length following + 3 ≤ steps →
        ((depth : ℕ) → fault_from text (BeforeOperand depth) parts
        ≡ fault_after (passed_before depth place token) (λ next. fault_from text next following)) →
        Reads Factor parts (factor_by (read_by steps) (length text) place following token)
    factor_reads parts following place (Number z) less enough starts = record { follows = starts; ends = tt; fewer = less }
    factor_reads parts following place (Name name) less enough starts = record { follows = starts; ends = tt; fewer = less }
    factor_reads parts following place (Sign Minus) less enough starts =
        then_reads Factor Factor (λ depth. depth) parts following _ _ starts (each Factor following (omega arith) tt)
        (λ formula rest leaves. record {
          follows = λ depth. starts depth ∙ leaves.follows depth;
          ends = tt;
          fewer = omega (arith, leaves.fewer);
        })
    factor_reads parts following place Open less enough starts =
        then_reads Factor Expression (λ depth. depth + 1) parts following _ _ starts (each Expression following (omega arith) tt)
        (λ formula rest leaves. closed_reads parts following rest place formula less starts leaves)
    factor_reads parts following place (Sign Plus) less enough starts = starts
    factor_reads parts following place (Sign Times) less enough starts = starts
    factor_reads parts following place (Sign Over) less enough starts = starts
    factor_reads parts following place Close less enough starts = starts
    factor_reads parts following place (Broken at) less enough starts = starts

    factor_of_reads : (parts : List Part) → 3 * length parts ≤ steps → Reads Factor parts (factor_of (read_by steps) (length text) parts)
    unfolding fault_from
    factor_of_reads [] enough = λ depth. refl
    factor_of_reads (part ∷ following) enough =
        factor_reads (part ∷ following) following part.place part.token (omega arith) (omega arith) (λ depth. refl)

  reads : (steps : ℕ) → ReadsEach steps
  unfolding read
  reads zero Expression parts enough begins = absurd (omega (arith, enough))
  reads zero Term parts enough begins = absurd (omega (arith, enough))
  reads zero goal parts enough begins = absurd (omega (arith, enough))
  reads (suc steps) Expression parts enough begins = expression_reads steps (reads steps) parts (omega arith)
  reads (suc steps) Term parts enough begins = term_reads steps (reads steps) parts (omega arith)
  reads (suc steps) Factor parts enough begins = factor_of_reads steps (reads steps) parts (omega arith)
  reads (suc steps) (MoreTerms left) parts enough begins =
      more_terms_read steps (reads steps) left parts (operator_at is_sum parts) refl (omega arith) begins
  reads (suc steps) (MoreFactors left) parts enough begins =
      more_factors_read steps (reads steps) left parts (operator_at is_product parts) refl (omega arith)

-- the fault of what was read
abbrev pub fault_of : Result Formula ℕ → Option ℕ
fault_of (Ok formula) = None
fault_of (Err place) = Some place

fault_by_end : (text : List ℕ) (formula : Formula) (blank : Bool) →
    cond blank (Some (length text)) None ≡ fault_of (cond blank (Err (length text)) (Ok formula))
fault_by_end text formula true = refl
fault_by_end text formula false = refl

fault_of_whole : (text : List ℕ) (parts : List Part) (r : Read) → Reads text Expression parts r →
    fault_from text (BeforeOperand 0) parts ≡ fault_of (whole text r)
unfolding fault_from
fault_of_whole text parts (Err place) reads = reads 0
fault_of_whole text parts (Ok (formula, [])) leaves = leaves.follows 0 ∙ fault_by_end text formula (ends_blank text)
fault_of_whole text parts (Ok (formula, part ∷ rest)) leaves =
    leaves.follows 0 ∙ stops_after text part.place part.token rest leaves.ends

-- the fault of a text is that of its form
fault_of_text : (text : List ℕ) → form_fault text (parts_of text) ≡ fault_of (formula_of text)
unfolding formula_of
fault_of_text text =
    let parts : List Part = parts_of text in
    elim (begins_blank text) as (λ v. cond v (Some 0) (fault_from text (BeforeOperand 0) parts)
    ≡ fault_of (cond v (Err 0) (whole text (read_of text parts)))) [
      | true ↦ refl
      | false ↦ fault_of_whole text parts (read_of text parts) (reads text (3 * length parts + 3) Expression parts (omega arith) tt)
    ]

-- where there is none, and where there is one
formed_by : (text : List ℕ) (r : Result Formula ℕ) → None ≡ fault_of r → parts_by text r ≡ Ok (parts_of text)
formed_by text (Ok formula) none = refl
formed_by text (Err place) none = absurd (cc)

not_formed_by : (text : List ℕ) (place : ℕ) (r : Result Formula ℕ) → Some place ≡ fault_of r → parts_by text r ≡ Err (BadFormula place)
not_formed_by text place (Ok formula) some = absurd (cc)
not_formed_by text place (Err at) some = let same : at ≡ place = cc in ap (λ p. Err (BadFormula p)) same

pub formed : (text : List ℕ) → None ≡ form_fault text (parts_of text) → parts_formed text ≡ Ok (parts_of text)
formed text none = formed_by text (formula_of text) (none ∙ fault_of_text text)

pub not_formed : (text : List ℕ) (place : ℕ) → Some place ≡ form_fault text (parts_of text) →
    parts_formed text ≡ Err (BadFormula place)
not_formed text place some = not_formed_by text place (formula_of text) (some ∙ fault_of_text text)
