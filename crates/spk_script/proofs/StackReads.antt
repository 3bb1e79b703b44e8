-- A formula that is read by the grammar comes to its value part by part.
use Rattle.std.proofs.Common.{◌≡◌, ℕ, zero, suc, ◌+◌, ◌*◌, Bool, true, false, if◌then◌else◌, ◌||◌, not, List, [], ◌∷◌, length, Option, Some, None, Result, Ok, Err, refl, sym, ap, ◌∙◌, subst, add-zero}
use Rattle.std.specs.List.{All}
use Rattle.spk_script.specs.declared.fault.LineFault.{LineFault}
use Rattle.spk_script.specs.declared.formula.part.Operator.{Operator}
use Rattle.spk_script.specs.declared.formula.part.Operator.TheVariants.{Plus, Minus, Times, Over}
use Rattle.spk_script.specs.declared.formula.part.Token.{Token}
use Rattle.spk_script.specs.declared.formula.part.Token.TheVariants.{Number, Name, Open, Close, Sign, Broken}
use Rattle.spk_script.specs.declared.formula.part.Part.{Part}
use Rattle.spk_script.specs.declared.formula.stack.Frame.{Frame}
use Rattle.spk_script.specs.declared.formula.stack.Frame.TheVariants.{Minus as Negation, Parenthesis, Pending}
use Rattle.spk_num.specs.Results.{◌>>=◌, IsPlainOrMemory}
use Rattle.spk_script.specs.Faults.{is_memory}
use Rattle.spk_script.specs.Formulas.{Formula, Amount, Variable as Named, Negative, Enclosed, Operation, Goal, Expression, Term, Factor, MoreTerms, MoreFactors, Read, ◌then◌, is_sum, is_product, operator_by, operator_at, closed, closed_by, factor_by, factor_of, more_of_kind, read, begins_blank, ends_blank, whole, parts_of, read_of, formula_of}
use Rattle.spk_script.specs.Values.{Naming, Evaluated, value_of, value_of_read}
use Rattle.spk_script.specs.Evaluation.{IsSmall, is_product_sign, started, run}
use Rattle.spk_script.specs.Forms.{parts_by, parts_formed}
use Rattle.spk_script.proofs.Following.{then_same, then_ok}
use Rattle.spk_script.proofs.Small.{parts_small}
use Rattle.spk_script.proofs.Steps.{IsOpen, nothing_open, parenthesis_open, sum_open, product_next, nothing_after, after, wanted, value, takes_number, takes_name, takes_minus, takes_parenthesis, takes_operation}

-- what was read before something else was
record IsReadBefore (first : Read) (next : Formula → List Part → Read) (formula : Formula) (rest : List Part) : Type 0 where
  inner : Formula
  left : List Part
  read_first : first ≡ Ok (inner, left)
  read_next : next inner left ≡ Ok (formula, rest)

read_before : (first : Read) (next : Formula → List Part → Read) (formula : Formula) (rest : List Part) → first then
    next ≡ Ok (formula, rest) → IsReadBefore first next formula rest
read_before (Ok found) next formula rest is = record { inner = found.0; left = found.1; read_first = refl; read_next = is }
read_before (Err place) next formula rest is = absurd (cc)

-- a frame at which an expression begins
abbrev BeginsExpression : List Frame → Type 0
BeginsExpression [] = Unit {0}
BeginsExpression (Parenthesis ∷ frames) = Unit {0}
BeginsExpression frames = ⊥

expression_open : (before_product : Bool) (frames : List Frame) → BeginsExpression frames → IsOpen before_product frames
expression_open before_product [] begins = nothing_open before_product
expression_open before_product (Negation ∷ frames) begins = absurd begins
expression_open before_product (Parenthesis ∷ frames) begins = parenthesis_open before_product frames
expression_open before_product (Pending operator left ∷ frames) begins = absurd begins

-- the operator that stands at the start
record IsStart (is : Operator → Bool) (parts : List Part) (operator : Operator) (rest : List Part) : Type 0 where
  part : Part
  prefix : parts ≡ part ∷ rest
  sign : part.token ≡ Sign operator
  kind : is operator ≡ true

kind_of : (is : Operator → Bool) (operator : Operator) (parts : List Part) (b : Bool) (found : Operator × List Part) → is operator ≡ b →
    (if b then Some (operator, parts) else None) ≡ Some found →
    (operator ≡ found.0) × (parts ≡ found.1) × (is operator ≡ true)
kind_of is operator parts true found kind at =
    let here : Operator × List Part = (operator, parts) in
    let same : here ≡ found = cc in
    (ap (λ f. f.0) same, ap (λ f. f.1) same, kind)
kind_of is operator parts false found kind at = absurd (cc)

first_by : (is : Operator → Bool) (part : Part) (parts : List Part) (token : Token) (found : Operator × List Part) → part.token ≡ token →
    operator_by is token parts ≡ Some found →
    IsStart is (part ∷ parts) found.0 found.1
first_by is part parts (Sign operator) found sign at =
    let same = kind_of is operator parts (is operator) found refl at in
    record { part = part; prefix = ap (λ ps. part ∷ ps) same.1; sign = sign ∙ ap Sign same.0; kind = ap is (sym same.0) ∙ same.2 }
first_by is part parts (Number z) found sign at = absurd (cc)
first_by is part parts (Name name) found sign at = absurd (cc)
first_by is part parts Open found sign at = absurd (cc)
first_by is part parts Close found sign at = absurd (cc)
first_by is part parts (Broken place) found sign at = absurd (cc)

operator_at_start : (is : Operator → Bool) (parts : List Part) (found : Operator × List Part) → operator_at is parts ≡ Some found →
    IsStart is parts found.0 found.1
operator_at_start is [] found at = absurd (cc)
operator_at_start is (part ∷ parts) found at = first_by is part parts part.token found refl at

-- after a term no sign of a product stands
no_kind : (b : Bool) (found : Operator × List Part) → (if b then Some found else None) ≡ None → b ≡ false
no_kind true found at = absurd (cc)
no_kind false found at = refl

no_product_by : (token : Token) (parts : List Part) → operator_by is_product token parts ≡ None → is_product_sign token ≡ false
no_product_by (Sign operator) parts at = no_kind (is_product operator) (operator, parts) at
no_product_by (Number z) parts at = refl
no_product_by (Name name) parts at = refl
no_product_by Open parts at = refl
no_product_by Close parts at = refl
no_product_by (Broken place) parts at = refl

no_product : (parts : List Part) → operator_at is_product parts ≡ None → product_next parts ≡ false
no_product [] at = refl
no_product (part ∷ parts) at = no_product_by part.token parts at

-- what was read, and what stands after it
abbrev found : Formula → List Part → Read
found formula rest = Ok (formula, rest)

moved : (P : Formula → List Part → Type 0) (formula other : Formula) (parts rest : List Part) → found formula parts ≡ found other rest →
    P formula parts → P other rest
moved P formula other parts rest is here =
    let one : Formula × List Part = (formula, parts) in
    let two : Formula × List Part = (other, rest) in
    let same : one ≡ two = cc in
    subst (λ (pair : Formula × List Part). P pair.0 pair.1) same here

factors_end_by : (more : Goal → List Part → Read) →
    ((left : Formula) (parts : List Part) (formula : Formula) (rest : List Part) → more (MoreFactors left) parts ≡ found formula rest →
    product_next rest ≡ false) →
    (left : Formula) (parts : List Part) (formula : Formula) (rest : List Part) (prefix : Option (Operator × List Part)) →
    operator_at is_product parts ≡ prefix →
    more_of_kind more Factor MoreFactors left parts prefix ≡ found formula rest → product_next rest ≡ false
factors_end_by more ends left parts formula rest None prefix is =
    moved (λ _ after. product_next after ≡ false) left formula parts rest is (no_product parts prefix)
factors_end_by more ends left parts formula rest (Some at) prefix is =
    let before = read_before (more Factor at.1) (λ right following. more (MoreFactors (Operation at.0 left right)) following) formula rest is in
    ends (Operation at.0 left before.inner) before.left formula rest before.read_next

factors_end : (steps end : ℕ) (left : Formula) (parts : List Part) (formula : Formula) (rest : List Part) →
    read steps end (MoreFactors left) parts ≡ found formula rest → product_next rest ≡ false
unfolding read
factors_end zero end left parts formula rest is = absurd (cc)
factors_end (suc steps) end left parts formula rest is =
    factors_end_by (read steps end) (factors_end steps end) left parts formula rest (operator_at is_product parts) refl is

term_ends : (steps end : ℕ) (parts : List Part) (formula : Formula) (rest : List Part) → read steps end Term parts ≡ found formula rest →
    product_next rest ≡ false
unfolding read
term_ends zero end parts formula rest is = absurd (cc)
term_ends (suc steps) end parts formula rest is =
    let before = read_before (read steps end Factor parts) (λ left following. read steps end (MoreFactors left) following) formula rest is in
    factors_end steps end before.inner before.left formula rest before.read_next

sum_is_no_product : (operator : Operator) → is_sum operator ≡ true → is_product operator ≡ false
sum_is_no_product Plus sum = refl
sum_is_no_product Minus sum = refl
sum_is_no_product Times sum = absurd (cc)
sum_is_no_product Over sum = absurd (cc)

-- when an operator is finished
no_product_follows : (product next : Bool) → next ≡ false → (product || not next) ≡ true
no_product_follows true next none = refl
no_product_follows false next none = rw none refl

product_finishes : (product next : Bool) → product ≡ true → (product || not next) ≡ true
product_finishes product next is = rw is refl

-- a parenthesis that is closed
closing_by : (place : ℕ) (inner : Formula) (last : Part) (following : List Part) (token : Token) (formula : Formula) (rest : List Part) →
    last.token ≡ token →
    closed_by place inner last following token ≡ found formula rest →
    (last.token ≡ Close) × (found (Enclosed place inner) following ≡ found formula rest)
closing_by place inner last following Close formula rest ends is = (ends, is)
closing_by place inner last following (Number z) formula rest ends is = absurd (cc)
closing_by place inner last following (Name name) formula rest ends is = absurd (cc)
closing_by place inner last following Open formula rest ends is = absurd (cc)
closing_by place inner last following (Sign operator) formula rest ends is = absurd (cc)
closing_by place inner last following (Broken at) formula rest ends is = absurd (cc)

if_blank : (text : List ℕ) (blank : Bool) (formula other : Formula) → (if blank then Err (length text) else Ok formula) ≡ Ok other →
    formula ≡ other
if_blank text true formula other is = absurd (cc)
if_blank text false formula other is = cc

whole_by : (text : List ℕ) (formula : Formula) (rest : List Part) (other : Formula) → whole text (Ok (formula, rest)) ≡ Ok other →
    found formula rest ≡ found other []
whole_by text formula [] other is = ap (λ f. found f []) (if_blank text (ends_blank text) formula other is)
whole_by text formula (part ∷ rest) other is = absurd (cc)

module _ (naming : Naming) (depth : ℕ) where
  -- the parts that are read come to the value of what was read of them
  abbrev Agrees : Goal → List Part → Formula → List Part → Type 0
  Agrees Expression parts formula rest = (frames : List Frame) (operand_count : ℕ) → BeginsExpression frames →
      wanted naming depth frames operand_count parts ≡ value naming depth frames operand_count formula >>= after naming depth frames rest
  Agrees Term parts formula rest = (frames : List Frame) (operand_count : ℕ) → IsOpen true frames →
      wanted naming depth frames operand_count parts ≡ value naming depth frames operand_count formula >>= after naming depth frames rest
  Agrees Factor parts formula rest = (frames : List Frame) (operand_count : ℕ) →
      wanted naming depth frames operand_count parts ≡ value naming depth frames operand_count formula >>= after naming depth frames rest
  Agrees (MoreTerms left) parts formula rest = (frames : List Frame) (operand_count : ℕ) → BeginsExpression frames →
      value naming depth frames operand_count left >>= after naming depth frames parts ≡ value naming depth frames operand_count formula >>= after naming
      depth frames rest
  Agrees (MoreFactors left) parts formula rest = (frames : List Frame) (operand_count : ℕ) → IsOpen true frames →
      value naming depth frames operand_count left >>= after naming depth frames parts ≡ value naming depth frames operand_count formula >>= after naming
      depth frames rest

  abbrev AllAgree : (Goal → List Part → Read) → Type 0
  AllAgree more = (goal : Goal) (parts : List Part) (formula : Formula) (rest : List Part) → more goal parts ≡ found formula rest →
      Agrees goal parts formula rest

  expression_agrees : (more : Goal → List Part → Read) → AllAgree more → (parts : List Part) (formula : Formula) (rest : List Part) →
      more Term parts then (λ left following. more (MoreTerms left) following) ≡ found formula rest → Agrees Expression parts formula rest
  expression_agrees more agree parts formula rest is frames operand_count begins =
      let before = read_before (more Term parts) (λ left following. more (MoreTerms left) following) formula rest is in
      agree Term parts before.inner before.left before.read_first frames operand_count (expression_open true frames begins)
      ∙ agree (MoreTerms before.inner) before.left formula rest before.read_next frames operand_count begins

  term_agrees : (more : Goal → List Part → Read) → AllAgree more → (parts : List Part) (formula : Formula) (rest : List Part) →
      more Factor parts then (λ left following. more (MoreFactors left) following) ≡ found formula rest → Agrees Term parts formula rest
  term_agrees more agree parts formula rest is frames operand_count level =
      let before = read_before (more Factor parts) (λ left following. more (MoreFactors left) following) formula rest is in
      agree Factor parts before.inner before.left before.read_first frames operand_count
      ∙ agree (MoreFactors before.inner) before.left formula rest before.read_next frames operand_count level

  -- more terms or factors
  terms_agree : (more : Goal → List Part → Read) → AllAgree more →
      ((parts : List Part) (formula : Formula) (rest : List Part) → more Term parts ≡ found formula rest → product_next rest ≡ false) →
      (left : Formula) (parts : List Part) (formula : Formula) (rest : List Part) (prefix : Option (Operator × List Part)) →
      operator_at is_sum parts ≡ prefix →
      more_of_kind more Term MoreTerms left parts prefix ≡ found formula rest → Agrees (MoreTerms left) parts formula rest
  terms_agree more agree ends left parts formula rest None prefix is frames operand_count begins =
      moved (λ f following. value naming depth frames operand_count left >>= after naming depth frames parts ≡ value naming depth frames operand_count
      f >>= after naming depth frames following) left formula parts rest is refl
  terms_agree more agree ends left parts formula rest (Some at) prefix is frames operand_count begins =
      let before = read_before (more Term at.1) (λ right following. more (MoreTerms (Operation at.0 left right)) following) formula rest is in
      let sign = operator_at_start is_sum parts at prefix in
      let last : product_next before.left ≡ false = ends at.1 before.inner before.left before.read_first in
      ap (λ ps. value naming depth frames operand_count left >>= after naming depth frames ps) sign.prefix
      ∙ takes_operation naming depth frames operand_count at.0 left before.inner sign.part at.1 before.left sign.sign
      (expression_open (is_product at.0) frames begins)
      (λ z. no_product_follows (is_product at.0) (product_next before.left) last)
      (λ z more_operands. agree Term at.1 before.inner before.left before.read_first (Pending at.0 z ∷ frames) more_operands
      (sum_open at.0 z frames (sum_is_no_product at.0 sign.kind)))
      ∙ agree (MoreTerms (Operation at.0 left before.inner)) before.left formula rest before.read_next frames operand_count begins

  factors_agree : (more : Goal → List Part → Read) → AllAgree more →
      (left : Formula) (parts : List Part) (formula : Formula) (rest : List Part) (prefix : Option (Operator × List Part)) →
      operator_at is_product parts ≡ prefix →
      more_of_kind more Factor MoreFactors left parts prefix ≡ found formula rest → Agrees (MoreFactors left) parts formula rest
  factors_agree more agree left parts formula rest None prefix is frames operand_count level =
      moved (λ f following. value naming depth frames operand_count left >>= after naming depth frames parts ≡ value naming depth frames operand_count
      f >>= after naming depth frames following) left formula parts rest is refl
  factors_agree more agree left parts formula rest (Some at) prefix is frames operand_count level =
      let before = read_before (more Factor at.1) (λ right following. more (MoreFactors (Operation at.0 left right)) following) formula rest is in
      let sign = operator_at_start is_product parts at prefix in
      ap (λ ps. value naming depth frames operand_count left >>= after naming depth frames ps) sign.prefix
      ∙ takes_operation naming depth frames operand_count at.0 left before.inner sign.part at.1 before.left sign.sign
      (subst (λ b. IsOpen b frames) (sym sign.kind) level)
      (λ z. product_finishes (is_product at.0) (product_next before.left) sign.kind)
      (λ z more_operands. agree Factor at.1 before.inner before.left before.read_first (Pending at.0 z ∷ frames) more_operands)
      ∙ agree (MoreFactors (Operation at.0 left before.inner)) before.left formula rest before.read_next frames operand_count level

  -- a factor by its first part
  closed_agrees : (frames : List Frame) (operand_count : ℕ) (inner : Formula) (following : List Part) (part : Part) (parts : List Part)
      (formula : Formula) (rest : List Part) → part.token ≡ Open →
      wanted naming depth (Parenthesis ∷ frames) operand_count parts ≡ value naming depth (Parenthesis ∷ frames) operand_count inner >>= after naming depth
      (Parenthesis ∷ frames) following →
      (end : ℕ) → closed end part.place inner following ≡ found formula rest →
      wanted naming depth frames operand_count (part ∷ parts) ≡ value naming depth frames operand_count formula >>= after naming depth frames rest
  closed_agrees frames operand_count inner [] part parts formula rest opens inside end is = absurd (cc)
  closed_agrees frames operand_count inner (last ∷ following) part parts formula rest opens inside end is =
      let closing = closing_by part.place inner last following last.token formula rest refl is in
      moved (λ f after_it. wanted naming depth frames operand_count (part ∷ parts) ≡ value naming depth frames operand_count f >>= after naming depth frames
      after_it) (Enclosed part.place inner) formula following rest closing.1
      (takes_parenthesis naming depth frames operand_count part parts inner last following opens closing.0 inside)

  factor_agrees : (more : Goal → List Part → Read) → AllAgree more →
      (end : ℕ) (part : Part) (parts : List Part) (formula : Formula) (rest : List Part) (token : Token) → part.token ≡ token →
      factor_by more end part.place parts token ≡ found formula rest → Agrees Factor (part ∷ parts) formula rest
  factor_agrees more agree end part parts formula rest (Number z) begins is frames operand_count =
      moved (λ f following. wanted naming depth frames operand_count (part ∷ parts) ≡ value naming depth frames operand_count f >>= after naming depth frames
      following) (Amount part.place z.millionths) formula parts rest is
      (takes_number naming depth frames operand_count part parts z begins)
  factor_agrees more agree end part parts formula rest (Name name) begins is frames operand_count =
      moved (λ f following. wanted naming depth frames operand_count (part ∷ parts) ≡ value naming depth frames operand_count f >>= after naming depth frames
      following) (Named part.place name) formula parts rest is
      (takes_name naming depth frames operand_count part parts name begins)
  factor_agrees more agree end part parts formula rest Open begins is frames operand_count =
      let before = read_before (more Expression parts) (λ inner following. closed end part.place inner following) formula rest is in
      closed_agrees frames operand_count before.inner before.left part parts formula rest begins
      (agree Expression parts before.inner before.left before.read_first (Parenthesis ∷ frames) operand_count tt) end before.read_next
  factor_agrees more agree end part parts formula rest Close begins is frames operand_count = absurd (cc)
  factor_agrees more agree end part parts formula rest (Broken place) begins is frames operand_count = absurd (cc)
  factor_agrees more agree end part parts formula rest (Sign Plus) begins is frames operand_count = absurd (cc)
  factor_agrees more agree end part parts formula rest (Sign Times) begins is frames operand_count = absurd (cc)
  factor_agrees more agree end part parts formula rest (Sign Over) begins is frames operand_count = absurd (cc)
  factor_agrees more agree end part parts formula rest (Sign Minus) begins is frames operand_count =
      let before = read_before (more Factor parts) (λ inner following. found (Negative part.place inner) following) formula rest is in
      moved (λ f following. wanted naming depth frames operand_count (part ∷ parts) ≡ value naming depth frames operand_count f >>= after naming depth frames
      following) (Negative part.place before.inner) formula before.left rest before.read_next
      (takes_minus naming depth frames operand_count part parts before.inner before.left begins
      (agree Factor parts before.inner before.left before.read_first (Negation ∷ frames) operand_count))

  factor_of_agrees : (more : Goal → List Part → Read) → AllAgree more →
      (end : ℕ) (parts : List Part) (formula : Formula) (rest : List Part) → factor_of more end parts ≡ found formula rest →
      Agrees Factor parts formula rest
  factor_of_agrees more agree end [] formula rest is frames operand_count = absurd (cc)
  factor_of_agrees more agree end (part ∷ parts) formula rest is frames operand_count =
      factor_agrees more agree end part parts formula rest part.token refl is frames operand_count

  pub read_agrees : (steps end : ℕ) (goal : Goal) (parts : List Part) (formula : Formula) (rest : List Part) →
      read steps end goal parts ≡ found formula rest → Agrees goal parts formula rest
  unfolding read
  read_agrees zero end goal parts formula rest is = absurd (cc)
  read_agrees (suc steps) end Expression parts formula rest is =
      expression_agrees (read steps end) (read_agrees steps end) parts formula rest is
  read_agrees (suc steps) end Term parts formula rest is = term_agrees (read steps end) (read_agrees steps end) parts formula rest is
  read_agrees (suc steps) end Factor parts formula rest is =
      factor_of_agrees (read steps end) (read_agrees steps end) end parts formula rest is
  read_agrees (suc steps) end (MoreTerms left) parts formula rest is =
      terms_agree (read steps end) (read_agrees steps end) (term_ends steps end) left parts formula rest (operator_at is_sum parts) refl
      is
  read_agrees (suc steps) end (MoreFactors left) parts formula rest is =
      factors_agree (read steps end) (read_agrees steps end) left parts formula rest (operator_at is_product parts) refl is

-- a whole formula
whole_is : (text : List ℕ) (all : Read) (formula : Formula) → whole text all ≡ Ok formula → all ≡ found formula []
whole_is text (Ok all) formula is = whole_by text all.0 all.1 formula is
whole_is text (Err place) formula is = absurd (cc)

formula_is : (text : List ℕ) (blank : Bool) (formula : Formula) →
    (if blank then Err 0 else whole text (read_of text (parts_of text))) ≡ Ok formula → read_of text (parts_of text) ≡ found formula []
formula_is text true formula is = absurd (cc)
formula_is text false formula is = whole_is text (read_of text (parts_of text)) formula is

-- the parts of a formula come to its value
pub formula_runs : (naming : Naming) (depth operand_count : ℕ) (text : List ℕ) (formula : Formula) → formula_of text ≡ Ok formula →
    run naming depth (started operand_count) (parts_of text) ≡ value_of naming depth operand_count formula
unfolding formula_of
formula_runs naming depth operand_count text formula is =
    read_agrees naming depth (3 * length (parts_of text) + 3) (length text) Expression (parts_of text) formula []
    (formula_is text (begins_blank text) formula is) [] operand_count tt
    ∙ then_same (value naming depth [] operand_count formula) (value_of naming depth operand_count formula) (after naming depth [] []) (λ a. Ok a)
    (ap (λ deep. value_of naming deep operand_count formula) (add-zero depth)) (nothing_after naming depth)
    ∙ then_ok (value_of naming depth operand_count formula)

parts_run_by : (naming : Naming) (depth operand_count : ℕ) (text : List ℕ) (formed : Result Formula ℕ) (parts : List Part) →
    formula_of text ≡ formed → parts_by text formed ≡ Ok parts →
    run naming depth (started operand_count) parts ≡ value_of_read naming depth operand_count formed
parts_run_by naming depth operand_count text (Ok formula) parts formed is =
    let same : parts_of text ≡ parts = cc in
    ap (run naming depth (started operand_count)) (sym same) ∙ formula_runs naming depth operand_count text formula formed
parts_run_by naming depth operand_count text (Err place) parts formed is = absurd (cc)

parts_fault_by : (naming : Naming) (depth operand_count : ℕ) (text : List ℕ) (formed : Result Formula ℕ) (fault : LineFault) →
    parts_by text formed ≡ Err fault → value_of_read naming depth operand_count formed ≡ Err fault
parts_fault_by naming depth operand_count text (Ok formula) fault is = absurd (cc)
parts_fault_by naming depth operand_count text (Err place) fault is = cc

parts_small_by : (text : List ℕ) (formed : Result Formula ℕ) (parts : List Part) → parts_by text formed ≡ Ok parts →
    All (λ part. IsSmall part.token) parts
parts_small_by text (Ok formula) parts is =
    let same : parts_of text ≡ parts = cc in
    subst (λ (ps : List Part). All (λ part. IsSmall part.token) ps) same (parts_small text)
parts_small_by text (Err place) parts is = absurd (cc)

-- the parts of a text, if it is a formula
pub parts_run : (naming : Naming) (depth operand_count : ℕ) (text : List ℕ) (parts : List Part) → parts_formed text ≡ Ok parts →
    run naming depth (started operand_count) parts ≡ value_of_read naming depth operand_count (formula_of text)
parts_run naming depth operand_count text parts is = parts_run_by naming depth operand_count text (formula_of text) parts refl is

pub parts_fault : (naming : Naming) (depth operand_count : ℕ) (text : List ℕ) (fault : LineFault) → parts_formed text ≡ Err fault →
    value_of_read naming depth operand_count (formula_of text) ≡ Err fault
parts_fault naming depth operand_count text fault is = parts_fault_by naming depth operand_count text (formula_of text) fault is

pub parts_formed_small : (text : List ℕ) (parts : List Part) → parts_formed text ≡ Ok parts → All (λ part. IsSmall part.token) parts
parts_formed_small text parts is = parts_small_by text (formula_of text) parts is

-- the same where the text is cut into parts by a function that may lack memory
pub text_fault : (naming : Naming) (depth operand_count : ℕ) (bytes text : List ℕ) (fault : LineFault) → bytes ≡ text →
    (is_memory fault ≡ false → parts_formed bytes ≡ Err fault) →
    IsPlainOrMemory is_memory (value_of_read naming depth operand_count (formula_of text)) (Err fault)
unfolding IsPlainOrMemory
text_fault naming depth operand_count bytes text fault same formed known =
    parts_fault naming depth operand_count text fault (ap parts_formed (sym same) ∙ formed known)

pub text_value_is : (naming : Naming) (depth operand_count : ℕ) (bytes text : List ℕ) (parts others : List Part) (result : Result Evaluated LineFault) →
    bytes ≡ text → parts_formed bytes ≡ Ok parts → others ≡ parts →
    IsPlainOrMemory is_memory (run naming depth (started operand_count) others) result → IsPlainOrMemory is_memory (value_of_read naming depth operand_count (formula_of text)) result
text_value_is naming depth operand_count bytes text parts others result same formed are answers =
    subst (λ plain. IsPlainOrMemory is_memory plain result) (ap (run naming depth (started operand_count)) are
    ∙ parts_run naming depth operand_count text parts (ap parts_formed (sym same) ∙ formed)) answers
