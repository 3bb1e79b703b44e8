-- Single steps of the evaluation of a formula.
use Rattle.std.proofs.Common.{◌≡◌, ℕ, ◌+◌, Bool, true, false, if◌then◌else◌, ◌&&◌, List, [], ◌∷◌, Some, None, Ok, Err, ℤ, neg_ℤ, refl, sym, ap, ◌∙◌, arith, Result}
use Rattle.std.specs.Prelude.{nat_lt}
use Rattle.spk_num.specs.declared.decimal.Dec.{Dec}
use Rattle.spk_script.specs.declared.fault.LineFault.{LineFault}
use Rattle.spk_script.specs.declared.fault.LineFault.TheVariants.{BadFormula}
use Rattle.spk_script.specs.declared.formula.part.Operator.{Operator}
use Rattle.spk_script.specs.declared.formula.part.Operator.TheVariants.{Minus}
use Rattle.spk_script.specs.declared.formula.part.Token.TheVariants.{Number, Name, Open, Close, Sign}
use Rattle.spk_script.specs.declared.formula.part.Part.{Part}
use Rattle.spk_script.specs.declared.formula.stack.Frame.{Frame}
use Rattle.spk_script.specs.declared.formula.stack.Frame.TheVariants.{Minus as Negation, Parenthesis, Pending}
use Rattle.spk_script.specs.declared.formula.progress.Progress.{Progress}
use Rattle.spk_num.specs.Results.{◌>>=◌}
use Rattle.spk_script.specs.Formulas.{Formula, Amount, Variable as Named, Negative, Enclosed, Operation, is_product}
use Rattle.spk_script.specs.Values.{Naming, Evaluated, at_reference, value_of, result_of}
use Rattle.spk_script.specs.Frames.{depth_of, is_finished, applied, settled}
use Rattle.spk_script.specs.Evaluation.{is_product_sign, after_operand, after_operand_by, step, finished, run, operand_by}
use Rattle.spk_script.proofs.Following.{then_same, then_then}
use Rattle.spk_script.proofs.Frames.{settled_first}

-- an evaluation where a number is wanted, and one after a number
abbrev pub out : List Frame → ℕ → Progress
out frames operand_count = record { stack = frames; operand_count = operand_count; value = None }

abbrev pub progress_at : List Frame → Evaluated → Progress
progress_at frames a = record { stack = frames; operand_count = a.operand_count; value = Some a.value }

-- the sign of a product comes next
abbrev pub product_next : List Part → Bool
product_next [] = false
product_next (part ∷ parts) = is_product_sign part.token

-- nothing that stands open is finished
abbrev pub IsOpen : Bool → List Frame → Type 0
IsOpen before_product frames = (z : ℤ) → settled before_product frames z ≡ Ok (frames, z)

pub nothing_open : (before_product : Bool) → IsOpen before_product []
unfolding settled
nothing_open before_product z = refl

pub parenthesis_open : (before_product : Bool) (frames : List Frame) → IsOpen before_product (Parenthesis ∷ frames)
unfolding settled
parenthesis_open before_product frames z = refl

pub sum_open : (operator : Operator) (left : ℤ) (frames : List Frame) → is_product operator ≡ false →
    IsOpen true (Pending operator left ∷ frames)
unfolding settled
sum_open operator left frames sum z = rw sum refl

-- the value with the other sign
abbrev negated : Evaluated → Result Evaluated LineFault
negated a = Ok (record a { value = neg_ℤ a.value })

-- where a test fails, nothing follows
if_then : {A B C : Type 0} (b : Bool) (one : Result A LineFault) (other : Result B LineFault) (fault : LineFault) (next : A → Result C LineFault) (after : B → Result C LineFault) →
    one >>= next ≡ other >>= after → (if b then one else Err fault) >>= next ≡ (if b then other else Err fault) >>= after
unfolding ◌>>=◌
if_then true one other fault next after same = same
if_then false one other fault next after same = refl

-- the depth after a minus or a parenthesis
one_deeper : (depth more : ℕ) → depth + (1 + more) ≡ depth + more + 1
one_deeper depth more = omega arith

module _ (naming : Naming) (depth : ℕ) where
  -- what comes of parts after a number
  abbrev pub after : List Frame → List Part → Evaluated → Result Evaluated LineFault
  after frames parts a = run naming depth (progress_at frames a) parts

  -- what comes of parts where a number is wanted
  abbrev pub wanted : List Frame → ℕ → List Part → Result Evaluated LineFault
  wanted frames operand_count parts = run naming depth (out frames operand_count) parts

  -- after the last part
  pub nothing_after : (a : Evaluated) → after [] [] a ≡ Ok a
  unfolding run settled ◌>>=◌
  nothing_after a = refl

  -- what a number finishes is applied to it first
  pub finishes : (frame : Frame) (frames : List Frame) (parts : List Part) (a : Evaluated) → is_finished (product_next parts) frame ≡ true →
      after (frame ∷ frames) parts a ≡ applied frame a.value >>= λ z. after frames parts (record a { value = z })
  unfolding run step
  finishes frame frames [] a is = settled_first false frame frames a.value (λ s. Ok (record { value = s.1; operand_count = a.operand_count })) is
  finishes frame frames (part ∷ parts) a is =
      ap (λ stepped. stepped >>= λ next. run naming depth next parts)
      (settled_first (is_product_sign part.token) frame frames a.value (λ s. after_operand_by part.place a.operand_count part.token s.0 s.1) is)
      ∙ then_then (applied frame a.value) (λ y. after_operand part.place (progress_at frames a) y part.token) (λ next. run naming depth next parts)

  -- an operator after a number
  pub opens_operator : (frames : List Frame) (part : Part) (parts : List Part) (operator : Operator) (a : Evaluated) →
      part.token ≡ Sign operator → IsOpen (is_product operator) frames →
      after frames (part ∷ parts) a ≡ wanted (Pending operator a.value ∷ frames) a.operand_count parts
  unfolding run step ◌>>=◌
  opens_operator frames part parts operator a is level =
      ap (λ token. after_operand part.place (progress_at frames a) a.value token >>= λ next. run naming depth next parts) is
      ∙ ap (λ settling. settling >>= (λ s. after_operand_by part.place a.operand_count (Sign operator) s.0 s.1) >>= λ next. run naming depth next parts)
      (level a.value)

  -- a parenthesis that closes
  pub closes : (frames : List Frame) (part : Part) (parts : List Part) (a : Evaluated) → part.token ≡ Close →
      after (Parenthesis ∷ frames) (part ∷ parts) a ≡ after frames parts a
  unfolding run step ◌>>=◌
  closes frames part parts a is =
      ap (λ token. after_operand part.place (progress_at (Parenthesis ∷ frames) a) a.value token >>= λ next. run naming depth next parts) is
      ∙ ap (λ settling. settling >>= (λ s. after_operand_by part.place a.operand_count Close s.0 s.1) >>= λ next. run naming depth next parts)
      (parenthesis_open false frames a.value)

  -- the value of a formula where so much stands open
  abbrev pub value : List Frame → ℕ → Formula → Result Evaluated LineFault
  value frames operand_count formula = value_of naming (depth + depth_of frames) operand_count formula

  -- a number, a name, a minus and a parenthesis where a number is wanted
  pub takes_number : (frames : List Frame) (operand_count : ℕ) (part : Part) (parts : List Part) (z : Dec) → part.token ≡ Number z →
      wanted frames operand_count (part ∷ parts) ≡ value frames operand_count (Amount part.place z.millionths) >>= after frames parts
  unfolding run step value_of ◌>>=◌
  takes_number frames operand_count part parts z is =
      ap (λ token. operand_by naming depth part.place (out frames operand_count) token >>= λ next. run naming depth next parts) is
      ∙ if_then (nat_lt operand_count 1000) (Ok (progress_at frames (record { value = z.millionths; operand_count = operand_count + 1 })))
      (Ok (record { value = z.millionths; operand_count = operand_count + 1 }))
      (BadFormula part.place) (λ next. run naming depth next parts) (after frames parts) refl

  pub takes_name : (frames : List Frame) (operand_count : ℕ) (part : Part) (parts : List Part) (name : List ℕ) → part.token ≡ Name name →
      wanted frames operand_count (part ∷ parts) ≡ value frames operand_count (Named part.place name) >>= after frames parts
  unfolding run step value_of ◌>>=◌
  takes_name frames operand_count part parts name is =
      let named : Result Evaluated LineFault = at_reference part.place (naming (depth + depth_of frames + 1) (operand_count + 1) name) in
      ap (λ token. operand_by naming depth part.place (out frames operand_count) token >>= λ next. run naming depth next parts) is
      ∙ if_then (nat_lt (depth + depth_of frames) 100 && nat_lt operand_count 1000) (named >>= λ a. Ok (progress_at frames a)) named
      (BadFormula part.place) (λ next. run naming depth next parts) (after frames parts)
      (then_then named (λ a. Ok (progress_at frames a)) (λ next. run naming depth next parts))

  pub takes_minus : (frames : List Frame) (operand_count : ℕ) (part : Part) (parts : List Part) (inner : Formula) (rest : List Part) →
      part.token ≡ Sign Minus →
      wanted (Negation ∷ frames) operand_count parts ≡ value (Negation ∷ frames) operand_count inner >>= after (Negation ∷ frames) rest →
      wanted frames operand_count (part ∷ parts) ≡ value frames operand_count (Negative part.place inner) >>= after frames rest
  unfolding run step value_of ◌>>=◌
  takes_minus frames operand_count part parts inner rest is inside =
      let after_minus : Result Evaluated LineFault = value_of naming (depth + depth_of frames + 1) operand_count inner in
      ap (λ token. operand_by naming depth part.place (out frames operand_count) token >>= λ next. run naming depth next parts) is
      ∙ if_then (nat_lt (depth + depth_of frames) 100) (Ok (out (Negation ∷ frames) operand_count)) (after_minus >>= negated)
      (BadFormula part.place) (λ next. run naming depth next parts) (after frames rest)
      (inside ∙ then_same _ after_minus _ _ (ap (λ deep. value_of naming deep operand_count inner) (one_deeper depth (depth_of frames)))
      (λ a. finishes Negation frames rest a refl)
      ∙ sym (then_then after_minus negated (after frames rest)))

  pub takes_parenthesis : (frames : List Frame) (operand_count : ℕ) (part : Part) (parts : List Part) (inner : Formula) (end : Part)
      (rest : List Part) → part.token ≡ Open → end.token ≡ Close →
      wanted (Parenthesis ∷ frames) operand_count parts ≡ value (Parenthesis ∷ frames) operand_count inner >>= after (Parenthesis ∷ frames) (end ∷ rest) →
      wanted frames operand_count (part ∷ parts) ≡ value frames operand_count (Enclosed part.place inner) >>= after frames rest
  unfolding run step value_of ◌>>=◌
  takes_parenthesis frames operand_count part parts inner end rest is ends inside =
      let enclosed : Result Evaluated LineFault = value_of naming (depth + depth_of frames + 1) operand_count inner in
      ap (λ token. operand_by naming depth part.place (out frames operand_count) token >>= λ next. run naming depth next parts) is
      ∙ if_then (nat_lt (depth + depth_of frames) 100) (Ok (out (Parenthesis ∷ frames) operand_count)) enclosed
      (BadFormula part.place) (λ next. run naming depth next parts) (after frames rest)
      (inside ∙ then_same _ enclosed _ _ (ap (λ deep. value_of naming deep operand_count inner) (one_deeper depth (depth_of frames)))
      (λ a. closes frames end rest a ends))

  -- what follows the numbers on both sides of an operator
  operation_of : Operator → ℤ → Evaluated → Result Evaluated LineFault
  operation_of operator left b = result_of operator left b.value >>= λ z. Ok (record b { value = z })

  operation_finishes : (operator : Operator) (left : ℤ) (frames : List Frame) (rest : List Part) (b : Evaluated) →
      is_finished (product_next rest) (Pending operator left) ≡ true →
      after (Pending operator left ∷ frames) rest b ≡ operation_of operator left b >>= after frames rest
  unfolding operation_of ◌>>=◌
  operation_finishes operator left frames rest b is =
      finishes (Pending operator left) frames rest b is
      ∙ sym (then_then (result_of operator left b.value) (λ z. Ok (record b { value = z })) (after frames rest))

  same_depth : (operator : Operator) (left : ℤ) (frames : List Frame) →
      depth + depth_of (Pending operator left ∷ frames) ≡ depth + depth_of frames
  same_depth operator left frames = omega arith

  -- the sign of an operator after a number, and the number on its right
  operation_right : (frames : List Frame) (operator : Operator) (right : Formula) (part : Part) (parts rest : List Part) (a : Evaluated) →
      part.token ≡ Sign operator → IsOpen (is_product operator) frames →
      is_finished (product_next rest) (Pending operator a.value) ≡ true →
      wanted (Pending operator a.value ∷ frames) a.operand_count parts ≡ value (Pending operator a.value ∷ frames) a.operand_count right >>= after
      (Pending operator a.value ∷ frames) rest →
      after frames (part ∷ parts) a ≡ value frames a.operand_count right >>= operation_of operator a.value >>= after frames rest
  operation_right frames operator right part parts rest a is level finished inside =
      opens_operator frames part parts operator a is level ∙ inside
      ∙ then_same _ (value frames a.operand_count right) _ _ (ap (λ deep. value_of naming deep a.operand_count right) (same_depth operator a.value frames))
      (λ b. operation_finishes operator a.value frames rest b finished)
      ∙ sym (then_then (value frames a.operand_count right) (operation_of operator a.value) (after frames rest))

  pub takes_operation : (frames : List Frame) (operand_count : ℕ) (operator : Operator) (left right : Formula) (part : Part)
      (parts rest : List Part) → part.token ≡ Sign operator → IsOpen (is_product operator) frames →
      ((z : ℤ) → is_finished (product_next rest) (Pending operator z) ≡ true) →
      ((z : ℤ) (operand_count : ℕ) → wanted (Pending operator z ∷ frames) operand_count parts ≡ value (Pending operator z ∷ frames) operand_count right >>= after
      (Pending operator z ∷ frames) rest) →
      value frames operand_count left >>= after frames (part ∷ parts) ≡ value frames operand_count (Operation operator left right) >>= after frames rest
  unfolding value_of operation_of
  takes_operation frames operand_count operator left right part parts rest is level finished inside =
      then_same (value frames operand_count left) (value frames operand_count left) _ _ refl
      (λ a. operation_right frames operator right part parts rest a is level (finished a.value) (inside a.value a.operand_count))
      ∙ sym (then_then (value frames operand_count left) (λ a. value frames a.operand_count right >>= operation_of operator a.value) (after frames rest))
