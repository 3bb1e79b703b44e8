use Rattle.std.proofs.Common.{rules, ◌<◌, Ok, Err, None, ◌∙◌, refl, ap, sym, subst, ◌^◌}
use Rattle.std.proofs.lemmas.Result.{err_from_is_err_and}
use Rattle.spk_num.specs.Results.{IsPlainOrMemory}
use Rattle.spk_script.specs.Faults.{is_memory}
use Rattle.spk_script.specs.Tables.{environment_of}
use Rattle.spk_script.specs.Evaluation.{naming_of, step}
use Rattle.spk_num.proofs.ResultLaws.{plain_memory}
use Rattle.spk_script.proofs.Following.{plain_same}
use Rattle.spk_script.proofs.Evaluations.{operand_answers, name_untaken, name_fault, name_value, name_answers, name_finds, text_value, loop_value, part_taken, part_fault, parts_end}
use Rattle.spk_script.proofs.StackReads.{parts_formed_small, text_fault, text_value_is}
use Rattle.spk_script.specs.declared.fault.LineFault.TheVariants.{UnknownVariable}
use Rattle.spk_script.specs.declared.variable.Variable.TheVariants.{Index, Loop, String, Equal}
use Rattle.spk_script.proofs.formula.value.+value.Goals as goal

pub named-returns-then-nested-depth : goal.named-returns-then-nested-depth
named-returns-then-nested-depth t c = name_untaken (naming_of (environment_of c.args.variables.now)) c.args.depth c.args.place
    c.args.progress c.args.name.now c.depth-nested.result c.depth-nested.ensures c.requires c.then-nested-depth.either

pub named-returns-in_err-at_reference : goal.named-returns-in_err-at_reference
named-returns-in_err-at_reference t c =
    let p = err_from_is_err_and c.from_residual.result c.from_residual.ensures.1 in
    rw (p.1, p.2) (name_fault (naming_of (environment_of c.args.variables.now)) c.args.depth c.args.place c.args.progress c.args.name.now
    c.depth-nested.result c.value_of_name-value.result _
    c.depth-nested.ensures c.if-nested-depth.false c.if-progress-ge-MOST_NUMBERS.false c.value_of_name-value.ensures
    c.in_err-at_reference.ensures)

pub named-returns : goal.named-returns
named-returns t c =
    name_value (naming_of (environment_of c.args.variables.now)) c.args.depth c.args.place c.args.progress c.evaluated_on.result
    c.args.name.now c.depth-nested.result c.value_of_name-value.result c.in_ok-at_reference.field-0
    c.depth-nested.ensures c.if-nested-depth.false c.if-progress-ge-MOST_NUMBERS.false c.value_of_name-value.ensures
    c.in_ok-at_reference.ensures c.evaluated_on.ensures

pub operand-returns-in-Number : goal.operand-returns-in-Number
operand-returns-in-Number t c = rw c.in-Number.is (plain_same _ _ (rw c.new.ensures at c.counted.ensures))

pub operand-returns-in-None : goal.operand-returns-in-None
operand-returns-in-None t c =
    operand_answers (naming_of (environment_of c.args.variables.now)) c.args.depth c.args.part.now.place c.args.progress
    c.args.part.now.token None _
    c.in_default.not-Number c.in_default.not-Name c.in-None.ensures (plain_same _ _ refl)

pub step-returns-in-Some : goal.step-returns-in-Some
unfolding step
step-returns-in-Some t c = rw c.in-Some.is c.after_operand.ensures

pub step-returns-in-None : goal.step-returns-in-None
unfolding step
step-returns-in-None t c = rw c.in-None.is c.operand.ensures

pub value_of_name-returns-in_err-copy-in-None : goal.value_of_name-returns-in_err-copy-in-None
value_of_name-returns-in_err-copy-in-None t c =
    let p = err_from_is_err_and c.from_residual.result c.from_residual.ensures.1 in
    rw (p.1, p.2) (plain_memory _ _ _ refl)

pub value_of_name-returns-in-Some-Index : goal.value_of_name-returns-in-Some-Index
value_of_name-returns-in-Some-Index t c =
    name_answers (environment_of c.args.variables.now) c.args.depth c.args.operand_count c.args.name.now _ c.decimal_of.result c.requires
    (name_finds (environment_of c.args.variables.now) c.args.name.now c.as_str.result.now c.in-Some-Index.field-0.now
    (Index c.in-Some-Index.value c.in-Some-Index.field-0-1) c.in-Some-Index.ensures c.as_str.ensures c.in-Some-Index.field-0-is)
    (plain_same _ _ (text_value c.args.operand_count c.as_bytes.result.now c.in-Some-Index.value c.decimal_of.result c.as_bytes.ensures
    c.decimal_of.ensures))

pub value_of_name-returns-in-Some-Loop : goal.value_of_name-returns-in-Some-Loop
value_of_name-returns-in-Some-Loop t c =
    let small : c.in-Some-Loop.value < 2 ^ 32 = search rules in
    name_answers (environment_of c.args.variables.now) c.args.depth c.args.operand_count c.args.name.now _ (Ok c.new.result) c.requires
    (name_finds (environment_of c.args.variables.now) c.args.name.now c.as_str.result.now c.in-Some-Loop.field-0.now
    (Loop c.in-Some-Loop.value c.in-Some-Loop.field-0-1) c.in-Some-Loop.ensures c.as_str.ensures c.in-Some-Loop.field-0-is)
    (plain_same _ _ (loop_value c.args.operand_count c.in-Some-Loop.value c.whole.result c.new.result small c.whole.ensures c.new.ensures))

pub value_of_name-returns-in-Some-String : goal.value_of_name-returns-in-Some-String
value_of_name-returns-in-Some-String t c =
    name_answers (environment_of c.args.variables.now) c.args.depth c.args.operand_count c.args.name.now _ c.decimal_of-in-Some-String.result
    c.requires
    (name_finds (environment_of c.args.variables.now) c.args.name.now c.as_str.result.now c.in-Some-String.field-0.now
    (String c.in-Some-String.text) c.in-Some-String.ensures c.as_str.ensures c.in-Some-String.field-0-is)
    (plain_same _ _ (text_value c.args.operand_count c.as_bytes-in-Some-String.result.now c.in-Some-String.text c.decimal_of-in-Some-String.result
    c.as_bytes-in-Some-String.ensures c.decimal_of-in-Some-String.ensures))

pub value_of_name-returns-in-Some-Equal : goal.value_of_name-returns-in-Some-Equal
value_of_name-returns-in-Some-Equal t c =
    name_answers (environment_of c.args.variables.now) c.args.depth c.args.operand_count c.args.name.now _ c.value_of_text.result c.requires
    (name_finds (environment_of c.args.variables.now) c.args.name.now c.as_str.result.now c.in-Some-Equal.field-0.now
    (Equal c.in-Some-Equal.text) c.in-Some-Equal.ensures c.as_str.ensures c.in-Some-Equal.field-0-is)
    c.value_of_text.ensures

pub value_of_name-returns-in_ok-copy-in-None : goal.value_of_name-returns-in_ok-copy-in-None
value_of_name-returns-in_ok-copy-in-None t c =
    name_answers (environment_of c.args.variables.now) c.args.depth c.args.operand_count c.args.name.now None _ c.requires
    (ap (environment_of c.args.variables.now) (sym c.as_str.ensures) ∙ sym c.in-None.ensures)
    (plain_same _ _ (ap (λ name. Err (UnknownVariable name)) (c.in_ok-copy-in-None.ensures ∙ c.as_str-in-None.ensures)))

pub value_of_parts-returns-in_err-progress : goal.value_of_parts-returns-in_err-progress
value_of_parts-returns-in_err-progress t c =
    let p = err_from_is_err_and c.from_residual.result c.from_residual.ensures.1 in
    rw (p.1, p.2) (subst (λ plain. IsPlainOrMemory is_memory plain (Err c.in_err-progress.field-0.0)) (sym c.loop-part.invariant)
    (part_fault (naming_of (environment_of c.args.variables.now)) c.args.depth c.loop-part.progress c.args.parts.now
    c.loop-part.part-index c.part-item.result c.in_err-progress.field-0.0 c.loop-part-test.true (sym c.part-item.is)
    c.in_err-progress.ensures))

pub value_of_parts-loop-part-preserved : goal.value_of_parts-loop-part-preserved
value_of_parts-loop-part-preserved t c =
    c.loop-part.invariant ∙ part_taken (naming_of (environment_of c.args.variables.now)) c.args.depth c.loop-part.progress
    c.in_ok-progress.progress c.args.parts.now c.loop-part.part-index c.part-item.result c.loop-part-test.true (sym c.part-item.is)
    c.in_ok-progress.ensures

pub value_of_parts-returns : goal.value_of_parts-returns
value_of_parts-returns t c =
    plain_same _ _ (c.finished.ensures ∙ sym
    (c.loop-part.invariant ∙ parts_end (naming_of (environment_of c.args.variables.now)) c.args.depth c.loop-part.progress
    c.args.parts.now c.loop-part.part-index c.loop-part-test.false))

pub value_of_text-returns-in_err-parts : goal.value_of_text-returns-in_err-parts
value_of_text-returns-in_err-parts t c =
    let p = err_from_is_err_and c.from_residual.result c.from_residual.ensures.1 in
    rw (p.1, p.2) (text_fault (naming_of (environment_of c.args.variables.now)) c.args.depth c.args.operand_count c.as_bytes.result.now
    c.args.text.now _ c.as_bytes.ensures.bytes c.in_err-parts.ensures)

pub value_of_text-value_of_parts-requires : goal.value_of_text-value_of_parts-requires
value_of_text-value_of_parts-requires t c = (
  search rules,
  (
    c.requires,
    rw c.deref.ensures.value
        (parts_formed_small c.as_bytes.result.now c.in_ok-parts.parts.items c.in_ok-parts.ensures),
  ),
)

pub value_of_text-returns : goal.value_of_text-returns
value_of_text-returns t c =
    text_value_is (naming_of (environment_of c.args.variables.now)) c.args.depth c.args.operand_count c.as_bytes.result.now c.args.text.now
    c.in_ok-parts.parts.items c.deref.result.now c.value_of_parts.result
    c.as_bytes.ensures.bytes c.in_ok-parts.ensures c.deref.ensures.value c.value_of_parts.ensures
