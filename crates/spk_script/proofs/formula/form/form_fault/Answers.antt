use Rattle.std.proofs.Common.{◌∙◌, ap, sym, arith}
use Rattle.spk_script.specs.declared.formula.part.Part.{Part}
use Rattle.spk_script.specs.Forms.{passed}
use Rattle.spk_script.proofs.FormLoop.{passes_on, stops_at, ends_at}
use Rattle.spk_script.proofs.formula.form.form_fault.Goals as goal

pub returns-in-Err : goal.returns-in-Err
returns-in-Err c =
    stops_at c.args.text.now c.loop-part.state c.args.parts.now c.loop-part.part-index c.in-Err.place c.part-item.result
    c.loop-part-test.true (sym c.begins_blank.ensures ∙ c.if-begins_blank.false)
    (c.in-Err.ensures.passed ∙ ap (λ (part : Part). passed c.loop-part.state part.place part.token) c.part-item.is)
    c.loop-part.invariant.fault

pub returns : goal.returns
returns c =
    c.fault_at_end.ensures
    ∙ ends_at c.args.text.now c.loop-part.state c.args.parts.now c.loop-part.part-index c.loop-part-test.false
    (sym c.begins_blank.ensures ∙ c.if-begins_blank.false) c.loop-part.invariant.fault

pub loop-part-preserved : goal.loop-part-preserved
loop-part-preserved c = record {
  depth = omega (arith, c.in-Ok.ensures.depth);
  fault = passes_on c.args.text.now c.loop-part.state c.in-Ok.next c.args.parts.now c.loop-part.part-index c.part-item.result
      c.loop-part-test.true
      (c.in-Ok.ensures.passed ∙ ap (λ (part : Part). passed c.loop-part.state part.place part.token) c.part-item.is)
      ∙ c.loop-part.invariant.fault;
}
