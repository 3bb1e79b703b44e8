use Rattle.std.proofs.Common.{◌∙◌}
use Rattle.std.proofs.lemmas.Result.{err_from_is_err_and}
use Rattle.spk_script.proofs.Frames.{settled_more, settled_fault}
use Rattle.spk_script.proofs.formula.stack.Stack.settle.Goals as goal

pub returns-in_err-value : goal.returns-in_err-value
returns-in_err-value c =
    let p = err_from_is_err_and c.from_residual.result c.from_residual.ensures.1 in
    rw (p.1, p.2) (c.loop-frame.invariant ∙ settled_fault c.args.before_product c.loop-frame.self c.pop_finished.new.self c.in-Some.frame
    c.loop-frame.value _ c.in-Some.ensures.first c.in-Some.ensures.rest c.in_err-value.ensures)

pub loop-frame-preserved : goal.loop-frame-preserved
loop-frame-preserved c =
    c.loop-frame.invariant ∙ settled_more c.args.before_product c.loop-frame.self c.pop_finished.new.self c.in-Some.frame
    c.loop-frame.value c.in_ok-value.value c.in-Some.ensures.first c.in-Some.ensures.rest c.in_ok-value.ensures
