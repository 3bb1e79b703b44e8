use Rattle.std.proofs.Common.{Ok, sym, ap, ◌∙◌}
use Rattle.std.proofs.lemmas.Result.{err_from_is_err_and}
use Rattle.spk_num.proofs.ResultLaws.{then_value, then_fault}
use Rattle.spk_script.proofs.formula.progress.Progress.finished.Goals as goal

pub returns-in_err-value : goal.returns-in_err-value
returns-in_err-value c =
    let p = err_from_is_err_and c.from_residual.result c.from_residual.ensures.1 in
    rw (p.1, p.2, c.in-Some.is) (sym (then_fault _ _ _ c.in_err-value.ensures))

pub returns : goal.returns
returns c = rw c.in-Some.is (ap Ok c.new.ensures ∙ sym (then_value _ _ _ c.in_ok-value.ensures))
