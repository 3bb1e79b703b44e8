use Rattle.std.proofs.lemmas.Result.{err_from_is_err_and}
use Rattle.spk_num.proofs.ResultLaws.{then_fault, plain_value, plain_fault, plain_then}
use Rattle.spk_script.proofs.formula.progress.Progress.after_operand.Goals as goal

pub returns-in_err-value : goal.returns-in_err-value
returns-in_err-value c =
    let p = err_from_is_err_and c.from_residual.result c.from_residual.ensures.1 in
    let settled_is = rw c.is_product_sign-before_product.ensures at c.in_err-value.ensures in
    rw (p.1, p.2) (plain_fault _ _ _ (then_fault _ _ _ settled_is))

pub returns : goal.returns
returns c =
    let settled_is = rw c.is_product_sign-before_product.ensures at c.in_ok-value.ensures in
    plain_then _ _ _ _ _ (plain_value _ _ _ settled_is) c.after_settled.ensures
