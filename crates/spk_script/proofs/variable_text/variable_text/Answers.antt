use Rattle.std.proofs.Common.{refl}
use Rattle.std.proofs.lemmas.Result.{err_from_is_err_and}
use Rattle.spk_script.proofs.VariableTexts.{text_of_equal}
use Rattle.spk_num.proofs.ResultLaws.{plain_then, plain_failed, plain_value}
use Rattle.spk_script.proofs.variable_text.variable_text.Goals as goal

pub returns-in_err-number-in-Some-Equal : goal.returns-in_err-number-in-Some-Equal
returns-in_err-number-in-Some-Equal c =
    let residual = c.from_residual-in_err-number-in-Some-Equal in
    let exit = err_from_is_err_and residual.result residual.ensures.1 in
    rw (exit.1, exit.2, text_of_equal _ _ _ _ c.in-Some-Equal.ensures c.in-Some-Equal.field-0-is)
    (plain_failed _ _ _ _ c.in_err-number-in-Some-Equal.ensures)

pub returns-in_ok-number_text-in-Some-Equal : goal.returns-in_ok-number_text-in-Some-Equal
returns-in_ok-number_text-in-Some-Equal c =
    rw (text_of_equal _ _ _ _ c.in-Some-Equal.ensures c.in-Some-Equal.field-0-is, c.in_ok-number_text-in-Some-Equal.ensures)
    (plain_then _ _ _ _ _ c.in_ok-number-in-Some-Equal.ensures (plain_value _ _ _ refl))
