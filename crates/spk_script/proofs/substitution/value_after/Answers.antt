use Rattle.std.proofs.lemmas.Result.{err_from_is_err_and}
use Rattle.spk_script.proofs.References.{name_is_variable, name_is_wrong}
use Rattle.spk_script.proofs.substitution.value_after.Goals as goal

pub returns-in_err-variable_text-in-Ok : goal.returns-in_err-variable_text-in-Ok
returns-in_err-variable_text-in-Ok c =
    let exit = err_from_is_err_and c.from_residual.result c.from_residual.ensures.1 in
    rw (exit.1, exit.2) (name_is_wrong _ _ _ _ _ c.in-Ok.ensures c.in_err-variable_text-in-Ok.ensures)

pub returns-in_ok-variable_text-in-Ok : goal.returns-in_ok-variable_text-in-Ok
returns-in_ok-variable_text-in-Ok c = name_is_variable _ _ _ _ _ c.in-Ok.ensures c.in_ok-variable_text-in-Ok.ensures
