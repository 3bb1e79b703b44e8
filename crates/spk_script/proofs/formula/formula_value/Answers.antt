use Rattle.std.proofs.Common.{◌∙◌}
use Rattle.std.proofs.lemmas.Result.{err_from_is_err_and}
use Rattle.spk_script.specs.Tables.{environment_of}
use Rattle.spk_script.proofs.Evaluations.{value_answers, fault_answers}
use Rattle.spk_script.proofs.formula.formula_value.Goals as goal

pub returns-in_err-evaluated : goal.returns-in_err-evaluated
returns-in_err-evaluated c =
    let p = err_from_is_err_and c.from_residual.result c.from_residual.ensures.1 in
    rw (p.1, p.2) (fault_answers (environment_of c.args.variables.now) c.args.text.now _ c.in_err-evaluated.ensures)

pub returns : goal.returns
returns c = value_answers (environment_of c.args.variables.now) c.args.text.now c.in_ok-evaluated.evaluated c.number.result
    c.in_ok-evaluated.ensures (c.number.ensures ∙ c.value.ensures)
