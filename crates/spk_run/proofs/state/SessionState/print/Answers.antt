use Rattle.std.proofs.Common.{◌≡◌, ◌∙◌, ◌++◌, ◌∷◌, []}
use Rattle.spk_world.proofs.EffectLaws.{wrote_whole}
use Rattle.spk_run.proofs.CommandSteps.{out_of_memory, write_failed}
use Rattle.spk_run.proofs.state.SessionState.print.Goals as goal

pub returns-in_err-line-clause-wrote : goal.returns-in_err-line-clause-wrote
returns-in_err-line-clause-wrote g c = out_of_memory _ c.from_residual.ensures.1

pub returns-in_err-output-clause-wrote : goal.returns-in_err-output-clause-wrote
returns-in_err-output-clause-wrote g c = out_of_memory _ c.from_residual-in_err-output.ensures.1

pub returns-in_err-print-clause-wrote : goal.returns-in_err-print-clause-wrote
returns-in_err-print-clause-wrote g c =
    let line : c.deref.result.now ≡ c.args.text.now ++ 10 ∷ [] = c.deref.ensures.value ∙ (rw c.as_bytes.ensures at c.in_ok-line.ensures) in
    write_failed _ _ c.from_residual-in_err-print.ensures.1 (rw (c.in_ok-output.ensures, line) at c.in_err-print.ensures.wrote)

pub returns-clause-wrote : goal.returns-clause-wrote
returns-clause-wrote g c =
    let line : c.deref.result.now ≡ c.args.text.now ++ 10 ∷ [] = c.deref.ensures.value ∙ (rw c.as_bytes.ensures at c.in_ok-line.ensures) in
    wrote_whole (rw (c.in_ok-output.ensures, line) at c.in_ok-print.ensures.wrote)
