use Rattle.std.proofs.Common.{◌≡◌, ◌∙◌}
use Rattle.spk_run.specs.Endings.{refusal_text}
use Rattle.spk_run.proofs.CommandSteps.{out_of_memory}
use Rattle.spk_run.proofs.Sessions.{refused_whole, refused_not}
use Rattle.spk_run.proofs.session.Session.refuse.Goals as goal

pub returns-in_err-text-clause-wrote : goal.returns-in_err-text-clause-wrote
returns-in_err-text-clause-wrote g c = out_of_memory _ c.from_residual.ensures.1

pub returns-in_err-output-clause-wrote : goal.returns-in_err-output-clause-wrote
returns-in_err-output-clause-wrote g c = out_of_memory _ c.from_residual-in_err-output.ensures.1

pub returns-in_err-print-clause-wrote : goal.returns-in_err-print-clause-wrote
returns-in_err-print-clause-wrote g c =
    let text : c.as_bytes.result.now ≡ refusal_text c.args.line c.args.cause = c.as_bytes.ensures.value ∙ c.in_ok-text.ensures in
    refused_not _ _ _ _ _ _ _ c.from_residual-in_err-print.ensures.1 (rw (c.in_ok-output.ensures, text) at c.in_err-print.ensures.wrote)

pub returns-clause-wrote : goal.returns-clause-wrote
returns-clause-wrote g c =
    let text : c.as_bytes.result.now ≡ refusal_text c.args.line c.args.cause = c.as_bytes.ensures.value ∙ c.in_ok-text.ensures in
    refused_whole _ _ _ _ _ (rw (c.in_ok-output.ensures, text) at c.in_ok-print.ensures.wrote)
