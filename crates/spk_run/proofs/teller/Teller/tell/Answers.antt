use Rattle.std.proofs.Common.{sym, ◌∙◌}
use Rattle.spk_report.specs.Output.{prints}
use Rattle.spk_run.proofs.Tellers.{silent_teller, teller_more}
use Rattle.spk_run.proofs.teller.Teller.tell.Goals as goal

pub returns-then-is_err-clause-telling : goal.returns-then-is_err-clause-telling
returns-then-is_err-clause-telling g c = λ log. silent_teller log (prints log c.args.text.now) _ c.args.self.now (sym c.is_err.ensures.value ∙ c.if-is_err.true)

pub returns-clause-telling : goal.returns-clause-telling
returns-clause-telling g c = λ log.
    teller_more log _ _ c.args.self.now _ _ _ c.args.text.now (sym c.is_err.ensures.value ∙ c.if-is_err.false) c.print.ensures.wrote c.print.ensures.kept
