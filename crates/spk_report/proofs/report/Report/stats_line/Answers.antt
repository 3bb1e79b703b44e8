use Rattle.std.proofs.Common.{◌≡◌, ◌∙◌}
use Rattle.spk_world.proofs.EffectLaws.{wrote_failed, wrote_then}
use Rattle.spk_report.specs.Output.{log_name, name_of, prints}
use Rattle.spk_report.specs.Statistics.{statistics_text}
use Rattle.spk_report.proofs.report.Report.stats_line.Goals as goal

pub returns-in_err-say-clause-wrote : goal.returns-in_err-say-clause-wrote
unfolding prints
returns-in_err-say-clause-wrote g c =
    let is : c.as_slice-text.result.now ≡ statistics_text c.args.line.now = c.as_slice-text.ensures.value ∙ c.write.ensures.text in
    rw (← is) (wrote_failed _ c.from_residual.ensures.1 (c.in_err-say.ensures.wrote (log_name (name_of c.args.log))))

pub returns-clause-wrote : goal.returns-clause-wrote
unfolding prints
returns-clause-wrote g c =
    let is : c.as_slice-text.result.now ≡ statistics_text c.args.line.now = c.as_slice-text.ensures.value ∙ c.write.ensures.text in
    rw (← is) (wrote_then _ (c.in_ok-say.ensures.wrote (log_name (name_of c.args.log))) c.add_to_log.ensures.wrote)
