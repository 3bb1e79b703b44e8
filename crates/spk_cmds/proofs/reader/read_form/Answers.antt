use Rattle.std.proofs.Common.{sym, ◌∙◌}
use Rattle.spk_cmds.proofs.ReaderSteps.{count_refused, form_refused, form_passed}
use Rattle.spk_cmds.proofs.reader.read_form.Goals as goal

pub returns-then-not-is_count : goal.returns-then-not-is_count
returns-then-not-is_count c = count_refused _ _ (sym c.is_count.ensures ∙ c.if-not-is_count.true)

pub returns-in_err-judge_words : goal.returns-in_err-judge_words
returns-in_err-judge_words c = form_refused _ _ _ _ (sym c.is_count.ensures ∙ c.if-not-is_count.false) c.in_err-judge_words.ensures c.from_residual.ensures.1

pub returns : goal.returns
returns c = form_passed _ _ _ _ (sym c.is_count.ensures ∙ c.if-not-is_count.false) c.in_ok-judge_words.ensures c.value_words.ensures
