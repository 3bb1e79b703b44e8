use Rattle.std.proofs.Common.{Ok, sym, ◌∙◌, subst}
use Rattle.spk_num.specs.Results.{IsPlainOrMemory}
use Rattle.spk_cmds.specs.Faults.{is_memory}
use Rattle.spk_cmds.proofs.ReaderSteps.{none_left, next_refused, next_formed}
use Rattle.spk_cmds.proofs.reader.judge_each.Goals as goal

pub returns-in_err-judge_form : goal.returns-in_err-judge_form
returns-in_err-judge_form c =
    subst (λ p. IsPlainOrMemory is_memory p c.from_residual.result) c.loop-left.invariant
    (next_refused _ _ _ _ _ c.in-len1-up.len_at_least c.word-item.is c.in_err-judge_form.ensures c.from_residual.ensures.1)

pub loop-left-preserved : goal.loop-left-preserved
loop-left-preserved c = sym (next_formed _ _ _ _ c.in-len1-up.len_at_least c.word-item.is c.in_ok-judge_form.ensures) ∙ c.loop-left.invariant

pub returns : goal.returns
returns c = subst (λ p. IsPlainOrMemory is_memory p (Ok (tt {0}))) c.loop-left.invariant (none_left _ _ _ c.in_default.len_below)
