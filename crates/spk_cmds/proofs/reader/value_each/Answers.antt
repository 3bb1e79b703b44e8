use Rattle.std.proofs.Common.{sym, ◌∙◌, subst}
use Rattle.spk_num.specs.Results.{IsPlainOrMemory}
use Rattle.spk_cmds.specs.Faults.{is_memory}
use Rattle.spk_cmds.proofs.Refusals.{out_of_memory, is_value}
use Rattle.spk_cmds.proofs.ReaderSteps.{none_left_valued, next_out, next_valued}
use Rattle.spk_cmds.proofs.reader.value_each.Goals as goal

pub returns-in_err-value_of : goal.returns-in_err-value_of
returns-in_err-value_of c =
    subst (λ p. IsPlainOrMemory is_memory p c.from_residual.result) c.loop-left.invariant
    (next_out _ _ _ _ _ _ c.in-len1-up.len_at_least c.word-item.is c.in_err-value_of.ensures c.from_residual.ensures.1)

pub returns-in_err-push : goal.returns-in_err-push
returns-in_err-push c = out_of_memory _ _ c.from_residual-in_err-push.ensures.1

pub loop-left-preserved : goal.loop-left-preserved
loop-left-preserved c = sym (next_valued _ _ _ _ _ _ c.in-len1-up.len_at_least c.word-item.is c.in_ok-value_of.ensures c.in_ok-push.ensures) ∙ c.loop-left.invariant

pub returns : goal.returns
returns c = is_value _ _ (sym c.loop-left.invariant ∙ none_left_valued _ _ _ c.in_default.len_below)
