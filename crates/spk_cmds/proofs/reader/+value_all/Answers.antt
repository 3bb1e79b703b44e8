use Rattle.spk_cmds.proofs.Refusals.{out_of_memory}
use Rattle.spk_cmds.proofs.ReaderSteps.{no_kinds_valued, no_words_valued, first_out, first_valued}
use Rattle.spk_cmds.proofs.reader.+value_all.Goals as goal

pub returns-in_default : goal.returns-in_default
returns-in_default t c = no_kinds_valued _ _ _ c.in_default.len_below

pub returns-in_default-words : goal.returns-in_default-words
returns-in_default-words t c = no_words_valued _ _ _ c.in_default-words.len_below

pub returns-in_err-value_of : goal.returns-in_err-value_of
returns-in_err-value_of t c =
    first_out _ _ _ _ _ c.in-len1-up.len_at_least c.in-len1-up-words.len_at_least c.word-item.is _ _ c.in_err-value_of.ensures c.from_residual.ensures.1

pub returns-in_err-push : goal.returns-in_err-push
returns-in_err-push t c = out_of_memory _ _ c.from_residual-in_err-push.ensures.1

pub returns : goal.returns
returns t c =
    first_valued _ _ _ _ _ c.in-len1-up.len_at_least c.in-len1-up-words.len_at_least c.word-item.is _ _ _ c.in_ok-value_of.ensures c.in_ok-push.ensures c.value_all.ensures
