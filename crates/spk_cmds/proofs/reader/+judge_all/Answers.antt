use Rattle.spk_cmds.proofs.ReaderSteps.{no_kinds_formed, no_words_formed, first_refused, first_formed}
use Rattle.spk_cmds.proofs.reader.+judge_all.Goals as goal

pub returns-in_default : goal.returns-in_default
returns-in_default t c = no_kinds_formed _ _ _ c.in_default.len_below

pub returns-in_default-words : goal.returns-in_default-words
returns-in_default-words t c = no_words_formed _ _ _ c.in_default-words.len_below

pub returns-in_err-judge_form : goal.returns-in_err-judge_form
returns-in_err-judge_form t c =
    first_refused _ _ _ _ c.in-len1-up.len_at_least c.in-len1-up-words.len_at_least c.word-item.is _ _ c.in_err-judge_form.ensures c.from_residual.ensures.1

pub returns : goal.returns
returns t c =
    first_formed _ _ _ _ c.in-len1-up.len_at_least c.in-len1-up-words.len_at_least c.word-item.is _ _ c.in_ok-judge_form.ensures c.judge_all.ensures
