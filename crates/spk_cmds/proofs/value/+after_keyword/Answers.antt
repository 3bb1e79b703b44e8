use Rattle.std.proofs.Common.{◌∙◌, sym}
use Rattle.spk_cmds.proofs.KeywordValues.{after_other}
use Rattle.spk_cmds.proofs.value.+after_keyword.Goals as goal

pub returns-else-eq : goal.returns-else-eq
returns-else-eq t c =
    after_other _ _ _ _ _ _ c.in-len2-up.len_at_least c.keyword-item.is c.given-item.is c.word_of.ensures (sym c.eq.ensures ∙ c.if-eq.false) c.after_keyword.ensures
