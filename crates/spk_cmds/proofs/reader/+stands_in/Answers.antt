use Rattle.std.proofs.Common.{◌≡◌, ◌∙◌, false, sym, subst}
use Rattle.std.specs.Str.{bytes_eq}
use Rattle.spk_cmds.proofs.ReaderSteps.{stands_on}
use Rattle.spk_cmds.proofs.reader.+stands_in.Goals as goal

pub returns-else-eq : goal.returns-else-eq
returns-else-eq t c =
    stands_on _ _ _ _ c.in-len2-up.len_at_least c.keyword-item.is (subst (λ k. bytes_eq c.args.word.now k ≡ false) c.as_str.ensures (sym c.eq.ensures ∙ c.if-eq.false)) c.stands_in.ensures
