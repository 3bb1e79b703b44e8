use Rattle.std.proofs.Common.{◌≡◌, ◌++◌, ◌∷◌, [], subst}
use Rattle.spk_cmds.specs.declared.value.Value.TheVariants.{Word}
use Rattle.spk_cmds.specs.Forms.{keyword_kind}
use Rattle.spk_cmds.specs.Views.{kind_seen, keywords_seen}
use Rattle.spk_cmds.proofs.Refusals.{out_of_memory}
use Rattle.spk_cmds.proofs.ReaderSteps.{no_pair_valued, pair_out, pair_valued}
use Rattle.spk_cmds.proofs.reader.+value_pairs.Goals as goal

pub returns-in_default : goal.returns-in_default
returns-in_default t c = no_pair_valued _ _ _ c.in_default.len_below

pub returns-in_err-value : goal.returns-in_err-value
returns-in_err-value t c =
    let its = subst (λ w. kind_seen c.keyword_kind-kind.result ≡ keyword_kind (keywords_seen c.args.keywords.now) w) c.as_str.ensures c.keyword_kind-kind.ensures in
    pair_out _ _ _ _ _ _ c.in-len2-up.len_at_least c.word-item.is c.given-item.is its _ _ c.in_err-value.ensures c.from_residual.ensures.1

pub returns-in_err-word : goal.returns-in_err-word
returns-in_err-word t c = out_of_memory _ _ c.from_residual-in_err-word.ensures.1

pub returns-in_err-push : goal.returns-in_err-push
returns-in_err-push t c = out_of_memory _ _ c.from_residual-in_err-push.ensures.1

pub returns-in_err-push-2 : goal.returns-in_err-push-2
returns-in_err-push-2 t c = out_of_memory _ _ c.from_residual-in_err-push-2.ensures.1

pub returns : goal.returns
returns t c =
    let its = subst (λ w. kind_seen c.keyword_kind-kind.result ≡ keyword_kind (keywords_seen c.args.keywords.now) w) c.as_str.ensures c.keyword_kind-kind.ensures in
    let one : c.push.new.self ≡ c.args.values ++ Word c.word-item.result ∷ [] = cc (c.in_ok-push.ensures, c.in_ok-word.ensures, c.as_str-2.ensures) in
    pair_valued _ _ _ _ _ _ c.in-len2-up.len_at_least c.word-item.is c.given-item.is its _ _ _ _ c.in_ok-value.ensures one c.in_ok-push-2.ensures c.value_pairs.ensures
