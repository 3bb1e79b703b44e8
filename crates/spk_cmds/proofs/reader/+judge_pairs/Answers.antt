use Rattle.std.proofs.Common.{◌≡◌, ◌≤◌, ◌<◌, length, subst, get_or}
use Rattle.spk_cmds.proofs.ReaderSteps.{no_pair_left, pair_refused, pair_passed, again_is}
use Rattle.spk_cmds.proofs.reader.+judge_pairs.Goals as goal

pub returns-in_default : goal.returns-in_default
returns-in_default t c =
    no_pair_left _ _ _ _ _ (subst (λ ps. length ps < 2) c.split_at.ensures.back c.in_default.len_below)

pub returns-in_err-judge_pair : goal.returns-in_err-judge_pair
returns-in_err-judge_pair t c =
    let back = c.split_at.ensures.back in
    pair_refused _ _ c.args.words.now c.args.place c.word-item.result c.given-item.result (subst (λ ps. 2 ≤ length ps) back c.in-len2-up.len_at_least) (subst (λ ps. c.word-item.result ≡ get_or ps 0 c.word-item.result) back c.word-item.is)
    (subst (λ ps. c.given-item.result ≡ get_or ps 1 c.given-item.result) back c.given-item.is)
    _ _ _ (again_is _ _ _ _ _ c.split_at.ensures.front c.as_str.ensures c.stands_in-again.ensures) c.in_err-judge_pair.ensures c.from_residual.ensures.1

pub returns : goal.returns
returns t c =
    let back = c.split_at.ensures.back in
    pair_passed _ _ c.args.words.now c.args.place c.word-item.result c.given-item.result (subst (λ ps. 2 ≤ length ps) back c.in-len2-up.len_at_least) (subst (λ ps. c.word-item.result ≡ get_or ps 0 c.word-item.result) back c.word-item.is)
    (subst (λ ps. c.given-item.result ≡ get_or ps 1 c.given-item.result) back c.given-item.is)
    _ _ _ (again_is _ _ _ _ _ c.split_at.ensures.front c.as_str.ensures c.stands_in-again.ensures) c.in_ok-judge_pair.ensures c.judge_pairs.ensures
