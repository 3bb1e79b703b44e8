use Rattle.std.proofs.lemmas.Result.{err_from_is_err_and}
use Rattle.spk_script.proofs.LineWords.{no_words, one_word_more, word_is_wrong, all_words}
use Rattle.spk_script.proofs.substitution.line_words.Goals as goal

pub loop-word-init : goal.loop-word-init
loop-word-init c = no_words _ _ _ c.new-line.ensures

pub returns-in_err-push_substituted : goal.returns-in_err-push_substituted
returns-in_err-push_substituted c =
    let exit = err_from_is_err_and c.from_residual.result c.from_residual.ensures.1 in
    rw (exit.1, exit.2)
    (word_is_wrong _ _ _ _ c.word-item.result _ c.loop-word-test.true c.word-item.is c.loop-word.invariant c.in_err-push_substituted.ensures)

pub loop-word-preserved : goal.loop-word-preserved
loop-word-preserved c =
    one_word_more _ _ _ _ _ _ c.word-item.result c.loop-word-test.true c.word-item.is c.loop-word.invariant c.in_ok-push_substituted.ensures

pub returns : goal.returns
returns c = all_words _ _ _ _ _ c.loop-word-test.false c.loop-word.invariant c.into_words.ensures
