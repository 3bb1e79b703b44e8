use Rattle.std.proofs.Common.{◌≡◌, Some, None, Err, option_map, sym, ap, subst, ◌∙◌, arith}
use Rattle.std.specs.String.{string_bytes}
use Rattle.spk_cmds.specs.CommandLine.{word_read}
use Rattle.spk_cmds.specs.Usages.{line_seen}
use Rattle.spk_cmds.proofs.CommandLines.{one_word_more, one_bad_word, all_read, its_options, its_place, its_input}
use Rattle.spk_cmds.proofs.ReaderSteps.{one_fewer}
use Rattle.spk_cmds.proofs.options.words_of.Goals as goal

pub returns-in_default-2-clause-word : goal.returns-in_default-2-clause-word
returns-in_default-2-clause-word c place is =
    let at : c.loop-left.place ≡ place = cc (is) in
    let read =
    subst (λ w. word_read (line_seen c.loop-left.line) c.loop-left.place w ≡ None) c.as_str.ensures.value
    (sym c.in_ok-next.ensures ∙ ap (λ next. option_map line_seen next) c.in_default-2.is) in
    sym c.loop-left.invariant.left ∙ one_bad_word string_bytes c.loop-left.left.now c.word-item.result _ _ c.in-len1-up.len_at_least c.word-item.is read ∙ ap (λ p. Err p) at

pub loop-left-preserved : goal.loop-left-preserved
loop-left-preserved c =
    let read =
    subst (λ w. word_read (line_seen c.loop-left.line) c.loop-left.place w ≡ Some (line_seen c.in-Some.next)) c.as_str.ensures.value
    (sym c.in_ok-next.ensures ∙ ap (λ next. option_map line_seen next) c.in-Some.is) in
    let fewer = one_fewer c.loop-left.left.now c.in-len1-up.len_at_least in
    record {
      left = sym (one_word_more string_bytes c.loop-left.left.now c.word-item.result _ _ c.in-len1-up.len_at_least c.word-item.is _ read) ∙ c.loop-left.invariant.left;
      place = omega (arith, fewer);
    }

pub returns-clause-ok : goal.returns-clause-ok
returns-clause-ok c = its_options _ _ (all_read string_bytes c.loop-left.left.now _ _ _ c.finished.result c.in_default.len_below c.loop-left.invariant.left c.finished.ensures)

pub returns-clause-word : goal.returns-clause-word
returns-clause-word c place is =
    its_place _ c.finished.result place (all_read string_bytes c.loop-left.left.now _ _ _ c.finished.result c.in_default.len_below c.loop-left.invariant.left c.finished.ensures) is

pub returns-clause-file : goal.returns-clause-file
returns-clause-file c =
    its_input _ _ (all_read string_bytes c.loop-left.left.now _ _ _ c.finished.result c.in_default.len_below c.loop-left.invariant.left c.finished.ensures)
