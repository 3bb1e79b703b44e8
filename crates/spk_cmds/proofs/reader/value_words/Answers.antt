use Rattle.std.proofs.Common.{Ok, length, subst}
use Rattle.spk_num.specs.Results.{IsPlainOrMemory}
use Rattle.spk_cmds.specs.Faults.{is_memory}
use Rattle.spk_cmds.specs.Forms.{all_valued}
use Rattle.spk_cmds.specs.Views.{kinds_seen}
use Rattle.spk_cmds.proofs.ReaderSteps.{rest_of, tail_out_then, tail_valued_then}
use Rattle.spk_cmds.proofs.reader.value_words.Goals as goal

pub returns-in_err-more : goal.returns-in_err-more
returns-in_err-more c =
    let passed = subst (λ vs. IsPlainOrMemory is_memory (all_valued vs (kinds_seen c.args.form.now.kinds.now) c.args.words.now) (Ok c.in_ok-values.values)) c.new.ensures c.in_ok-values.ensures in
    tail_out_then _ _ _ _ (rest_of c.args.words.now (length c.args.form.now.kinds.now)) _ _ _ passed c.in_err-more.ensures c.from_residual-in_err-more.ensures.1

pub returns : goal.returns
returns c =
    let passed = subst (λ vs. IsPlainOrMemory is_memory (all_valued vs (kinds_seen c.args.form.now.kinds.now) c.args.words.now) (Ok c.in_ok-values.values)) c.new.ensures c.in_ok-values.ensures in
    tail_valued_then _ _ _ _ (rest_of c.args.words.now (length c.args.form.now.kinds.now)) _ _ passed c.in_ok-more.ensures
