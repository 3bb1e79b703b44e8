use Rattle.std.proofs.Common.{length}
use Rattle.spk_cmds.proofs.ReaderSteps.{rest_of, tail_formed_then}
use Rattle.spk_cmds.proofs.reader.judge_words.Goals as goal

pub returns : goal.returns
returns c = tail_formed_then _ _ _ _ (rest_of c.args.words.now (length c.args.form.now.kinds.now)) _ _ c.in_ok-judge_all.ensures c.judge_tail.ensures
