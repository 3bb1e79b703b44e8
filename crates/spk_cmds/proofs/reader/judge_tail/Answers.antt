use Rattle.std.proofs.Common.{sym, subst}
use Rattle.spk_num.specs.Results.{IsPlainOrMemory}
use Rattle.spk_cmds.specs.Faults.{is_memory}
use Rattle.spk_cmds.specs.Forms.{tail_formed}
use Rattle.spk_cmds.specs.Views.{tail_seen}
use Rattle.spk_cmds.proofs.reader.judge_tail.Goals as goal

pub returns-in-Pairs : goal.returns-in-Pairs
returns-in-Pairs c = subst (λ tail. IsPlainOrMemory is_memory (tail_formed (tail_seen tail) c.args.words.now) c.judge_pairs.result) (sym c.in-Pairs.is) c.judge_pairs.ensures
