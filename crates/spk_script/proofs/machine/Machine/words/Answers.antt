use Rattle.spk_script.proofs.ShortWords.{short_answer}
use Rattle.spk_script.proofs.machine.Machine.words.Goals as goal

pub returns-clause-short : goal.returns-clause-short
returns-clause-short c = short_answer _ _ _ c.line_words.ensures
