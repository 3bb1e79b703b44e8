use Rattle.spk_world.proofs.EffectLaws.{wrote_answer}
use Rattle.spk_report.proofs.report.add_to_log.Goals as goal

pub returns-in-None-clause-wrote : goal.returns-in-None-clause-wrote
returns-in-None-clause-wrote g c = rw c.in-None.is wrote_answer
