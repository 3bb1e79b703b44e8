use Rattle.spk_world.proofs.EffectLaws.{wrote_then, wrote_failed}
use Rattle.spk_run.proofs.Outputs.{prints_is}
use Rattle.spk_run.proofs.output.Output.print.Goals as goal

pub returns-in_err-say-clause-wrote : goal.returns-in_err-say-clause-wrote
returns-in_err-say-clause-wrote g c = rw prints_is (wrote_failed _ c.from_residual.ensures.1 c.in_err-say.ensures.wrote)

pub returns-clause-wrote : goal.returns-clause-wrote
returns-clause-wrote g c = rw prints_is (wrote_then _ c.in_ok-say.ensures.wrote c.log.ensures.wrote)
