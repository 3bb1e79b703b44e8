use Rattle.spk_world.proofs.EffectLaws.{wrote_answer}
use Rattle.spk_run.proofs.output.Output.echo.Goals as goal

pub returns-in-None : goal.returns-in-None
returns-in-None g c = rw c.in-None.is wrote_answer
