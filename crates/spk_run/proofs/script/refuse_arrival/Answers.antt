use Rattle.spk_run.specs.declared.cause.Cause.TheVariants.{TooManyCommands}
use Rattle.spk_run.proofs.Obeying.{ended_rose, ended_counts}
use Rattle.spk_run.proofs.script.refuse_arrival.Goals as goal

pub returns-clause-wrote : goal.returns-clause-wrote
returns-clause-wrote g c = λ lines state. rw c.in-TooManyCommands.is (c.end.ensures.wrote state)

pub returns-clause-untold : goal.returns-clause-untold
returns-clause-untold g c = ended_rose (g.W.World.state c.args.world.now).faults (g.W.World.state c.end.new.world).faults c.in-TooManyCommands.number TooManyCommands _ tt c.end.ensures.ending

pub returns-clause-counts : goal.returns-clause-counts
returns-clause-counts g c = λ before now. ended_counts before now c.in-TooManyCommands.number TooManyCommands _ c.end.ensures.ending
