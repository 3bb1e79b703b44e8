use Rattle.std.proofs.Common.{◌∙◌, sym}
use Rattle.spk_run.proofs.Obeying.{refused_line, out_of_memory, ended_rose, of_state_rose}
use Rattle.spk_run.proofs.script.refuse_line.Goals as goal

pub returns-in-Some-clause-wrote : goal.returns-in-Some-clause-wrote
returns-in-Some-clause-wrote g c = λ plain state failed.
    rw (refused_line c.args.number c.args.session.now.state plain c.args.fault c.in-Some.cause failed (sym c.of_line.ensures.cause ∙ c.in-Some.is))
    (c.end.ensures.wrote state)

pub returns-in-Some-clause-untold : goal.returns-in-Some-clause-untold
returns-in-Some-clause-untold g c =
    ended_rose (g.W.World.state c.args.world.now).faults (g.W.World.state c.end.new.world).faults c.args.number c.in-Some.cause _ (of_state_rose (g.W.World.state c.args.world.now).faults (g.W.World.state c.end.new.world).faults c.in-Some.cause (rw c.in-Some.is at c.of_line.ensures.of_state)) c.end.ensures.ending

pub returns-in-None-clause-wrote : goal.returns-in-None-clause-wrote
returns-in-None-clause-wrote g c = λ plain state failed. out_of_memory
