use Rattle.spk_run.proofs.Obeying.{ended_whole, ended_not}
use Rattle.spk_run.proofs.script.end.Goals as goal

pub returns-in_err-ending-clause-wrote : goal.returns-in_err-ending-clause-wrote
returns-in_err-ending-clause-wrote g c = λ state. ended_not state c.args.session.now.state c.args.number c.args.cause _ c.from_residual.ensures.1 c.in_err-ending.ensures.wrote

pub returns-clause-wrote : goal.returns-clause-wrote
returns-clause-wrote g c = λ state. ended_whole state c.args.session.now.state c.args.number c.args.cause c.in_ok-ending.ensures.wrote
