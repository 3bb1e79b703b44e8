use Rattle.spk_script.specs.States.{new_state as new_machine}
use Rattle.spk_run.proofs.Obeying.{command_whole, command_refused, command_stopped, ended_later}
use Rattle.spk_run.proofs.script.obey_command.Goals as goal

pub returns-in_err-obey_or_refuse-clause-wrote : goal.returns-in_err-obey_or_refuse-clause-wrote
returns-in_err-obey_or_refuse-clause-wrote g c = λ state.
    command_stopped state c.args.session.now.state _ c.args.number c.args.command.now _ c.from_residual.ensures.1 c.in_err-obey_or_refuse.ensures.wrote

pub returns-in-Ok-clause-wrote : goal.returns-in-Ok-clause-wrote
returns-in-Ok-clause-wrote g c = λ state.
    command_whole state c.args.session.now.state _ c.args.number c.args.command.now (rw c.in-Ok.is at c.in_ok-obey_or_refuse.ensures.wrote)

pub returns-in-Err-clause-wrote : goal.returns-in-Err-clause-wrote
returns-in-Err-clause-wrote g c = λ state.
    command_refused state c.args.session.now.state _ c.args.number c.args.command.now c.in-Err.cause _ (rw c.in-Err.is at c.in_ok-obey_or_refuse.ensures.leaves)
    (rw c.in-Err.is at c.in_ok-obey_or_refuse.ensures.wrote) (c.end.ensures.wrote state)

pub returns-in-Err-clause-untold : goal.returns-in-Err-clause-untold
returns-in-Err-clause-untold g c =
    ended_later (g.W.World.state c.args.world.now) (g.W.World.state c.obey_or_refuse.new.world) (g.W.World.state c.end.new.world) c.args.number c.in-Err.cause c.end.result
    (rw c.in-Err.is at c.in_ok-obey_or_refuse.ensures.untold) (c.end.ensures.wrote new_machine).later c.end.ensures.ending
