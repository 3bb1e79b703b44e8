use Rattle.spk_script.proofs.Obeying.{came_to_own, came_to_words}
use Rattle.spk_script.proofs.machine.Machine.obey.Goals as goal

pub returns-in-Some-clause-step : goal.returns-in-Some-clause-step
returns-in-Some-clause-step c = rw c.own.ensures (came_to_own c.args.number c.args.words _ _ _ _ (rw (← c.as_slice.ensures) c.in-Some.ensures.own))

pub returns-in-None-clause-step : goal.returns-in-None-clause-step
returns-in-None-clause-step c = came_to_words c.args.number c.args.words _ _ _ (rw (← c.as_slice.ensures) c.in-None.ensures.own) c.in-None.ensures.same
