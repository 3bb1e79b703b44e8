use Rattle.spk_script.specs.MachineStates.{state_of}
use Rattle.spk_run.proofs.Obeying.{next_arrived, counted_at, one_too_many, holds_untold}
use Rattle.spk_run.proofs.script.obey_next.Goals as goal

pub returns-in-Ok-clause-wrote : goal.returns-in-Ok-clause-wrote
returns-in-Ok-clause-wrote g c =
    next_arrived c.args.machine.now.script _ (state_of c.args.machine.now.state) _ c.args.session.now.state _ _ _ c.next_line.ensures.script c.next_line.ensures.arrival c.in-Ok.is
    c.obey_arrival.ensures.wrote

pub returns-in-Ok-clause-counts : goal.returns-in-Ok-clause-counts
returns-in-Ok-clause-counts g c = c.obey_arrival.ensures.counts _ (counted_at c.args.machine.now.script _ _ _ _ c.next_line.ensures.arrival c.in-Ok.is)

pub refuse_arrival-requires : goal.refuse_arrival-requires
refuse_arrival-requires g c = one_too_many c.next_line.new.self.script (state_of c.next_line.new.self.state) c.in-Err.fault (rw c.in-Err.is at c.next_line.ensures.stands)

pub returns-in-Err-clause-wrote : goal.returns-in-Err-clause-wrote
returns-in-Err-clause-wrote g c =
    next_arrived c.args.machine.now.script _ (state_of c.args.machine.now.state) _ c.args.session.now.state _ _ _ c.next_line.ensures.script c.next_line.ensures.arrival c.in-Err.is
    (c.refuse_arrival.ensures.wrote c.next_line.new.self.script _)

pub returns-in-Err-clause-untold : goal.returns-in-Err-clause-untold
returns-in-Err-clause-untold g c = holds_untold _ _ c.refuse_arrival.ensures.untold

pub returns-in-Err-clause-counts : goal.returns-in-Err-clause-counts
returns-in-Err-clause-counts g c = c.refuse_arrival.ensures.counts _ _
