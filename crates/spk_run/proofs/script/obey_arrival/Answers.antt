use Rattle.spk_script.specs.MachineStates.{state_of}
use Rattle.spk_world.proofs.EffectLaws.{wrote_answer}
use Rattle.spk_run.proofs.Obeying.{counts_on}
use Rattle.spk_run.proofs.script.obey_arrival.Goals as goal

pub returns-in-End-clause-wrote : goal.returns-in-End-clause-wrote
returns-in-End-clause-wrote g c = rw c.in-End.is wrote_answer

pub returns-in-At-clause-counts : goal.returns-in-At-clause-counts
returns-in-At-clause-counts g c = λ before counts.
    counts_on before (state_of c.args.machine.now.state) (state_of c.obey_line.new.machine.state) c.in-At.number c.obey_line.result
    (rw c.in-At.is at counts) c.obey_line.ensures.arrivals
