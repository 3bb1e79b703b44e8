use Rattle.spk_script.proofs.Arriving.{arrived_stands}
use Rattle.spk_script.proofs.machine.Machine.next_line.Goals as goal

pub returns-clause-stands : goal.returns-clause-stands
returns-clause-stands c = arrived_stands _ _ _ _ c.arrive.ensures.script.rising c.arrive.ensures.arrival
