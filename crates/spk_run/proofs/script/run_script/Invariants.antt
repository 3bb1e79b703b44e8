use Rattle.std.proofs.Common.{◌≤◌, ◌-◌}
use Rattle.spk_script.specs.States.{new_state as new_machine, with_settings}
use Rattle.spk_script.specs.MachineStates.{state_of}
use Rattle.spk_world.proofs.Loops.{GoesOn}
use Rattle.spk_run.specs.Faults.{fault_stop}
use Rattle.spk_run.specs.Plain.{obeys_commands}
use Rattle.spk_run.proofs.Obeying.{Since}
use Rattle.spk_run.proofs.script.run_script.Given as goal

abbrev pub decreases-loop-machine : goal.decreases-loop-machine
decreases-loop-machine g l = 1000001 - l.machine.state.arrivals

abbrev pub invariant-loop-machine : goal.invariant-loop-machine
invariant-loop-machine g l = record {
  few : l.machine.state.arrivals ≤ 1000000;
  going : GoesOn fault_stop (g.W.World.state l.initial.world) (g.W.World.state l.world)
      (obeys_commands 1000001 l.fn.script (with_settings new_machine l.vars) l.initial.session.state)
      (obeys_commands (1000001 - l.machine.state.arrivals) l.machine.script (state_of l.machine.state) l.session.state);
  since : Since (g.W.World.state l.initial.world) (g.W.World.state l.world);
}
