use Rattle.std.proofs.Common.{◌≡◌, ◌-◌, Ok, arith}
use Rattle.spk_script.specs.States.{with_settings, new_state as new_machine}
use Rattle.spk_script.specs.MachineStates.{state_of}
use Rattle.spk_world.proofs.Loops.{goes_from_start, goes_after, goes_no_further, goes_to_end}
use Rattle.spk_run.proofs.Obeying.{stops_for_memory, next_of, nothing_arrived, since_start, since_wrote, ending_since}
use Rattle.spk_run.proofs.script.run_script.Goals as goal

pub returns-in_err-machine-clause-wrote : goal.returns-in_err-machine-clause-wrote
returns-in_err-machine-clause-wrote g c = stops_for_memory c.from_residual.ensures.1

pub returns-in_err-obey_next-clause-wrote : goal.returns-in_err-obey_next-clause-wrote
returns-in_err-obey_next-clause-wrote g c =
    let on = rw (next_of c.loop-machine.machine.script (state_of c.loop-machine.machine.state) c.loop-machine.session.state c.loop-machine.machine.state.arrivals c.loop-machine.invariant.few) at c.loop-machine.invariant.going in
    goes_no_further _ on c.from_residual-in_err-obey_next.ensures.1 c.in_err-obey_next.ensures.wrote

pub returns-in-Ends-clause-wrote : goal.returns-in-Ends-clause-wrote
returns-in-Ends-clause-wrote g c =
    let on = rw (next_of c.loop-machine.machine.script (state_of c.loop-machine.machine.state) c.loop-machine.session.state c.loop-machine.machine.state.arrivals c.loop-machine.invariant.few) at c.loop-machine.invariant.going in
    goes_to_end (goes_after _ on (rw c.in-Ends.is at c.in_ok-obey_next.ensures.wrote))

pub returns-in-Ends-clause-untold : goal.returns-in-Ends-clause-untold
returns-in-Ends-clause-untold g c =
    ending_since (g.W.World.state c.obey_next.new.world).faults (Ok c.in-Ends.ending) c.loop-machine.invariant.since (rw c.in-Ends.is at c.in_ok-obey_next.ensures.untold)

pub loop-machine-preserved : goal.loop-machine-preserved
loop-machine-preserved g c =
    let on = rw (next_of c.loop-machine.machine.script (state_of c.loop-machine.machine.state) c.loop-machine.session.state c.loop-machine.machine.state.arrivals c.loop-machine.invariant.few) at c.loop-machine.invariant.going in
    let step = rw c.in-GoesOn.is at c.in_ok-obey_next.ensures.counts in
    let same : c.obey_next.new.machine.script ≡ c.loop-machine.machine.script = c.in_ok-obey_next.ensures.script in
    let fewer : 1000000 - c.loop-machine.machine.state.arrivals ≡ 1000001 - c.obey_next.new.machine.state.arrivals = omega (arith, step.counted) in
    record {
      few = step.few;
      going = rw (same, ← fewer) (goes_after _ on (rw c.in-GoesOn.is at c.in_ok-obey_next.ensures.wrote));
      since = since_wrote c.loop-machine.invariant.since c.in_ok-obey_next.ensures.wrote;
    }

pub loop-machine-init : goal.loop-machine-init
loop-machine-init g c =
    let state : state_of c.in_ok-machine.machine.state ≡ with_settings new_machine c.args.vars.now = c.in_ok-machine.ensures.1 in
    let none : c.in_ok-machine.machine.state.arrivals ≡ 0 = nothing_arrived _ c.args.vars.now state in
    record {
      few = omega (arith, none);
      going = rw (state, none, c.in_ok-machine.ensures.0) goes_from_start;
      since = since_start;
    }
