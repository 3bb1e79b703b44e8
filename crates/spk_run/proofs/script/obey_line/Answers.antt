use Rattle.std.proofs.Common.{◌≡◌}
use Rattle.spk_num.specs.Results.{IsPlainOrMemory}
use Rattle.spk_script.specs.Faults.{is_memory}
use Rattle.spk_script.specs.Lines.{LogicalLine, line_numbered}
use Rattle.spk_script.specs.Machine.{read}
use Rattle.spk_script.specs.MachineStates.{state_of, read_to}
use Rattle.spk_world.proofs.EffectLaws.{wrote_then, wrote_failed}
use Rattle.spk_run.proofs.Obeying.{line_found, some_holds, course_err, progress_since, since_wrote, since_start}
use Rattle.spk_run.proofs.script.obey_line.Goals as goal

pub returns-in_err-echo-clause-wrote : goal.returns-in_err-echo-clause-wrote
returns-in_err-echo-clause-wrote g c =
    let found = line_found c.args.machine.now.script (state_of c.args.machine.now.state) c.args.number c.requires in
    let raw : c.raw.result.now ≡ found.line.raw = some_holds (line_numbered c.args.machine.now.script c.args.number) (λ (line : LogicalLine). c.raw.result.now ≡ line.raw) found.line found.numbered (rw c.script.ensures at c.raw.ensures) in
    rw found.at (wrote_failed _ (course_err _ _ c.from_residual.result _ c.from_residual.ensures.1) (rw raw at c.in_err-echo.ensures))

pub returns-clause-wrote : goal.returns-clause-wrote
returns-clause-wrote g c =
    let found = line_found c.args.machine.now.script (state_of c.args.machine.now.state) c.args.number c.requires in
    let raw : c.raw.result.now ≡ found.line.raw = some_holds (line_numbered c.args.machine.now.script c.args.number) (λ (line : LogicalLine). c.raw.result.now ≡ line.raw) found.line found.numbered (rw c.script.ensures at c.raw.ensures) in
    let plain : IsPlainOrMemory is_memory (read c.args.machine.now.script (state_of c.args.machine.now.state) found.line) (read_to (state_of c.next_command-step.new.self.state) c.next_command-step.result) =
    some_holds _ _ found.line found.at c.next_command-step.ensures.step in
    rw found.at (wrote_then _ (rw raw at c.in_ok-echo.ensures) (rw found.number_is (c.obey_step.ensures.wrote _ _ plain)))

pub returns-clause-untold : goal.returns-clause-untold
returns-clause-untold g c = progress_since (g.W.World.state c.obey_step.new.world).faults c.obey_step.result (since_wrote since_start c.in_ok-echo.ensures) c.obey_step.ensures.untold
