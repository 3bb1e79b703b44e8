use Rattle.spk_report.specs.Snapshots.{name_text}
use Rattle.spk_report.proofs.BufferLaws.{puts_stopped}
use Rattle.spk_report.proofs.snapshot.Snapshot.put_each_name.Goals as goal

pub returns-in_err-put_name-clause-puts : goal.returns-in_err-put_name-clause-puts
returns-in_err-put_name-clause-puts g c =
    puts_stopped c.args.file.now name_text c.args.self.now.fields.now c.loop-field.field-index _ _ (g.W.World.state c.loop-field.world) _ _ c.loop-field.buffer.text.items _ _ _
    c.loop-field-test.true c.loop-field.invariant.puts c.in_err-put_name.ensures.puts c.from_residual.ensures.1
