use Rattle.spk_report.specs.Snapshots.{next_text}
use Rattle.spk_report.proofs.BufferLaws.{puts_stopped}
use Rattle.spk_report.proofs.snapshot.Snapshot.put_others.Goals as goal

pub returns-in_err-put_next-clause-puts : goal.returns-in_err-put_next-clause-puts
returns-in_err-put_next-clause-puts g c =
    puts_stopped c.args.file.now (next_text c.args.self.now.head c.args.self.now.lattice c.args.self.now.values.now c.args.id) c.args.others.now c.loop-field.field-index _ _ (g.W.World.state c.loop-field.world) _ _ c.loop-field.buffer.text.items _ _ _
    c.loop-field-test.true c.loop-field.invariant.puts c.in_err-put_next.ensures.puts c.from_residual.ensures.1
