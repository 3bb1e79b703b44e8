use Rattle.std.proofs.Common.{◌≤◌, flat_map, take, vec_capacity, Ok}
use Rattle.spk_report.specs.Buffers.{Puts}
use Rattle.spk_report.specs.Snapshots.{next_text}
use Rattle.spk_report.proofs.snapshot.Snapshot.put_others.Given as goal

abbrev pub invariant-loop-field : goal.invariant-loop-field
invariant-loop-field g l = record {
  puts : Puts l.file (flat_map (next_text l.self.head l.self.lattice l.self.values.now l.fn.id) (take l.field-index l.others)) (g.W.World.state l.initial.world) (g.W.World.state l.world) l.initial.buffer.text.items l.buffer.text.items (Ok tt);
  room : 4096 ≤ vec_capacity l.buffer.text;
}
