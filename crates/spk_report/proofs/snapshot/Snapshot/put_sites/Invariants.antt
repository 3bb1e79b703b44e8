use Rattle.std.proofs.Common.{◌≤◌, ◌-◌, flat_map, take, vec_capacity, Ok}
use Rattle.spk_report.specs.Buffers.{Puts}
use Rattle.spk_report.specs.Snapshots.{ids_of, site_text}
use Rattle.spk_report.proofs.snapshot.Snapshot.put_sites.Given as goal

abbrev pub invariant-loop-id : goal.invariant-loop-id
invariant-loop-id g l = record {
  puts : Puts l.file (flat_map (site_text l.self.head l.self.lattice l.self.fields.now l.self.values.now) (take (l.id - 1) (ids_of l.self.lattice))) (g.W.World.state l.initial.world) (g.W.World.state l.world) l.initial.buffer.text.items l.buffer.text.items (Ok tt);
  room : 4096 ≤ vec_capacity l.buffer.text;
}
