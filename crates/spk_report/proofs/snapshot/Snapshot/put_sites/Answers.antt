use Rattle.std.proofs.Common.{◌+◌, ◌-◌, Ok, arith}
use Rattle.spk_lattice.specs.Layout.{sites_of}
use Rattle.spk_report.specs.Snapshots.{site_text}
use Rattle.spk_report.proofs.SiteLines.{lines_more, lines_stopped, lines_all}
use Rattle.spk_report.proofs.snapshot.Snapshot.put_sites.Goals as goal

pub loop-id-preserved : goal.loop-id-preserved
loop-id-preserved g c = record {
  puts = lines_more c.args.file.now (site_text c.args.self.now.head c.args.self.now.lattice c.args.self.now.fields.now c.args.self.now.values.now) (sites_of c.args.self.now.lattice) c.loop-id.id
      _ (g.W.World.state c.loop-id.world) _ _ c.loop-id.buffer.text.items _ (Ok tt) (omega arith) (omega arith) c.loop-id.invariant.puts c.in_ok-put_site.ensures.puts;
  room = c.put_site.ensures.room;
}

pub returns-in_err-put_site-clause-puts : goal.returns-in_err-put_site-clause-puts
returns-in_err-put_site-clause-puts g c =
    lines_stopped c.args.file.now (site_text c.args.self.now.head c.args.self.now.lattice c.args.self.now.fields.now c.args.self.now.values.now) (sites_of c.args.self.now.lattice) c.loop-id.id
    _ (g.W.World.state c.loop-id.world) _ _ c.loop-id.buffer.text.items _ _ _ (omega arith) (omega arith) c.loop-id.invariant.puts c.in_err-put_site.ensures.puts c.from_residual.ensures.1

pub returns-clause-puts : goal.returns-clause-puts
returns-clause-puts g c =
    lines_all c.args.file.now (site_text c.args.self.now.head c.args.self.now.lattice c.args.self.now.fields.now c.args.self.now.values.now) (sites_of c.args.self.now.lattice) (c.loop-id.id - 1)
    _ _ _ _ (omega arith) c.loop-id.invariant.puts

pub returns-in_ok-put_site-clause-puts : goal.returns-in_ok-put_site-clause-puts
returns-in_ok-put_site-clause-puts g c =
    lines_all c.args.file.now (site_text c.args.self.now.head c.args.self.now.lattice c.args.self.now.fields.now c.args.self.now.values.now) (sites_of c.args.self.now.lattice) (c.loop-id.id + 1 - 1)
    _ _ _ _ (omega arith)
    (lines_more c.args.file.now (site_text c.args.self.now.head c.args.self.now.lattice c.args.self.now.fields.now c.args.self.now.values.now) (sites_of c.args.self.now.lattice) c.loop-id.id
    _ (g.W.World.state c.loop-id.world) _ _ c.loop-id.buffer.text.items _ (Ok tt) (omega arith) (omega arith) c.loop-id.invariant.puts c.in_ok-put_site.ensures.puts)
