use Rattle.std.proofs.Common.{arith}
use Rattle.spk_lattice.proofs.Rows.{first_none, first_room, first_step, first_all, first_past}
use Rattle.spk_lattice.proofs.table.row_at.Goals as goal

pub loop-k-init : goal.loop-k-init
loop-k-init c = first_none c.args.grid.now c.args.basis c.points-points.result

pub consider-requires-clause-room : goal.consider-requires-clause-room
consider-requires-clause-room c = λ does.
    first_room c.args.grid.now c.args.basis c.points-points.result c.loop-k.k c.offset_at.result c.loop-k.row c.points-points.ensures.count c.loop-k-test.true c.offset_at.ensures.offset c.loop-k.invariant does

pub loop-k-preserved : goal.loop-k-preserved
loop-k-preserved c =
    first_step c.args.grid.now c.args.basis c.points-points.result c.loop-k.k c.offset_at.result c.loop-k.row c.consider.new.row c.points-points.ensures.count c.loop-k-test.true c.offset_at.ensures.offset c.loop-k.invariant c.consider.ensures

pub returns-after-loop-k : goal.returns-after-loop-k
returns-after-loop-k c =
    first_all c.args.grid.now c.args.basis c.points-points.result c.loop-k.k c.loop-k.row c.points-points.ensures.count c.if-basis-points.true (omega arith) c.loop-k.invariant

pub returns-else-basis-points : goal.returns-else-basis-points
returns-else-basis-points c = first_past c.args.grid.now c.args.basis c.points-points.result c.points-points.ensures.count c.if-basis-points.false
