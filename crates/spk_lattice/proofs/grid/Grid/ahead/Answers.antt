use Rattle.std.proofs.Common.{arith}
use Rattle.spk_lattice.proofs.Room.{ahead_small}
use Rattle.spk_lattice.proofs.grid.Grid.ahead.Goals as goal

pub overflow_mul-result : goal.overflow_mul-result
overflow_mul-result c =
    let small = ahead_small _ c.self.inside.points c.args.offset.now.dx c.args.offset.now.dy c.args.offset.now.dz c.args.offset.now.basis c.self.invariant.0 c.self.invariant.1 c.requires.dx c.requires.dy c.requires.dz c.requires.basis in
    omega (arith, small.rows)

pub overflow_add-result-2 : goal.overflow_add-result-2
overflow_add-result-2 c =
    let small = ahead_small _ c.self.inside.points c.args.offset.now.dx c.args.offset.now.dy c.args.offset.now.dz c.args.offset.now.basis c.self.invariant.0 c.self.invariant.1 c.requires.dx c.requires.dy c.requires.dz c.requires.basis in
    omega (arith, small.cell)

pub overflow_mul-result-2 : goal.overflow_mul-result-2
overflow_mul-result-2 c =
    let small = ahead_small _ c.self.inside.points c.args.offset.now.dx c.args.offset.now.dy c.args.offset.now.dz c.args.offset.now.basis c.self.invariant.0 c.self.invariant.1 c.requires.dx c.requires.dy c.requires.dz c.requires.basis in
    omega (arith, small.cells)

pub overflow_add-result-3 : goal.overflow_add-result-3
overflow_add-result-3 c =
    let small = ahead_small _ c.self.inside.points c.args.offset.now.dx c.args.offset.now.dy c.args.offset.now.dz c.args.offset.now.basis c.self.invariant.0 c.self.invariant.1 c.requires.dx c.requires.dy c.requires.dz c.requires.basis in
    omega (arith, small.id)
