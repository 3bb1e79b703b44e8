use Rattle.std.proofs.Common.{arith}
use Rattle.spk_lattice.proofs.Room.{spot_small}
use Rattle.spk_lattice.proofs.grid.Grid.id_of.Goals as goal

pub overflow_mul-result : goal.overflow_mul-result
overflow_mul-result c =
    let small = spot_small _ c.self.inside.points c.args.spot.now c.self.invariant.0 c.self.invariant.1 (rw c.self.view_is c.requires) in
    omega (arith, small.beside)

pub overflow_add-result-2 : goal.overflow_add-result-2
overflow_add-result-2 c =
    let small = spot_small _ c.self.inside.points c.args.spot.now c.self.invariant.0 c.self.invariant.1 (rw c.self.view_is c.requires) in
    omega (arith, small.row)

pub overflow_mul-result-3 : goal.overflow_mul-result-3
overflow_mul-result-3 c =
    let small = spot_small _ c.self.inside.points c.args.spot.now c.self.invariant.0 c.self.invariant.1 (rw c.self.view_is c.requires) in
    omega (arith, small.cells)

pub overflow_add-result-4 : goal.overflow_add-result-4
overflow_add-result-4 c =
    let small = spot_small _ c.self.inside.points c.args.spot.now c.self.invariant.0 c.self.invariant.1 (rw c.self.view_is c.requires) in
    omega (arith, small.id)
