use Rattle.std.proofs.Common.{arith}
use Rattle.spk_lattice.proofs.Points.{point_near}
use Rattle.spk_lattice.proofs.lattice.Lattice.point.Goals as goal

pub returns-clause-near : goal.returns-clause-near
returns-clause-near c = rw c.coordinates.ensures (point_near c.args.self.now c.args.id (omega (arith, c.requires.exists, c.known.ensures.limit)))
