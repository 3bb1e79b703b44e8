use Rattle.spk_lattice.proofs.Ways.{near_degree}
use Rattle.spk_lattice.proofs.reach.site_of.Goals as goal

pub returns-clause-degree : goal.returns-clause-degree
returns-clause-degree c = near_degree c.args.grid.now c.args.id c.known.ensures c.requires
