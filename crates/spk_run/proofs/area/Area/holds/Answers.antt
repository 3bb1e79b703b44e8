use Rattle.spk_run.proofs.Areas.{all_in, none_in, region_in}
use Rattle.spk_run.proofs.area.Area.holds.Goals as goal

pub returns-in-All : goal.returns-in-All
returns-in-All c = λ name is. all_in c.args.regions.now c.args.lattice.now c.args.id name (rw c.in-All.is at is)

pub returns-in-None : goal.returns-in-None
returns-in-None c = λ name is. none_in c.args.regions.now c.args.lattice.now c.args.id name (rw c.in-None.is at is)

pub returns-in-Region : goal.returns-in-Region
returns-in-Region c = λ name is.
    region_in c.args.regions.now c.args.lattice.now c.args.id c.in-Region.place _ name (rw c.in-Region.is at is) (rw c.point.ensures.point at c.holds_at.ensures)
