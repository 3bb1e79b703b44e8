use Rattle.std.proofs.Common.{◌-◌}
use Rattle.spk_app.specs.PlainViews.{places_beside}
use Rattle.spk_potts.proofs.Surroundings.{all_around}
use Rattle.spk_potts.proofs.tests.counted.Goals as goal

pub events-requires-clause-seen : goal.events-requires-clause-seen
events-requires-clause-seen g c = all_around (places_beside c.args.sites.now.lattice) (g.A.App.PROP - 1) c.args.place

pub propensity-requires-clause-seen : goal.propensity-requires-clause-seen
propensity-requires-clause-seen g c = all_around (places_beside c.args.sites.now.lattice) (g.A.App.PROP - 1) c.args.place

pub energy-requires-clause-seen : goal.energy-requires-clause-seen
energy-requires-clause-seen g c = all_around (places_beside c.args.sites.now.lattice) (g.A.App.PROP - 1) c.args.place
