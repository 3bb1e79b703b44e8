use Rattle.std.proofs.Common.{◌-◌}
use Rattle.spk_app.specs.PlainViews.{places_beside}
use Rattle.spk_potts.proofs.Surroundings.{all_around}
use Rattle.spk_potts.proofs.tests.tried.Goals as goal

pub trial-changed-requires-clause-seen : goal.trial-changed-requires-clause-seen
trial-changed-requires-clause-seen g c = all_around (places_beside c.args.sites.lattice) (g.A.App.PROP - 1) c.args.place
