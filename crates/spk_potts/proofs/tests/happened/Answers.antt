use Rattle.std.proofs.Common.{◌-◌, arith}
use Rattle.spk_app.specs.PlainViews.{places_beside, sight_of}
use Rattle.spk_potts.proofs.Surroundings.{all_around, has_mark_of}
use Rattle.spk_potts.proofs.tests.happened.Goals as goal

pub events-events-requires-clause-seen : goal.events-events-requires-clause-seen
events-events-requires-clause-seen g c = all_around (places_beside c.args.sites.lattice) (g.A.App.PROP - 1) c.args.place

pub apply-requires-clause-seen : goal.apply-requires-clause-seen
apply-requires-clause-seen g c = all_around (places_beside c.args.sites.lattice) (g.A.App.PROP - 1) c.args.place

pub apply-requires-clause-event : goal.apply-requires-clause-event
apply-requires-clause-event g c =
    has_mark_of c.events-events.result ((g.A.App.rules c.args.app.now).events (sight_of c.args.sites) c.args.place) c.args.event c.events-events.ensures.events (omega arith)
