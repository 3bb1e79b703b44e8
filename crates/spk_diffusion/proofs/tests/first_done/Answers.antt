use Rattle.std.proofs.Common.{◌-◌, arith}
use Rattle.spk_app.specs.PlainViews.{sight_of}
use Rattle.spk_diffusion.proofs.Viewing.{all_seen, first_mark}
use Rattle.spk_diffusion.proofs.tests.first_done.Goals as goal

pub events-events-requires-clause-seen : goal.events-events-requires-clause-seen
events-events-requires-clause-seen g c = all_seen (sight_of c.args.view.now).near (g.A.App.PROP - 1) c.args.place

pub apply-requires-clause-seen : goal.apply-requires-clause-seen
apply-requires-clause-seen g c = all_seen (sight_of c.args.view.now).near (g.A.App.PROP - 1) c.args.place

pub apply-requires-clause-event : goal.apply-requires-clause-event
apply-requires-clause-event g c = first_mark c.events-events.result _ c.events-events.ensures.events (omega arith)
