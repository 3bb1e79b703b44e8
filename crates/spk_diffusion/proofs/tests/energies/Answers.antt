use Rattle.std.proofs.Common.{◌-◌}
use Rattle.spk_app.specs.PlainViews.{sight_of}
use Rattle.spk_diffusion.proofs.Viewing.{all_seen}
use Rattle.spk_diffusion.proofs.tests.energies.Goals as goal

pub energy-requires-clause-seen : goal.energy-requires-clause-seen
energy-requires-clause-seen g c = all_seen (sight_of c.args.view.now).near (g.A.App.PROP - 1) c.loop-place.place
