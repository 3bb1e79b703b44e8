use Rattle.std.proofs.Common.{ap, ◌∙◌}
use Rattle.spk_potts.specs.Ising.{IsingSettings}
use Rattle.spk_potts.proofs.IsingSteps.{same_events}
use Rattle.spk_potts.proofs.ising.IsingApp.events.Goals as goal

pub returns-clause-events : goal.returns-clause-events
returns-clause-events g c =
    same_events c.args.self.now.temperature (g.V.View.sight c.args.view.now) c.args.i c.self.inside.weights c.value.result c.as_slice.result.now c.events_of.result
    c.events_of.ensures.events (ap (λ (a : IsingSettings). a.temperature) c.self.view_is) c.value.ensures (c.as_slice.ensures.values ∙ c.read_near.ensures)
