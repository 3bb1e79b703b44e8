use Rattle.spk_app.proofs.Listed.{limit_of}
use Rattle.spk_app.proofs.app.App.propensity.Goals as goal

pub returns-clause-limit : goal.returns-clause-limit
returns-clause-limit g c =
    limit_of c.events.result _ c.propensity.result c.propensity.ensures.sum c.events.ensures.events c.events.ensures.few
    ((g.met.Self.App.bounded c.args.self.now).small (g.V.View.sight c.args.view.now) c.args.i)
