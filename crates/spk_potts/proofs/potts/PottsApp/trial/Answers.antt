use Rattle.std.proofs.Common.{◌≡◌, ◌+◌, ap, ◌∙◌}
use Rattle.spk_num.specs.Draws.{below_of}
use Rattle.spk_app.specs.Applications.{Trial}
use Rattle.spk_app.specs.Sights.{with_written}
use Rattle.spk_potts.specs.Trials.{proposed}
use Rattle.spk_potts.specs.Potts.{potts_trial}
use Rattle.spk_potts.proofs.PottsSteps.{draw_proposed}
use Rattle.spk_potts.proofs.potts.PottsApp.trial.Goals as goal

of_draw : (g : _) (c : goal.After-propose g)
    → proposed c.self.inside.weights (g.V.View.sight c.args.view.now) c.args.i (1 + c.below.result) c.below.new.self ≡ potts_trial c.args.self.now (g.V.View.sight c.args.view.now) c.args.i c.args.stream.now
of_draw g c =
    draw_proposed c.args.self.now c.self.inside.q c.self.inside.neighonly c.self.inside.style c.self.inside.weights (g.V.View.sight c.args.view.now) c.args.i c.below.result c.below.new.self c.args.stream.now
    c.self.view_is c.if-self.false c.below.ensures.state (c.below.ensures.number ∙ ap (λ n. below_of n c.below.new.self) c.from.ensures)

pub returns-else-self-clause-sight : goal.returns-else-self-clause-sight
returns-else-self-clause-sight g c = c.propose.ensures.sight ∙ ap (λ (trial : Trial). with_written trial.writes (g.V.View.sight c.args.view.now)) (of_draw g c)

pub returns-else-self-clause-stream : goal.returns-else-self-clause-stream
returns-else-self-clause-stream g c = c.propose.ensures.stream ∙ ap (λ (trial : Trial). trial.stream) (of_draw g c)

pub returns-else-self-clause-changed : goal.returns-else-self-clause-changed
returns-else-self-clause-changed g c = c.propose.ensures.changed ∙ ap (λ (trial : Trial). trial.changed) (of_draw g c)
