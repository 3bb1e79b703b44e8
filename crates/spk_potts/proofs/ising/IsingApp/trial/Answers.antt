use Rattle.std.proofs.Common.{◌≡◌, ◌+◌, ap, ◌∙◌}
use Rattle.spk_app.specs.Applications.{Trial}
use Rattle.spk_app.specs.Sights.{with_written}
use Rattle.spk_potts.specs.Trials.{proposed}
use Rattle.spk_potts.specs.Ising.{ising_trial}
use Rattle.spk_potts.proofs.IsingSteps.{other_proposed, draw_proposed}
use Rattle.spk_potts.proofs.ising.IsingApp.trial.Goals as goal

of_other : (g : _) (c : goal.After-propose g)
    → proposed c.self.inside.weights (g.V.View.sight c.args.view.now) c.args.i c.other_value-other.result c.args.stream.now ≡ ising_trial c.args.self.now (g.V.View.sight c.args.view.now) c.args.i c.args.stream.now
of_other g c =
    other_proposed c.args.self.now c.self.inside.single c.self.inside.style c.self.inside.weights (g.V.View.sight c.args.view.now) c.args.i c.value.result c.other_value-other.result c.args.stream.now
    c.self.view_is c.if-self.true c.value.ensures c.other_value-other.ensures

of_draw : (g : _) (c : goal.After-propose-else-self g)
    → proposed c.self.inside.weights (g.V.View.sight c.args.view.now) c.args.i (1 + c.below.result) c.below.new.self ≡ ising_trial c.args.self.now (g.V.View.sight c.args.view.now) c.args.i c.args.stream.now
of_draw g c =
    draw_proposed c.args.self.now c.self.inside.single c.self.inside.style c.self.inside.weights (g.V.View.sight c.args.view.now) c.args.i c.below.result c.below.new.self c.args.stream.now
    c.self.view_is c.if-self.false c.below.ensures.state c.below.ensures.number

pub returns-then-self-clause-sight : goal.returns-then-self-clause-sight
returns-then-self-clause-sight g c = c.propose.ensures.sight ∙ ap (λ (trial : Trial). with_written trial.writes (g.V.View.sight c.args.view.now)) (of_other g c)

pub returns-then-self-clause-stream : goal.returns-then-self-clause-stream
returns-then-self-clause-stream g c = c.propose.ensures.stream ∙ ap (λ (trial : Trial). trial.stream) (of_other g c)

pub returns-then-self-clause-changed : goal.returns-then-self-clause-changed
returns-then-self-clause-changed g c = c.propose.ensures.changed ∙ ap (λ (trial : Trial). trial.changed) (of_other g c)

pub returns-else-self-clause-sight : goal.returns-else-self-clause-sight
returns-else-self-clause-sight g c = c.propose-else-self.ensures.sight ∙ ap (λ (trial : Trial). with_written trial.writes (g.V.View.sight c.args.view.now)) (of_draw g c)

pub returns-else-self-clause-stream : goal.returns-else-self-clause-stream
returns-else-self-clause-stream g c = c.propose-else-self.ensures.stream ∙ ap (λ (trial : Trial). trial.stream) (of_draw g c)

pub returns-else-self-clause-changed : goal.returns-else-self-clause-changed
returns-else-self-clause-changed g c = c.propose-else-self.ensures.changed ∙ ap (λ (trial : Trial). trial.changed) (of_draw g c)
