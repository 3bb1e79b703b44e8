use Rattle.std.proofs.Common.{◌≡◌, ap, ◌∙◌, get_or}
use Rattle.spk_app.specs.Applications.{Trial}
use Rattle.spk_app.specs.Sights.{with_written}
use Rattle.spk_potts.specs.Potts.{near_trial}
use Rattle.spk_potts.specs.Trials.{judged}
use Rattle.spk_potts.proofs.PottsSteps.{near_judged}
use Rattle.spk_potts.proofs.potts.near_trial.Goals as goal

is_near_trial : (g : _) (c : goal.After-judge g)
    → judged c.args.i (get_or c.as_slice-others.result.now c.below.result 0) c.weight_to-weight.result c.below.new.self ≡ near_trial c.args.weights.now (g.V.View.sight c.args.view.now) c.args.i c.args.stream.now
is_near_trial g c =
    near_judged c.args.weights.now (g.V.View.sight c.args.view.now) c.args.i c.value-own.result c.below.result c.weight_to-weight.result c.below.new.self c.args.stream.now c.as_slice-near.result.now c.as_slice-others.result.now
    c.value-own.ensures (c.as_slice-near.ensures.values ∙ c.read_near.ensures) (c.as_slice-others.ensures.values ∙ c.other_values-others.ensures) c.below.ensures.state c.below.ensures.number c.below.ensures.below c.weight_to-weight.ensures

pub returns-clause-sight : goal.returns-clause-sight
returns-clause-sight g c = c.judge.ensures.sight ∙ ap (λ (trial : Trial). with_written trial.writes (g.V.View.sight c.args.view.now)) (is_near_trial g c)

pub returns-clause-stream : goal.returns-clause-stream
returns-clause-stream g c = c.judge.ensures.stream ∙ ap (λ (trial : Trial). trial.stream) (is_near_trial g c)

pub returns-clause-changed : goal.returns-clause-changed
returns-clause-changed g c = c.judge.ensures.changed ∙ ap (λ (trial : Trial). trial.changed) (is_near_trial g c)
