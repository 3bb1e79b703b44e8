use Rattle.std.proofs.Common.{◌≡◌, ap, sym, ◌∙◌}
use Rattle.spk_app.specs.Applications.{Trial}
use Rattle.spk_app.specs.Sights.{with_written}
use Rattle.spk_potts.specs.Trials.{judged, proposed}
use Rattle.spk_potts.proofs.Proposing.{proposed_other}
use Rattle.spk_potts.proofs.proposal.propose.Goals as goal

-- the proposal is judged
is_judged : (g : _) (c : goal.After-judge g)
    → proposed c.args.weights.now (g.V.View.sight c.args.view.now) c.args.i c.args.value c.args.stream.now ≡ judged c.args.i c.args.value c.weight_to-weight.result c.args.stream.now
is_judged g c =
    proposed_other c.args.weights.now (g.V.View.sight c.args.view.now) c.args.i c.value-own.result c.args.value c.weight_to-weight.result c.args.stream.now c.as_slice.result.now
    c.value-own.ensures c.if-value-own.false (c.as_slice.ensures.values ∙ c.read_near.ensures) c.weight_to-weight.ensures

pub returns-clause-sight : goal.returns-clause-sight
returns-clause-sight g c =
    c.judge.ensures.sight ∙ ap (λ (trial : Trial). with_written trial.writes (g.V.View.sight c.args.view.now)) (sym (is_judged g c))

pub returns-clause-stream : goal.returns-clause-stream
returns-clause-stream g c = c.judge.ensures.stream ∙ ap (λ (trial : Trial). trial.stream) (sym (is_judged g c))

pub returns-clause-changed : goal.returns-clause-changed
returns-clause-changed g c = c.judge.ensures.changed ∙ ap (λ (trial : Trial). trial.changed) (sym (is_judged g c))
