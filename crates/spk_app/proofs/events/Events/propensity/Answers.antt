use Rattle.std.proofs.Common.{arith}
use Rattle.spk_app.proofs.Listed.{propensity_more}
use Rattle.spk_app.proofs.events.Events.propensity.Goals as goal

pub weights-preserved : goal.weights-preserved
weights-preserved c = record {
  sum_is = propensity_more c.args.self.now c.weights.k c.weights.sum c.from-sum.result c.weights.invariant.sum_is c.from-sum.ensures;
  room = omega (arith, c.weights.invariant.room);
}
