use Rattle.std.proofs.Common.{◌≡◌, subst, get_or}
use Rattle.spk_app.specs.Weights.{rising_weights}
use Rattle.spk_app.proofs.Weighing.{by_table, between_small}
use Rattle.spk_app.proofs.weight_table.WeightTable.between.Goals as goal

pub returns-clause-weight : goal.returns-clause-weight
returns-clause-weight c =
    let are : rising_weights c.args.self.now ≡ c.self.inside.weights = subst (λ t. rising_weights t ≡ c.self.inside.weights) c.self.view_is c.self.invariant in
    by_table c.args.self.now c.args.before c.args.after c.saturating_sub.result c.self.inside.weights c.saturating_sub.ensures are c.requires

pub returns-clause-small : goal.returns-clause-small
returns-clause-small c =
    let are : rising_weights c.args.self.now ≡ c.self.inside.weights = subst (λ t. rising_weights t ≡ c.self.inside.weights) c.self.view_is c.self.invariant in
    between_small c.args.self.now c.args.before c.args.after (get_or c.self.inside.weights c.saturating_sub.result 0)
    (by_table c.args.self.now c.args.before c.args.after c.saturating_sub.result c.self.inside.weights c.saturating_sub.ensures are c.requires)
