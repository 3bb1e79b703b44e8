use Rattle.std.proofs.Common.{rules, ◌≡◌, ◌≤◌, ◌^◌, pos, ap, ◌∙◌}
use Rattle.std.specs.Prelude.{unsigned_abs}
use Rattle.spk_script.specs.Values.{quotient}
use Rattle.spk_script.proofs.Quotients.{product_is}
use Rattle.spk_script.proofs.formula.amount.Amount.result_of.Goals as goal

pub returns-in-Times : goal.returns-in-Times
returns-in-Times c =
    let left : c.from-a.result ≡ c.args.left = search rules in
    let right : c.from-b.result ≡ c.args.right = search rules in
    let left_small : unsigned_abs c.args.left ≤ 10 ^ 18 = rw (← c.left.view_is) c.left.invariant in
    let right_small : unsigned_abs c.args.right ≤ 10 ^ 18 = rw (← c.right.view_is) c.right.invariant in
    rw c.in-Times.is (c.quotient.ensures ∙ ap (λ z. quotient z (pos 1000000))
    (product_is c.args.left c.args.right _ _ left_small right_small left right))
