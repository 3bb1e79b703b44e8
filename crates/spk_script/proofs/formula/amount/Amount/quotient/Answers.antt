use Rattle.spk_script.proofs.Quotients.{exact_quotient}
use Rattle.spk_script.proofs.formula.amount.Amount.quotient.Goals as goal

pub returns : goal.returns
returns c = exact_quotient c.args.dividend c.args.divisor c.within.result c.ranges.dividend c.ranges.divisor c.requires
    c.if-divisor-eq0.false c.if-dividend-divisor-ne0.false c.within.ensures
