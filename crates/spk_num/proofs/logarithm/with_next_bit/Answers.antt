use Rattle.std.proofs.Common.{◌*◌, ◌/◌, ◌^◌, ◌≤◌, ◌<◌, arith}
use Rattle.spk_num.proofs.LogarithmSteps.{halved_at_least, square_at_least, square_below}
use Rattle.spk_num.proofs.logarithm.with_next_bit.Goals as goal

pub returns-clause-at_least : goal.returns-clause-at_least
returns-clause-at_least c =
    let low : 2 ^ 62 ≤ c.args.log.rest * c.args.log.rest = square_at_least c.args.log.rest c.requires.at_least in
    let high : c.args.log.rest * c.args.log.rest < 2 ^ 64 = square_below c.args.log.rest c.requires.at_most in
    halved_at_least (c.args.log.rest * c.args.log.rest / 2 ^ 31) (omega arith) (omega arith)
