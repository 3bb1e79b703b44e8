use Rattle.std.proofs.Common.{◌≡◌, ◌<◌, length, arith}
use Rattle.std.proofs.lemmas.Bool.Decides.{nat_tests}
use Rattle.spk_world.proofs.Writes.{wrote_no_says, wrote_says}
use Rattle.spk_report.proofs.BufferLaws.{screen_failed}
use Rattle.spk_report.proofs.report.say.Goals as goal

pub returns-then-is_empty-clause-wrote : goal.returns-then-is_empty-clause-wrote
returns-then-is_empty-clause-wrote g c name =
    let empty : length c.args.text.now ≡ 0 = grind (arith, nat_tests) in
    wrote_no_says _ _ _ empty

pub returns-in-Ok-clause-wrote : goal.returns-in-Ok-clause-wrote
returns-in-Ok-clause-wrote g c name = wrote_says _ _ _ _ c.in-Ok.ensures.ok c.in-Ok.ensures.cause

pub returns-in-Err-clause-wrote : goal.returns-in-Err-clause-wrote
returns-in-Err-clause-wrote g c name =
    let some : 0 < length c.args.text.now = grind (arith, nat_tests) in
    screen_failed _ _ name _ _ some c.in-Err.ensures.err c.in-Err.ensures.cause
