use Rattle.std.proofs.Common.{◌≡◌, ◌<◌, length, arith}
use Rattle.std.proofs.lemmas.Bool.Decides.{nat_tests}
use Rattle.spk_world.proofs.Writes.{wrote_adds, wrote_no_adds}
use Rattle.spk_report.proofs.BufferLaws.{file_failed}
use Rattle.spk_report.proofs.report.add.Goals as goal

pub returns-then-is_empty : goal.returns-then-is_empty
returns-then-is_empty g c =
    let empty : length c.args.text.now ≡ 0 = grind (arith, nat_tests) in
    wrote_no_adds _ _ _ _ empty

pub returns-in-Ok : goal.returns-in-Ok
returns-in-Ok g c =
    let some : 0 < length c.args.text.now = grind (arith, nat_tests) in
    wrote_adds _ _ _ _ _ some c.in-Ok.ensures.ok c.in-Ok.ensures.cause

pub returns-in-Err : goal.returns-in-Err
returns-in-Err g c =
    let some : 0 < length c.args.text.now = grind (arith, nat_tests) in
    file_failed _ _ _ _ _ some c.in-Err.ensures.err c.in-Err.ensures.cause
