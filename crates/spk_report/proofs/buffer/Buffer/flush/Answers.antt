use Rattle.std.proofs.Common.{◌≡◌, ◌<◌, length, arith}
use Rattle.std.proofs.lemmas.Bool.Decides.{nat_tests}
use Rattle.spk_world.proofs.Writes.{wrote_adds, wrote_no_adds}
use Rattle.spk_report.proofs.BufferLaws.{add_failed, flush_failed, flush_puts}
use Rattle.spk_report.proofs.buffer.Buffer.flush.Goals as goal

pub returns-then-is_empty-clause-wrote : goal.returns-then-is_empty-clause-wrote
returns-then-is_empty-clause-wrote g c =
    let empty : length c.args.self.now.text.items ≡ 0 = grind (arith, nat_tests) in
    wrote_no_adds _ _ _ _ empty

pub returns-in-Ok-clause-wrote : goal.returns-in-Ok-clause-wrote
returns-in-Ok-clause-wrote g c =
    let some : 0 < length c.args.self.now.text.items = grind (arith, nat_tests) in
    wrote_adds _ _ _ c.args.file.now c.args.self.now.text.items some (rw (← c.as_slice-text.ensures.value) c.in-Ok.ensures.ok) c.in-Ok.ensures.cause

pub returns-in-Ok-clause-puts : goal.returns-in-Ok-clause-puts
returns-in-Ok-clause-puts g c =
    let some : 0 < length c.args.self.now.text.items = grind (arith, nat_tests) in
    flush_puts c.args.file.now (g.W.World.state c.args.world.now) (g.W.World.state c.add.new.self) c.args.self.now.text.items c.clear.new.self.items c.clear.ensures.items
    (wrote_adds _ _ _ c.args.file.now c.args.self.now.text.items some (rw (← c.as_slice-text.ensures.value) c.in-Ok.ensures.ok) c.in-Ok.ensures.cause)

pub returns-in-Err-clause-wrote : goal.returns-in-Err-clause-wrote
returns-in-Err-clause-wrote g c =
    let some : 0 < length c.args.self.now.text.items = grind (arith, nat_tests) in
    add_failed _ _ c.args.file.now c.args.self.now.text.items _ some (rw (← c.as_slice-text.ensures.value) c.in-Err.ensures.err) c.in-Err.ensures.cause

pub returns-in-Err-clause-puts : goal.returns-in-Err-clause-puts
returns-in-Err-clause-puts g c =
    let some : 0 < length c.args.self.now.text.items = grind (arith, nat_tests) in
    flush_failed c.args.file.now (g.W.World.state c.args.world.now) (g.W.World.state c.add.new.self) c.args.self.now.text.items c.args.self.now.text.items _
    (add_failed _ _ c.args.file.now c.args.self.now.text.items _ some (rw (← c.as_slice-text.ensures.value) c.in-Err.ensures.err) c.in-Err.ensures.cause)
