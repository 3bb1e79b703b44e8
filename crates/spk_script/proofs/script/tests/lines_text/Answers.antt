use Rattle.std.proofs.Common.{◌≡◌, IsSome, ap}
use Rattle.spk_script.specs.Lines.{LogicalLine, line_numbered}
use Rattle.spk_script.proofs.Scripts.{line_is_there}
use Rattle.spk_script.proofs.script.tests.lines_text.Goals as goal

pub raw-byte-items-requires : goal.raw-byte-items-requires
raw-byte-items-requires c =
    let number : c.line.inside.number ≡ c.line-item.result.number = ap (λ (line : LogicalLine). line.number) c.line.view_is in
    let there : IsSome (line_numbered c.lines-line-items.result.now c.line-item.result.number) =
    line_is_there _ _ _ c.loop-line-test.true c.line-item.is in
    rw number (rw c.lines-line-items.ensures.lines at there)
