use Rattle.std.proofs.Common.{◌≡◌, length}
use Rattle.spk_script.specs.Lines.{from_end}
use Rattle.spk_script.proofs.continuation.without_blanks.Given as goal

-- what is cut off is blank
abbrev pub invariant-loop-rest : goal.invariant-loop-rest
invariant-loop-rest l = from_end l.rest ≡ from_end l.line

abbrev pub decreases-loop-rest : goal.decreases-loop-rest
decreases-loop-rest l = length l.rest
