use Rattle.std.proofs.Common.{◌≡◌, length}
use Rattle.spk_script.specs.Frames.{settled}
use Rattle.spk_script.proofs.formula.stack.Stack.settle.Given as goal

-- what is left makes the same of the number as all did at first
abbrev pub invariant-loop-frame : goal.invariant-loop-frame
invariant-loop-frame l = settled l.before_product l.initial.self l.initial.value ≡ settled l.before_product l.self l.value

abbrev pub decreases-loop-frame : goal.decreases-loop-frame
decreases-loop-frame l = length l.self
