use Rattle.std.proofs.Common.{◌≡◌, take}
use Rattle.spk_script.specs.Lines.{raw_of}
use Rattle.spk_script.proofs.Runs.{nows}
use Rattle.spk_script.proofs.logical.raw_of.Given as goal

-- the lines so far
abbrev pub invariant-loop-line : goal.invariant-loop-line
invariant-loop-line l = l.raw.items ≡ raw_of (take l.line-index (nows l.run))
