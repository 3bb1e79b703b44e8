use Rattle.std.proofs.Common.{◌≡◌, take}
use Rattle.spk_script.specs.Lines.{text_of}
use Rattle.spk_script.proofs.Runs.{nows}
use Rattle.spk_script.proofs.logical.text_of.Given as goal

-- the lines so far
abbrev pub invariant-loop-line : goal.invariant-loop-line
invariant-loop-line l = l.text.items ≡ text_of (take l.line-index (nows l.run))
