use Rattle.std.proofs.Common.{◌≡◌, take, drop}
use Rattle.spk_script.specs.Lines.{runs_of}
use Rattle.spk_script.proofs.Runs.{nows, with_run}
use Rattle.spk_script.proofs.logical.length_of_first.Given as goal

-- the lines so far go on
abbrev pub invariant-loop-index : goal.invariant-loop-index
invariant-loop-index l = runs_of (nows l.lines) ≡ with_run (take l.index (nows l.lines)) (runs_of (drop l.index (nows l.lines)))
