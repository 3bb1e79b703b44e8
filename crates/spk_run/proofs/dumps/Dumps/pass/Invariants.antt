use Rattle.spk_run.specs.Dumps.{passed}
use Rattle.spk_run.proofs.DumpSteps.{HaveStepped}
use Rattle.spk_run.proofs.dumps.Dumps.pass.Given as goal

abbrev pub invariant-loop-place : goal.invariant-loop-place
invariant-loop-place l = HaveStepped (passed l.time) l.initial.self-inside.dumps.items l.self-inside.dumps.items l.place
