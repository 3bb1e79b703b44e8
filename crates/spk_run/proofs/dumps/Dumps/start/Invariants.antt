use Rattle.spk_run.specs.Dumps.{started}
use Rattle.spk_run.proofs.DumpSteps.{HaveStepped}
use Rattle.spk_run.proofs.dumps.Dumps.start.Given as goal

abbrev pub invariant-loop-place : goal.invariant-loop-place
invariant-loop-place l = HaveStepped (started l.start) l.initial.self-inside.dumps.items l.self-inside.dumps.items l.place
