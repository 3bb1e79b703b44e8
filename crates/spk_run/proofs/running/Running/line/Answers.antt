use Rattle.spk_sched.specs.Globals.{kinetics_of}
use Rattle.spk_run.proofs.RunSteps.{line_at}
use Rattle.spk_run.proofs.running.Running.line.Goals as goal

pub returns : goal.returns
returns g c = λ rule settings domain done one has.
    line_at (kinetics_of (g.A.App.rules c.args.app.now) rule) settings domain done c.args.self.now _ _ one c.requires.show c.known.ensures.patch c.plus.ensures c.energy.ensures has
