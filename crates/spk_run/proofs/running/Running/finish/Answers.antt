use Rattle.std.proofs.Common.{sym}
use Rattle.spk_run.proofs.RunSteps.{finished_box}
use Rattle.spk_run.proofs.running.Running.finish.Goals as goal

pub returns-clause-domain : goal.returns-clause-domain
returns-clause-domain c = λ kinetics settings domain one is has. rw (c.copy_from.ensures, c.set_first.ensures, c.plus.ensures) (sym (finished_box kinetics settings domain c.args.self one is has))
