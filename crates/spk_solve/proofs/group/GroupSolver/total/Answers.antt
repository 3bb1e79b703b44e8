use Rattle.spk_solve.proofs.Keeps.{kept_below}
use Rattle.spk_solve.proofs.group.GroupSolver.total.Goals as goal

pub returns-clause-below : goal.returns-clause-below
returns-clause-below c = kept_below _ _ _ c.self.invariant.kept
