use Rattle.std.proofs.Common.{◌≡◌, length}
use Rattle.spk_solve.proofs.tests.filled.Given as goal

abbrev pub invariant-places : goal.invariant-places
invariant-places g l = length (g.S.Solver.list l.solver) ≡ length l.propensities
