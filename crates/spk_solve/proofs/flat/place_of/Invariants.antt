use Rattle.std.proofs.Common.{◌≡◌, ◌≤◌, sum, take}
use Rattle.spk_solve.proofs.flat.place_of.Given as goal

abbrev pub invariant-loop-place : goal.invariant-loop-place
invariant-loop-place l = record {
  running : l.passed ≡ sum (take l.place l.weights);
  not_passed : l.passed ≤ l.target;
}
