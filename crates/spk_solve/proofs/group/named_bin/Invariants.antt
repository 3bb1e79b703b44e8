use Rattle.std.proofs.Common.{◌≡◌, ◌≤◌, take, drop, sum}
use Rattle.std.specs.Prelude.{slice_index}
use Rattle.spk_solve.specs.Bins.{bins}
use Rattle.spk_solve.specs.Choice.{named, named_from}
use Rattle.spk_solve.proofs.group.named_bin.Given as goal

abbrev pub invariant-bins : goal.invariant-bins
invariant-bins l = record {
  passed : l.passed ≡ sum (take l.bin l.totals);
  not_passed : l.passed ≤ l.target;
  same : named_from (slice_index l.totals) l.passed l.target (drop l.bin bins) ≡ named (slice_index l.totals) l.target bins;
}
