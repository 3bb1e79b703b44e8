use Rattle.std.proofs.Common.{◌≡◌, ◌+◌, ◌-◌, ◌*◌, ◌^◌, ◌≤◌}
use Rattle.spk_num.specs.Weights.{alternating, series}
use Rattle.spk_num.proofs.weights.series.Given as goal

-- the terms that are taken and those to come are the series
abbrev pub invariant-pairs : goal.invariant-pairs
invariant-pairs l = record {
  value : l.value + alternating (16 - 2 * l.pair) l.term (2 * l.pair) l.fraction ≡ series l.fraction;
  at_most : l.value + l.term ≤ 2 ^ 40;
}
