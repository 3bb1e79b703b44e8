use Rattle.std.proofs.Common.{◌≡◌, ◌-◌, ◌^◌, ◌≤◌}
use Rattle.spk_num.specs.Weights.{attenuated}
use Rattle.spk_num.proofs.weights.attenuated.Given as goal

-- the factors that are taken and those to come are all of them
abbrev pub invariant-factors : goal.invariant-factors
invariant-factors l = record {
  value : attenuated (l.times - l.counter) l.left ≡ attenuated l.times l.value;
  at_most : l.left ≤ 2 ^ 40;
}
