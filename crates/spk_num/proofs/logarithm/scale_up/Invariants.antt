use Rattle.std.proofs.Common.{◌≡◌, ◌+◌, ◌-◌, ◌*◌, ◌^◌, ◌<◌, ◌≤◌}
use Rattle.spk_num.specs.Logarithm.{doublings}
use Rattle.spk_num.proofs.logarithm.scale_up.Given as goal

-- the draw is doubled as often as the shift says, and the doublings to come complete the draw's
abbrev pub invariant-loop-value : goal.invariant-loop-value
invariant-loop-value l = record {
  value : l.value ≡ l.x * 2 ^ l.shift;
  power : 2 ^ l.shift ≤ l.value;
  shift : l.shift + doublings (30 - l.shift) l.value ≡ doublings 30 l.x;
  few : l.shift ≤ 30;
  small : l.value < 2 ^ 31;
}

abbrev pub decreases-loop-value : goal.decreases-loop-value
decreases-loop-value l = 2 ^ 31 - l.value
