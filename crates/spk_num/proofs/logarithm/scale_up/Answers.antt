use Rattle.std.proofs.Common.{◌<◌, arith}
use Rattle.spk_num.proofs.LogarithmSteps.{doubled_again, shift_below, small_doublings, two_to_next}
use Rattle.spk_num.proofs.logarithm.scale_up.Goals as goal

-- one more doubling
pub loop-value-preserved : goal.loop-value-preserved
loop-value-preserved c =
    let shift = c.loop-value.shift in
    let value = c.loop-value.value in
    let fewer : shift < 30 = shift_below shift value c.loop-value.invariant.power (omega arith) in
    record {
      value = doubled_again shift c.args.x value c.loop-value.invariant.value;
      power = omega (arith, two_to_next shift);
      shift = omega (arith, small_doublings 30 shift value fewer (omega arith));
      few = omega arith;
      small = omega arith;
    }
