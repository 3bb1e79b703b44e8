use Rattle.std.proofs.Common.{arith}
use Rattle.spk_num.proofs.LogarithmSteps.{bits_fit}
use Rattle.spk_num.proofs.logarithm.bits_of.Goals as goal

pub with_next_bit-log-requires-clause-room : goal.with_next_bit-log-requires-clause-room
with_next_bit-log-requires-clause-room c = bits_fit c.bits.counter 24 _ c.bits.invariant.found (omega arith)
