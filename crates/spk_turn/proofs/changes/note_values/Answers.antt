use Rattle.std.proofs.Common.{arith}
use Rattle.spk_turn.proofs.Changing.{noted_more}
use Rattle.spk_turn.proofs.changes.note_values.Goals as goal

pub loop-k-init : goal.loop-k-init
loop-k-init g c = record { all = c.told-values; noted = λ i within. absurd (omega (arith, within)) }

pub loop-k-preserved : goal.loop-k-preserved
loop-k-preserved g c = noted_more _ c.args.places.now c.loop-k.values c.loop-k.k c.value.result (omega (arith, c.loop-k-test.true, c.requires.few)) c.value.ensures c.loop-k.invariant

pub returns : goal.returns
returns g c = λ k less. c.loop-k.invariant.noted k (omega (arith, less, c.loop-k-test.false))
