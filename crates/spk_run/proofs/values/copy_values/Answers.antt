use Rattle.std.proofs.Common.{arith}
use Rattle.spk_run.proofs.values.copy_values.Goals as goal

pub loop-place-init : goal.loop-place-init
loop-place-init c = record { all = c.requires; done = λ k less. absurd (omega (arith, less)) }
