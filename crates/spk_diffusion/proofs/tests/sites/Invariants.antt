use Rattle.std.proofs.Common.{All, IsTrue, take}
use Rattle.spk_diffusion.proofs.tests.sites.Given as goal

abbrev pub invariant-loop-v : goal.invariant-loop-v
invariant-loop-v g l = All (λ v. IsTrue ((g.A.App.rules l.app).is_valid v)) (take l.v-index l.v-items)
