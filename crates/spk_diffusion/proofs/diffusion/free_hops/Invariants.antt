use Rattle.std.proofs.Common.{◌^◌}
use Rattle.spk_diffusion.proofs.Listing.{FirstHops}
use Rattle.spk_diffusion.proofs.diffusion.free_hops.Given as goal

abbrev pub invariant-loop-mark : goal.invariant-loop-mark
invariant-loop-mark g l = FirstHops (λ _. 2 ^ 30) (g.V.View.sight l.view) l.mark l.j-items l.hops
