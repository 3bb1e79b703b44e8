use Rattle.spk_app.specs.Weights.{weight_between}
use Rattle.spk_diffusion.specs.Diffusion.{crowd_but}
use Rattle.spk_diffusion.proofs.Listing.{FirstHops}
use Rattle.spk_diffusion.proofs.diffusion.weighed_hops.Given as goal

abbrev pub invariant-loop-mark : goal.invariant-loop-mark
invariant-loop-mark g l = FirstHops (λ j. weight_between l.weights (crowd_but (g.V.View.sight l.view) l.old j) l.crowd) (g.V.View.sight l.view) l.mark l.j-items l.hops
