use Rattle.std.proofs.Common.{◌≡◌, ◌≤◌, ◌*◌, ◌^◌, take}
use Rattle.std.specs.Prelude.{sum_by}
use Rattle.spk_app.specs.Weights.{weight_between}
use Rattle.spk_diffusion.specs.Diffusion.{crowd_but}
use Rattle.spk_diffusion.proofs.diffusion.weighed_sum.Given as goal

abbrev pub invariant-loop-j : goal.invariant-loop-j
invariant-loop-j g l = record {
  so_far : l.sum ≡ sum_by (λ j. weight_between l.weights (crowd_but (g.V.View.sight l.view) l.old j) l.crowd) (take l.j-index l.j-items);
  small : l.sum ≤ l.j-index * 2 ^ 30;
}
