use Rattle.std.proofs.Common.{◌^◌, refl}
use Rattle.spk_diffusion.proofs.Listing.{vacant_more, occupied_more, hops_all}
use Rattle.spk_diffusion.proofs.diffusion.free_hops.Goals as goal
use Rattle.spk_diffusion.proofs.diffusion.free_hops.Goals.{then-value-eq-VACANT, else-value-eq-VACANT}

pub loop-mark-preserved : goal.loop-mark-preserved
loop-mark-preserved g c =
    elim c.if-value-eq-VACANT.branch [
      | then-value-eq-VACANT w ↦
          vacant_more (λ _. 2 ^ 30) (g.V.View.sight c.args.view.now) c.loop-mark.mark c.value.result (2 ^ 30) c.as_slice-j-items.result.now c.loop-mark.hops w.push.new.self _ c.loop-mark.invariant c.loop-mark-test.true c.value.ensures
          w.if-value-eq-VACANT.true refl w.push.ensures.events w.push.ensures.count w.hops-is
      | else-value-eq-VACANT w ↦
          occupied_more (λ _. 2 ^ 30) (g.V.View.sight c.args.view.now) c.loop-mark.mark c.value.result c.as_slice-j-items.result.now c.loop-mark.hops _ c.loop-mark.invariant c.loop-mark-test.true c.value.ensures
          w.if-value-eq-VACANT.false w.hops-is
    ]

pub returns-clause-events : goal.returns-clause-events
returns-clause-events g c =
    hops_all (λ _. 2 ^ 30) (g.V.View.sight c.args.view.now) c.loop-mark.mark c.as_slice-j-items.result.now _ c.loop-mark.hops c.loop-mark.invariant c.loop-mark-test.false c.as_slice-j-items.ensures.ids
