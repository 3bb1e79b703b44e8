use Rattle.spk_diffusion.specs.HopFacts.{mark_below}
use Rattle.spk_diffusion.proofs.diffusion.DiffusionApp.apply.Goals as goal

pub bounds-as_slice-mark : goal.bounds-as_slice-mark
bounds-as_slice-mark g c =
    rw (c.as_slice.ensures.ids, c.neighbours-near.ensures.ids) (mark_below c.args.self.now (g.V.View.sight c.args.view.now) c.args.i c.args.mark c.requires.event)
