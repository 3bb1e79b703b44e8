use Rattle.spk_patch.proofs.Whole.{near_inside}
use Rattle.spk_patch.proofs.patch.PatchView.list_near.Goals as goal

pub returns-clause-inside : goal.returns-clause-inside
returns-clause-inside c = near_inside _ _ _ c.self.view_is c.self.invariant.0 c.self.invariant.1 c.list_beside.ensures.inside
