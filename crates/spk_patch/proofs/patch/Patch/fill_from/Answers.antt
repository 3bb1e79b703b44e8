use Rattle.spk_patch.proofs.Whole.{filled}
use Rattle.spk_patch.proofs.patch.Patch.fill_from.Goals as goal

pub returns : goal.returns
returns c = filled _ _ _ _ c.self.view_is c.self.invariant.0 c.self.invariant.1 c.copy_from.ensures c.requires
