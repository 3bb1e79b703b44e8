use Rattle.spk_potts.specs.PottsLaws.{potts_bounded}
use Rattle.spk_diffusion.specs.Laws.{diffusion_bounded}
use Rattle.spk_run.proofs.application.AnyApplication.largest.Goals as goal

pub returns-in-Potts-clause-above : goal.returns-in-Potts-clause-above
returns-in-Potts-clause-above c = rw c.largest-in-Potts.ensures (potts_bounded c.in-Potts.app).above

pub returns-in-Diffusion-clause-above : goal.returns-in-Diffusion-clause-above
returns-in-Diffusion-clause-above c = rw c.largest-in-Diffusion.ensures (diffusion_bounded c.in-Diffusion.app).above
