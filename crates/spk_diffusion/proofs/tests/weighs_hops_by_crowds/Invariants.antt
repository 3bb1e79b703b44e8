use Rattle.spk_diffusion.proofs.tests.weighs_hops_by_crowds.Given as goal

abbrev pub ghosts-propensities : goal.ghosts-propensities
ghosts-propensities g a = record { name = a.blank.name; parts = a.blank.parts }
