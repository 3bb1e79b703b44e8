use Rattle.spk_diffusion.proofs.tests.hops_where_energies_are_off.Given as goal

abbrev pub ghosts-first_done : goal.ghosts-first_done
ghosts-first_done g a = record { name = a.blank.name; parts = a.blank.parts }
