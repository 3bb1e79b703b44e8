use Rattle.spk_solve.proofs.tests.compare.Given as goal

abbrev pub ghosts-choose : goal.ghosts-choose
ghosts-choose g a = record { name = a.blank.name; parts = a.blank.parts }
