use Rattle.spk_potts.proofs.tests.happen.Given as goal

abbrev pub ghosts-happened : goal.ghosts-happened
ghosts-happened g a = record { name = a.blank.name; parts = a.blank.parts }
