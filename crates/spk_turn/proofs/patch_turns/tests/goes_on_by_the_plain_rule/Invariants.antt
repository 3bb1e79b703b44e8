use Rattle.spk_turn.proofs.patch_turns.tests.goes_on_by_the_plain_rule.Given as goal

abbrev pub ghosts-turned : goal.ghosts-turned
ghosts-turned g a = record { name = a.blank.name; parts = a.blank.parts }
