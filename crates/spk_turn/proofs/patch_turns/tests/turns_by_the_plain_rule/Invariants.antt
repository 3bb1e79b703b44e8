use Rattle.spk_turn.proofs.patch_turns.tests.turns_by_the_plain_rule.Given as goal

abbrev pub ghosts-turned : goal.ghosts-turned
ghosts-turned g a = record { name = a.blank.name; parts = a.blank.parts }
