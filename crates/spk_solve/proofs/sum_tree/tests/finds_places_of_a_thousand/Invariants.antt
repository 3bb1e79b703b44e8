use Rattle.std.proofs.Common.{◌≡◌, length}
use Rattle.spk_solve.proofs.sum_tree.tests.finds_places_of_a_thousand.Given as goal

abbrev pub invariant-places : goal.invariant-places
invariant-places g l = length l.tree.list ≡ 1000

abbrev pub ghosts-find : goal.ghosts-find
ghosts-find g a = record { name = a.blank.name; parts = a.blank.parts }
