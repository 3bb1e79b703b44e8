use Rattle.std.proofs.Common.{◌≡◌, ◌≤◌, ◌+◌, ◌∷◌, [], List, ℕ, ap, length, arith}
use Rattle.spk_turn.specs.Reached.{with_place, with_places}
use Rattle.spk_turn.proofs.Adding.{place_longer, places_longer}
use Rattle.spk_turn.proofs.gathered.tests.has_each_place_once.Goals as goal

pub add_all-requires : goal.add_all-requires
add_all-requires g c = omega (arith, ap length c.start.ensures, places_longer c.start.new.self (1026 ∷ 2047 ∷ 7 ∷ 5 ∷ 1026 ∷ []))

pub add-requires : goal.add-requires
add-requires g c =
    omega (arith, ap length c.start.ensures, ap length c.add_all.ensures, places_longer c.start.new.self (1026 ∷ 2047 ∷ 7 ∷ 5 ∷ 1026 ∷ []), place_longer c.add_all.new.self 2047)

pub add_all-requires-2 : goal.add_all-requires-2
add_all-requires-2 g c = omega (arith, ap length c.start-2.ensures, places_longer c.start-2.new.self (5 ∷ 1026 ∷ 7 ∷ []))
