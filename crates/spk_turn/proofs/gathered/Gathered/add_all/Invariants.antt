use Rattle.std.proofs.Common.{◌≡◌, drop}
use Rattle.spk_turn.specs.Reached.{with_places}
use Rattle.spk_turn.proofs.gathered.Gathered.add_all.Given as goal

abbrev pub invariant-loop-place : goal.invariant-loop-place
invariant-loop-place l = with_places l.self (drop l.place-index l.places) ≡ with_places l.fn.self l.places
