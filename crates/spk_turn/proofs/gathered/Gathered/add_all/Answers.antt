use Rattle.std.proofs.Common.{arith, ap, sym, ◌∙◌, ◌+◌, get_or, drop, length}
use Rattle.spk_turn.proofs.Adding.{places_first, places_last, place_fits}
use Rattle.spk_turn.proofs.gathered.Gathered.add_all.Goals as goal

pub add-requires : goal.add-requires
add-requires c =
    let first = places_first c.loop-place.self c.args.places.now c.loop-place.place-index c.loop-place-test.true in
    place_fits c.loop-place.self (get_or c.args.places.now c.loop-place.place-index 0) 729 (drop (c.loop-place.place-index + 1) c.args.places.now)
    (omega (arith, ap length (sym first ∙ c.loop-place.invariant), c.requires))

pub loop-place-preserved : goal.loop-place-preserved
loop-place-preserved c = rw c.add.ensures (sym (places_first c.loop-place.self c.args.places.now c.loop-place.place-index c.loop-place-test.true) ∙ c.loop-place.invariant)

pub returns : goal.returns
returns c = sym (places_last c.loop-place.self c.args.places.now c.loop-place.place-index (omega arith)) ∙ c.loop-place.invariant
