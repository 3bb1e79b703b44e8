use Rattle.std.proofs.Common.{arith, ap, sym, ◌∙◌}
use Rattle.spk_sched.specs.Turns.{Pick}
use Rattle.spk_turn.proofs.SlotLaws.{count_small}
use Rattle.spk_turn.proofs.Sweeping.{drawn_place, raster_pick}
use Rattle.spk_turn.proofs.sweep.pick.Goals as goal

pub below-requires-clause-small : goal.below-requires-clause-small
below-requires-clause-small c = omega (arith, c.count.ensures, count_small c.args.slots.now c.known.ensures)

pub returns-in-Random-clause-place : goal.returns-in-Random-clause-place
returns-in-Random-clause-place c = drawn_place _ _ _ _ _ _ _ _ c.in-Random.is c.count.ensures c.below.ensures.below c.below.ensures.state c.below.ensures.number c.place.ensures.place

pub returns-in_default : goal.returns-in_default
returns-in_default c =
    let pick = raster_pick c.args.style c.args.slots.now c.args.k c.args.stream.now c.in_default.not-Random c.requires in
    record {
      place = c.place-in_default.ensures.place ∙ sym (ap (λ (p : Pick). p.place) pick);
      stream = sym (ap (λ (p : Pick). p.stream) pick);
      inside = c.place-in_default.ensures.inside;
    }
