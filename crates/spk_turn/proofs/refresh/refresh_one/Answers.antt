use Rattle.std.proofs.Common.{◌<◌, ◌∙◌, sym, arith}
use Rattle.spk_turn.specs.Slots.{slot_count}
use Rattle.spk_turn.proofs.Anew.{one_right, none_right}
use Rattle.spk_turn.proofs.Events.{all_seen}
use Rattle.spk_turn.proofs.SlotLaws.{count_is, place_at, places_apart}
use Rattle.spk_turn.proofs.refresh.refresh_one.Goals as goal

pub propensity-weight-requires-clause-seen : goal.propensity-weight-requires-clause-seen
propensity-weight-requires-clause-seen g c = all_seen _ _ _ _ _ c.args.place c.requires.ready

pub set-requires-clause-place : goal.set-requires-clause-place
set-requires-clause-place g c = omega (arith, c.in-Some.ensures.0, c.requires.all, count_is c.args.slots.now)

pub returns-in_default-clause-right : goal.returns-in_default-clause-right
returns-in_default-clause-right g c = λ todo but.
    none_right _ _ _ _ todo c.args.place (λ slot inside one.
    let less : slot < slot_count c.args.slots.now = omega (arith, inside, count_is c.args.slots.now) in
    c.in_default.ensures slot less (sym (place_at c.args.slots.now slot less) ∙ one)) but

pub returns-clause-right : goal.returns-clause-right
returns-clause-right g c = λ todo but.
    rw (c.set.ensures.list, c.propensity-weight.ensures.sum)
    (one_right _ _ _ _ todo c.in-Some.slot c.args.place (places_apart c.args.slots.now c.known.ensures) (omega (arith, c.in-Some.ensures.0, count_is c.args.slots.now))
    (place_at c.args.slots.now c.in-Some.slot c.in-Some.ensures.0 ∙ c.in-Some.ensures.1) but)
