use Rattle.std.proofs.Common.{◌<◌, sym, ap, ◌∙◌, subst}
use Rattle.spk_lattice.specs.Layout.{sites_of}
use Rattle.spk_turn.specs.Slots.{BoxSlots, place_of, slot_count, slots_of}
use Rattle.spk_turn.proofs.WholeSlots.{all_inside, same_place}
use Rattle.spk_turn.proofs.slots.Slots.place.Goals as goal

pub returns-then-self-clause-place : goal.returns-then-self-clause-place
returns-then-self-clause-place c =
    let box : BoxSlots = slots_of c.self.inside.style c.self.inside.x c.self.inside.y c.self.inside.z in
    let whole = c.self.invariant.2 c.if-self.true in
    let less : c.args.slot < slot_count (slots_of c.self.inside.style c.self.inside.x c.self.inside.y c.self.inside.z) = subst (λ (s : BoxSlots). c.args.slot < slot_count s) (sym c.self.view_is) c.requires in
    sym (same_place box c.args.slot whole (subst (λ n. c.args.slot < n) (all_inside box whole) less)) ∙ ap (λ (s : BoxSlots). place_of s c.args.slot) c.self.view_is

pub returns-then-self-clause-inside : goal.returns-then-self-clause-inside
returns-then-self-clause-inside c =
    let box : BoxSlots = slots_of c.self.inside.style c.self.inside.x c.self.inside.y c.self.inside.z in
    let whole = c.self.invariant.2 c.if-self.true in
    let less : c.args.slot < slot_count (slots_of c.self.inside.style c.self.inside.x c.self.inside.y c.self.inside.z) = subst (λ (s : BoxSlots). c.args.slot < slot_count s) (sym c.self.view_is) c.requires in
    subst (λ (s : BoxSlots). c.args.slot < sites_of s.view) c.self.view_is (subst (λ n. c.args.slot < n) (all_inside box whole) less)
