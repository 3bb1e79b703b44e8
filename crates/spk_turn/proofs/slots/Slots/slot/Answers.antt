use Rattle.std.proofs.Common.{◌≡◌, ◌<◌, sym, subst}
use Rattle.spk_lattice.specs.Layout.{sites_of}
use Rattle.spk_turn.specs.Slots.{BoxSlots, place_of, slot_count, slots_of}
use Rattle.spk_turn.proofs.WholeSlots.{all_inside, same_place}
use Rattle.spk_turn.proofs.slots.Slots.slot.Goals as goal

pub returns-then-self : goal.returns-then-self
returns-then-self c =
    let box : BoxSlots = slots_of c.self.inside.style c.self.inside.x c.self.inside.y c.self.inside.z in
    let whole = c.self.invariant.2 c.if-self.true in
    let less : c.args.place < sites_of box.view = subst (λ (s : BoxSlots). c.args.place < sites_of s.view) (sym c.self.view_is) c.requires in (
      subst (λ (s : BoxSlots). c.args.place < slot_count s) c.self.view_is (subst (λ n. c.args.place < n) (sym (all_inside box whole)) less),
      subst (λ (s : BoxSlots). place_of s c.args.place ≡ c.args.place) c.self.view_is (same_place box c.args.place whole less),
    )
