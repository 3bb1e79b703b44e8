use Rattle.std.proofs.Common.{◌+◌, ◌*◌, ◌%◌, ◌<◌, sym, subst, arith, None, Some}
use Rattle.spk_lattice.specs.Layout.{sites_of}
use Rattle.spk_turn.specs.Slots.{BoxSlots, IsSlotAt, slots_of}
use Rattle.spk_turn.proofs.SlotLaws.{nowhere, numbered}
use Rattle.spk_turn.proofs.slots.Slots.slot_in_box.Goals.{then-x-wide-via-then-x-wide, then-x-wide-via-else-x-wide+then-y-high, then-x-wide-via-else-x-wide+else-y-high+then-z-width}
use Rattle.spk_turn.proofs.slots.Slots.slot_in_box.Goals as goal

pub overflow_cast-place : goal.overflow_cast-place
overflow_cast-place c =
    let less : c.args.place < sites_of (slots_of c.self.inside.style c.self.inside.x c.self.inside.y c.self.inside.z).view = subst (λ (s : BoxSlots). c.args.place < sites_of s.view) (sym c.self.view_is) c.requires in
    omega (arith, less, c.self.invariant.0.limit)

pub returns-in_err-x : goal.returns-in_err-x
returns-in_err-x c =
    rw c.from_residual.ensures
    (subst (λ (s : BoxSlots). IsSlotAt s c.args.place None) c.self.view_is
    (nowhere (slots_of c.self.inside.style c.self.inside.x c.self.inside.y c.self.inside.z) c.self.inside.points c.args.place c.self.invariant.0 c.self.invariant.1 (λ x y z. c.in_err-x.ensures x.low)))

pub returns-in_err-y : goal.returns-in_err-y
returns-in_err-y c =
    rw c.from_residual-in_err-y.ensures
    (subst (λ (s : BoxSlots). IsSlotAt s c.args.place None) c.self.view_is
    (nowhere (slots_of c.self.inside.style c.self.inside.x c.self.inside.y c.self.inside.z) c.self.inside.points c.args.place c.self.invariant.0 c.self.invariant.1 (λ x y z. c.in_err-y.ensures y.low)))

pub returns-in_err-z : goal.returns-in_err-z
returns-in_err-z c =
    rw c.from_residual-in_err-z.ensures
    (subst (λ (s : BoxSlots). IsSlotAt s c.args.place None) c.self.view_is
    (nowhere (slots_of c.self.inside.style c.self.inside.x c.self.inside.y c.self.inside.z) c.self.inside.points c.args.place c.self.invariant.0 c.self.invariant.1 (λ x y z. c.in_err-z.ensures z.low)))

pub returns-then-x-wide : goal.returns-then-x-wide
returns-then-x-wide c =
    subst (λ (s : BoxSlots). IsSlotAt s c.args.place None) c.self.view_is
    (nowhere (slots_of c.self.inside.style c.self.inside.x c.self.inside.y c.self.inside.z) c.self.inside.points c.args.place c.self.invariant.0 c.self.invariant.1 (λ x y z.
    elim c.then-x-wide.branch [
      | then-x-wide-via-then-x-wide w ↦ absurd (omega (arith, w.if-x-wide.true, c.width-wide.ensures, c.in_ok-x.ensures, x.low, x.high))
      | then-x-wide-via-else-x-wide+then-y-high w ↦ absurd (omega (arith, w.if-y-high.true, c.width-high.ensures, c.in_ok-y.ensures, y.low, y.high))
      | then-x-wide-via-else-x-wide+else-y-high+then-z-width w ↦ absurd (omega (arith, w.if-z-width.true, w.width.ensures, c.in_ok-z.ensures, z.low, z.high))
    ]))

pub overflow_mul-slot : goal.overflow_mul-slot
overflow_mul-slot c =
    let less : c.args.place < sites_of (slots_of c.self.inside.style c.self.inside.x c.self.inside.y c.self.inside.z).view = subst (λ (s : BoxSlots). c.args.place < sites_of s.view) (sym c.self.view_is) c.requires in
    let at = numbered (slots_of c.self.inside.style c.self.inside.x c.self.inside.y c.self.inside.z) c.self.inside.points c.width-wide.result c.width-high.result c.args.place c.in_ok-x.x c.in_ok-y.y c.in_ok-z.z c.self.invariant.0 c.self.invariant.1 c.width-wide.ensures c.width-high.ensures less
    (omega (arith, c.in_ok-x.ensures)) (omega (arith, c.in_ok-y.ensures)) (omega (arith, c.in_ok-z.ensures)) (omega (arith, c.if-x-wide.false)) (omega (arith, c.if-y-high.false)) (omega (arith, c.if-z-width.false, c.width.ensures)) in
    omega (arith, at.small.beside)

pub overflow_add-slot : goal.overflow_add-slot
overflow_add-slot c =
    let less : c.args.place < sites_of (slots_of c.self.inside.style c.self.inside.x c.self.inside.y c.self.inside.z).view = subst (λ (s : BoxSlots). c.args.place < sites_of s.view) (sym c.self.view_is) c.requires in
    let at = numbered (slots_of c.self.inside.style c.self.inside.x c.self.inside.y c.self.inside.z) c.self.inside.points c.width-wide.result c.width-high.result c.args.place c.in_ok-x.x c.in_ok-y.y c.in_ok-z.z c.self.invariant.0 c.self.invariant.1 c.width-wide.ensures c.width-high.ensures less
    (omega (arith, c.in_ok-x.ensures)) (omega (arith, c.in_ok-y.ensures)) (omega (arith, c.in_ok-z.ensures)) (omega (arith, c.if-x-wide.false)) (omega (arith, c.if-y-high.false)) (omega (arith, c.if-z-width.false, c.width.ensures)) in
    omega (arith, at.small.row)

pub overflow_mul-slot-2 : goal.overflow_mul-slot-2
overflow_mul-slot-2 c =
    let less : c.args.place < sites_of (slots_of c.self.inside.style c.self.inside.x c.self.inside.y c.self.inside.z).view = subst (λ (s : BoxSlots). c.args.place < sites_of s.view) (sym c.self.view_is) c.requires in
    let at = numbered (slots_of c.self.inside.style c.self.inside.x c.self.inside.y c.self.inside.z) c.self.inside.points c.width-wide.result c.width-high.result c.args.place c.in_ok-x.x c.in_ok-y.y c.in_ok-z.z c.self.invariant.0 c.self.invariant.1 c.width-wide.ensures c.width-high.ensures less
    (omega (arith, c.in_ok-x.ensures)) (omega (arith, c.in_ok-y.ensures)) (omega (arith, c.in_ok-z.ensures)) (omega (arith, c.if-x-wide.false)) (omega (arith, c.if-y-high.false)) (omega (arith, c.if-z-width.false, c.width.ensures)) in
    omega (arith, at.small.rows)

pub overflow_add-slot-2 : goal.overflow_add-slot-2
overflow_add-slot-2 c =
    let less : c.args.place < sites_of (slots_of c.self.inside.style c.self.inside.x c.self.inside.y c.self.inside.z).view = subst (λ (s : BoxSlots). c.args.place < sites_of s.view) (sym c.self.view_is) c.requires in
    let at = numbered (slots_of c.self.inside.style c.self.inside.x c.self.inside.y c.self.inside.z) c.self.inside.points c.width-wide.result c.width-high.result c.args.place c.in_ok-x.x c.in_ok-y.y c.in_ok-z.z c.self.invariant.0 c.self.invariant.1 c.width-wide.ensures c.width-high.ensures less
    (omega (arith, c.in_ok-x.ensures)) (omega (arith, c.in_ok-y.ensures)) (omega (arith, c.in_ok-z.ensures)) (omega (arith, c.if-x-wide.false)) (omega (arith, c.if-y-high.false)) (omega (arith, c.if-z-width.false, c.width.ensures)) in
    omega (arith, at.small.cell)

pub overflow_mul-slot-3 : goal.overflow_mul-slot-3
overflow_mul-slot-3 c =
    let less : c.args.place < sites_of (slots_of c.self.inside.style c.self.inside.x c.self.inside.y c.self.inside.z).view = subst (λ (s : BoxSlots). c.args.place < sites_of s.view) (sym c.self.view_is) c.requires in
    let at = numbered (slots_of c.self.inside.style c.self.inside.x c.self.inside.y c.self.inside.z) c.self.inside.points c.width-wide.result c.width-high.result c.args.place c.in_ok-x.x c.in_ok-y.y c.in_ok-z.z c.self.invariant.0 c.self.invariant.1 c.width-wide.ensures c.width-high.ensures less
    (omega (arith, c.in_ok-x.ensures)) (omega (arith, c.in_ok-y.ensures)) (omega (arith, c.in_ok-z.ensures)) (omega (arith, c.if-x-wide.false)) (omega (arith, c.if-y-high.false)) (omega (arith, c.if-z-width.false, c.width.ensures)) in
    omega (arith, at.small.cells)

pub overflow_add-slot-3 : goal.overflow_add-slot-3
overflow_add-slot-3 c =
    let less : c.args.place < sites_of (slots_of c.self.inside.style c.self.inside.x c.self.inside.y c.self.inside.z).view = subst (λ (s : BoxSlots). c.args.place < sites_of s.view) (sym c.self.view_is) c.requires in
    let at = numbered (slots_of c.self.inside.style c.self.inside.x c.self.inside.y c.self.inside.z) c.self.inside.points c.width-wide.result c.width-high.result c.args.place c.in_ok-x.x c.in_ok-y.y c.in_ok-z.z c.self.invariant.0 c.self.invariant.1 c.width-wide.ensures c.width-high.ensures less
    (omega (arith, c.in_ok-x.ensures)) (omega (arith, c.in_ok-y.ensures)) (omega (arith, c.in_ok-z.ensures)) (omega (arith, c.if-x-wide.false)) (omega (arith, c.if-y-high.false)) (omega (arith, c.if-z-width.false, c.width.ensures)) in
    omega (arith, at.small.id)

pub returns : goal.returns
returns c =
    let less : c.args.place < sites_of (slots_of c.self.inside.style c.self.inside.x c.self.inside.y c.self.inside.z).view = subst (λ (s : BoxSlots). c.args.place < sites_of s.view) (sym c.self.view_is) c.requires in
    let at = numbered (slots_of c.self.inside.style c.self.inside.x c.self.inside.y c.self.inside.z) c.self.inside.points c.width-wide.result c.width-high.result c.args.place c.in_ok-x.x c.in_ok-y.y c.in_ok-z.z c.self.invariant.0 c.self.invariant.1 c.width-wide.ensures c.width-high.ensures less
    (omega (arith, c.in_ok-x.ensures)) (omega (arith, c.in_ok-y.ensures)) (omega (arith, c.in_ok-z.ensures)) (omega (arith, c.if-x-wide.false)) (omega (arith, c.if-y-high.false)) (omega (arith, c.if-z-width.false, c.width.ensures)) in
    subst (λ (s : BoxSlots). IsSlotAt s c.args.place (Some (c.args.place % c.self.inside.points + c.self.inside.points * (c.in_ok-x.x + c.width-wide.result * (c.in_ok-y.y + c.width-high.result * c.in_ok-z.z))))) c.self.view_is at.is
