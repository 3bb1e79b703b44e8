use Rattle.std.proofs.Common.{◌<◌, ◌∙◌, sym, ap, subst, arith}
use Rattle.spk_lattice.specs.Layout.{sites_of}
use Rattle.spk_turn.specs.Slots.{BoxSlots, place_of, slot_count, slots_of}
use Rattle.spk_turn.proofs.SlotLaws.{count_small, placed}
use Rattle.spk_turn.proofs.slots.Slots.place_in_box.Goals as goal

pub overflow_cast-slot : goal.overflow_cast-slot
overflow_cast-slot c =
    let most = count_small (slots_of c.self.inside.style c.self.inside.x c.self.inside.y c.self.inside.z) c.self.invariant.0 in
    let less : c.args.slot < slot_count (slots_of c.self.inside.style c.self.inside.x c.self.inside.y c.self.inside.z) = subst (λ (s : BoxSlots). c.args.slot < slot_count s) (sym c.self.view_is) c.requires in
    omega (arith, most, less)

pub overflow_add-x : goal.overflow_add-x
overflow_add-x c =
    let at = placed (slots_of c.self.inside.style c.self.inside.x c.self.inside.y c.self.inside.z) c.self.inside.points c.width-wide.result c.width-high.result c.args.slot c.self.invariant.0 c.self.invariant.1 c.width-wide.ensures c.width-high.ensures (subst (λ (s : BoxSlots). c.args.slot < slot_count s) (sym c.self.view_is) c.requires) in
    omega (arith, at.small.cell)

pub overflow_add-y : goal.overflow_add-y
overflow_add-y c =
    let at = placed (slots_of c.self.inside.style c.self.inside.x c.self.inside.y c.self.inside.z) c.self.inside.points c.width-wide.result c.width-high.result c.args.slot c.self.invariant.0 c.self.invariant.1 c.width-wide.ensures c.width-high.ensures (subst (λ (s : BoxSlots). c.args.slot < slot_count s) (sym c.self.view_is) c.requires) in
    omega (arith, at.small.row)

pub overflow_add-z : goal.overflow_add-z
overflow_add-z c =
    let at = placed (slots_of c.self.inside.style c.self.inside.x c.self.inside.y c.self.inside.z) c.self.inside.points c.width-wide.result c.width-high.result c.args.slot c.self.invariant.0 c.self.invariant.1 c.width-wide.ensures c.width-high.ensures (subst (λ (s : BoxSlots). c.args.slot < slot_count s) (sym c.self.view_is) c.requires) in
    omega (arith, at.deep)

pub overflow_mul-result : goal.overflow_mul-result
overflow_mul-result c =
    let at = placed (slots_of c.self.inside.style c.self.inside.x c.self.inside.y c.self.inside.z) c.self.inside.points c.width-wide.result c.width-high.result c.args.slot c.self.invariant.0 c.self.invariant.1 c.width-wide.ensures c.width-high.ensures (subst (λ (s : BoxSlots). c.args.slot < slot_count s) (sym c.self.view_is) c.requires) in
    omega (arith, at.small.beside)

pub overflow_add-result : goal.overflow_add-result
overflow_add-result c =
    let at = placed (slots_of c.self.inside.style c.self.inside.x c.self.inside.y c.self.inside.z) c.self.inside.points c.width-wide.result c.width-high.result c.args.slot c.self.invariant.0 c.self.invariant.1 c.width-wide.ensures c.width-high.ensures (subst (λ (s : BoxSlots). c.args.slot < slot_count s) (sym c.self.view_is) c.requires) in
    omega (arith, at.small.row)

pub overflow_mul-result-2 : goal.overflow_mul-result-2
overflow_mul-result-2 c =
    let at = placed (slots_of c.self.inside.style c.self.inside.x c.self.inside.y c.self.inside.z) c.self.inside.points c.width-wide.result c.width-high.result c.args.slot c.self.invariant.0 c.self.invariant.1 c.width-wide.ensures c.width-high.ensures (subst (λ (s : BoxSlots). c.args.slot < slot_count s) (sym c.self.view_is) c.requires) in
    omega (arith, at.small.rows)

pub overflow_add-result-2 : goal.overflow_add-result-2
overflow_add-result-2 c =
    let at = placed (slots_of c.self.inside.style c.self.inside.x c.self.inside.y c.self.inside.z) c.self.inside.points c.width-wide.result c.width-high.result c.args.slot c.self.invariant.0 c.self.invariant.1 c.width-wide.ensures c.width-high.ensures (subst (λ (s : BoxSlots). c.args.slot < slot_count s) (sym c.self.view_is) c.requires) in
    omega (arith, at.small.cell)

pub overflow_mul-result-3 : goal.overflow_mul-result-3
overflow_mul-result-3 c =
    let at = placed (slots_of c.self.inside.style c.self.inside.x c.self.inside.y c.self.inside.z) c.self.inside.points c.width-wide.result c.width-high.result c.args.slot c.self.invariant.0 c.self.invariant.1 c.width-wide.ensures c.width-high.ensures (subst (λ (s : BoxSlots). c.args.slot < slot_count s) (sym c.self.view_is) c.requires) in
    omega (arith, at.small.cells)

pub overflow_add-result-3 : goal.overflow_add-result-3
overflow_add-result-3 c =
    let at = placed (slots_of c.self.inside.style c.self.inside.x c.self.inside.y c.self.inside.z) c.self.inside.points c.width-wide.result c.width-high.result c.args.slot c.self.invariant.0 c.self.invariant.1 c.width-wide.ensures c.width-high.ensures (subst (λ (s : BoxSlots). c.args.slot < slot_count s) (sym c.self.view_is) c.requires) in
    omega (arith, at.small.id)

pub returns-clause-place : goal.returns-clause-place
returns-clause-place c =
    let at = placed (slots_of c.self.inside.style c.self.inside.x c.self.inside.y c.self.inside.z) c.self.inside.points c.width-wide.result c.width-high.result c.args.slot c.self.invariant.0 c.self.invariant.1 c.width-wide.ensures c.width-high.ensures (subst (λ (s : BoxSlots). c.args.slot < slot_count s) (sym c.self.view_is) c.requires) in
    at.place ∙ ap (λ (s : BoxSlots). place_of s c.args.slot) c.self.view_is

pub returns-clause-inside : goal.returns-clause-inside
returns-clause-inside c =
    let at = placed (slots_of c.self.inside.style c.self.inside.x c.self.inside.y c.self.inside.z) c.self.inside.points c.width-wide.result c.width-high.result c.args.slot c.self.invariant.0 c.self.invariant.1 c.width-wide.ensures c.width-high.ensures (subst (λ (s : BoxSlots). c.args.slot < slot_count s) (sym c.self.view_is) c.requires) in
    let same = ap (λ (s : BoxSlots). sites_of s.view) c.self.view_is in
    omega (arith, at.inside, same)
