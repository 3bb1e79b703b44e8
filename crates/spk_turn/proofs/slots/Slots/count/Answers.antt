use Rattle.std.proofs.Common.{◌∙◌, sym, arith}
use Rattle.spk_turn.specs.Slots.{slots_of}
use Rattle.spk_turn.proofs.SlotLaws.{count_by}
use Rattle.spk_turn.proofs.slots.Slots.count.Goals as goal

pub overflow_mul-result : goal.overflow_mul-result
overflow_mul-result c =
    let few = count_by (slots_of c.self.inside.style c.self.inside.x c.self.inside.y c.self.inside.z) c.from-4.result c.from.result c.from-2.result c.from-3.result c.self.invariant.0 (c.from-4.ensures ∙ sym c.self.invariant.1)
    (c.from.ensures ∙ c.width.ensures) (c.from-2.ensures ∙ c.width-2.ensures) (c.from-3.ensures ∙ c.width-3.ensures) in
    omega (arith, few)

pub overflow_cast-result : goal.overflow_cast-result
overflow_cast-result c =
    let few = count_by (slots_of c.self.inside.style c.self.inside.x c.self.inside.y c.self.inside.z) c.from-4.result c.from.result c.from-2.result c.from-3.result c.self.invariant.0 (c.from-4.ensures ∙ sym c.self.invariant.1)
    (c.from.ensures ∙ c.width.ensures) (c.from-2.ensures ∙ c.width-2.ensures) (c.from-3.ensures ∙ c.width-3.ensures) in
    omega (arith, few)
