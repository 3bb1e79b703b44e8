use Rattle.std.proofs.Common.{◌≡◌, ℕ, arith, length, refl, replicate, ap, ◌∙◌, rules}
use Rattle.std.proofs.lemmas.List.{length-replicate}
use Rattle.spk_solve.proofs.GroupStates.{grouped_zeros}
use Rattle.spk_solve.proofs.SumTreeLaws.{zeros, zeros_long}
use Rattle.spk_solve.proofs.group.Group.new.Goals as goal

pub invariant_of-result : goal.invariant_of-result
invariant_of-result c =
    let n : ℕ = c.args.capacity in
    let weights : c.in_ok-weights.weights.items ≡ zeros c.args.capacity = search rules in
    let bytes : c.in_ok-bytes.bytes.items ≡ replicate c.args.capacity 36 = search rules in
    let totals : c.in_ok-totals.totals.items ≡ zeros 36 = search rules in
    grouped_zeros c.in_ok-weights.weights.items 0 n c.in_ok-bytes.bytes.items c.in_ok-totals.totals.items c.in_ok-trees.trees.items
    (omega arith) (ap length weights ∙ zeros_long n) c.requires refl (ap length bytes ∙ length-replicate {A = ℕ} n 36)
    (λ place less. absurd (omega arith)) totals c.in_ok-trees.ensures.long
    (λ bin less. rw (← c.blocks_of.ensures) (c.in_ok-trees.ensures.empty bin less))
