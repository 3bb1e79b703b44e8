use Rattle.std.proofs.Common.{◌≡◌, ℕ, ◌+◌, ◌-◌, ◌*◌, ◌/◌, arith, subst, sym, rules}
use Rattle.spk_solve.specs.SumTrees.{IsTree}
use Rattle.spk_solve.proofs.TreeLevels.{start_none}
use Rattle.spk_solve.proofs.SumTreeLaws.{tree_zeros, zeros}
use Rattle.spk_solve.proofs.sum_tree.SumTree.new.Goals as goal

pub invariant_of-result : goal.invariant_of-result
invariant_of-result c =
    let blocks : ℕ = (c.form_of-form.result.base + c.args.room + 16 - 2) / 16 in
    let made : c.in_ok-nodes.nodes.items ≡ zeros (16 * ((c.form_of-form.result.base + c.args.room + 16 - 2) / 16) + 1) = search rules in
    subst (λ xs. IsTree xs 0 0 0 c.args.room) (sym made)
    (tree_zeros (16 * ((c.form_of-form.result.base + c.args.room + 16 - 2) / 16) + 1) 0 0 0 c.args.room ((c.form_of-form.result.base + c.args.room + 16 - 2) / 16) c.form_of-form.result.depth
    (sym start_none) (omega arith) (omega arith) (omega arith) c.requires (omega arith) (omega arith) (omega (arith, c.form_of-form.ensures.room, c.form_of-form.ensures.base)) (omega (arith, c.form_of-form.ensures.base)) (omega arith))
