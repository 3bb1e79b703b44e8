use Rattle.std.proofs.Common.{◌≡◌, ◌≤◌, arith, length, ◌∙◌, subst, sym, ap, rules, take, drop}
use Rattle.std.specs.Prelude.{vec_len}
use Rattle.spk_solve.specs.SumTrees.{start, IsTree}
use Rattle.spk_solve.proofs.SumTreeLaws.{tree_zeros, list_zeros, zeros}
use Rattle.spk_solve.proofs.sum_tree.SumTree.reset.Goals as goal

pub form_of-form-requires : goal.form_of-form-requires
form_of-form-requires c =
    let room : c.args.n ≤ c.self.inside.room = rw (← c.self.view_is) at c.requires in
    omega (arith, c.self.invariant.few)

pub invariant_of-self : goal.invariant_of-self
invariant_of-self c =
    let room : c.args.n ≤ c.self.inside.room = rw (← c.self.view_is) at c.requires in
    let long : vec_len c.self.inside.nodes ≡ length c.self.inside.nodes.items = search rules in
    let made : c.fill.new.self.items ≡ zeros (length c.self.inside.nodes.items) = c.fill.ensures.items (λ y e. e) ∙ ap zeros long in
    subst (λ xs. IsTree xs c.form_of-form.result.base c.form_of-form.result.depth c.args.n c.self.inside.room) (sym made)
    (tree_zeros (length c.self.inside.nodes.items) c.form_of-form.result.base c.form_of-form.result.depth c.args.n c.self.inside.room c.self.invariant.whole_blocks.0 c.self.invariant.deepest.0
    c.form_of-form.ensures.base c.form_of-form.ensures.room c.form_of-form.ensures.shallow room c.self.invariant.few c.form_of-form.ensures.small
    c.self.invariant.whole_blocks.1 c.self.invariant.deepest.1 c.self.invariant.deepest.2
    (c.form_of-form.ensures.least c.self.invariant.deepest.0 (omega (arith, c.self.invariant.deepest.1))))

pub returns-clause-list : goal.returns-clause-list
returns-clause-list c =
    let room : c.args.n ≤ c.self.inside.room = rw (← c.self.view_is) at c.requires in
    let long : vec_len c.self.inside.nodes ≡ length c.self.inside.nodes.items = search rules in
    let made : c.fill.new.self.items ≡ zeros (length c.self.inside.nodes.items) = c.fill.ensures.items (λ y e. e) ∙ ap zeros long in
    let least : c.form_of-form.result.base ≤ start c.self.invariant.deepest.0 = c.form_of-form.ensures.least c.self.invariant.deepest.0 (omega (arith, c.self.invariant.deepest.1)) in
    subst (λ xs. take c.args.n (drop c.form_of-form.result.base xs) ≡ zeros c.args.n) (sym made) (list_zeros (length c.self.inside.nodes.items) c.form_of-form.result.base c.args.n (omega (arith, c.self.invariant.deepest.2)))
