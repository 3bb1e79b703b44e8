use Rattle.std.proofs.Common.{◌≡◌, arith, get_or, ◌∙◌}
use Rattle.std.proofs.lemmas.List.{get_or_default}
use Rattle.spk_solve.proofs.SumTreeLaws.{root_is, root_small, some_nodes}
use Rattle.spk_solve.proofs.sum_tree.SumTree.total.Goals as goal

pub returns-clause-total : goal.returns-clause-total
returns-clause-total c =
    let was : c.index.result.now ≡ get_or c.self.inside.nodes.items 0 0 = c.index.ensures ∙ get_or_default c.self.inside.nodes.items 0 c.index.result.now 0 (some_nodes _ _ _ _ _ c.self.invariant) in
    rw (← c.self.view_is) (was ∙ root_is _ _ _ _ _ c.self.invariant)

pub returns-clause-below : goal.returns-clause-below
returns-clause-below c =
    let was : c.index.result.now ≡ get_or c.self.inside.nodes.items 0 0 = c.index.ensures ∙ get_or_default c.self.inside.nodes.items 0 c.index.result.now 0 (some_nodes _ _ _ _ _ c.self.invariant) in
    omega (arith, root_small _ _ _ _ _ c.self.invariant)
