use Rattle.std.proofs.Common.{◌≡◌, ◌≢◌, ◌+◌, ◌<◌, arith, length, get_or, ◌∙◌, take, drop}
use Rattle.std.proofs.lemmas.List.{get_or_default, get_or-set_other, length-set}
use Rattle.spk_solve.proofs.TreeChanges.{off_start}
use Rattle.spk_solve.proofs.SumTreeLaws.{list_length, node_small, tree_set, list_set}
use Rattle.spk_solve.proofs.sum_tree.SumTree.set.Goals as goal

pub raise-requires-clause-off : goal.raise-requires-clause-off
raise-requires-clause-off c =
    let n = list_length c.self.inside.nodes.items c.self.inside.base c.self.inside.used c.self.invariant.inside in
    let place : c.args.i < length (take c.self.inside.used (drop c.self.inside.base c.self.inside.nodes.items)) = rw (← c.self.view_is) at c.requires.place in
    let inside : c.self.inside.base + c.args.i < length c.self.inside.nodes.items = omega (arith, c.self.invariant.inside, n) in
    let was : c.index-old.result.now ≡ get_or c.self.inside.nodes.items (c.self.inside.base + c.args.i) 0 = c.index-old.ensures ∙ get_or_default c.self.inside.nodes.items (c.self.inside.base + c.args.i) c.index-old.result.now 0 inside in
    off_start c.self.inside.nodes.items c.self.inside.base (c.self.inside.base + c.args.i) c.index-old.result.now c.args.p c.self.invariant.inner inside (omega (arith, n, c.self.invariant.fits)) (omega arith) was

pub raise-requires-clause-small : goal.raise-requires-clause-small
raise-requires-clause-small c =
    let n = list_length c.self.inside.nodes.items c.self.inside.base c.self.inside.used c.self.invariant.inside in
    let place : c.args.i < length (take c.self.inside.used (drop c.self.inside.base c.self.inside.nodes.items)) = rw (← c.self.view_is) at c.requires.place in
    λ m less.
    let other : m ≢ c.self.inside.base + c.args.i = λ e. omega arith in
    omega (arith, get_or-set_other c.self.inside.nodes.items (c.self.inside.base + c.args.i) m c.args.p 0 other, node_small _ _ _ _ _ c.self.invariant m (omega (arith, n)))

pub invariant_of-self : goal.invariant_of-self
invariant_of-self c =
    let n = list_length c.self.inside.nodes.items c.self.inside.base c.self.inside.used c.self.invariant.inside in
    let place : c.args.i < length (take c.self.inside.used (drop c.self.inside.base c.self.inside.nodes.items)) = rw (← c.self.view_is) at c.requires.place in
    tree_set c.self.inside.nodes.items _ _ _ _ _ c.args.i c.args.p c.self.invariant (omega (arith, n)) c.requires.small c.raise.ensures.right
    (c.raise.ensures.length ∙ length-set c.self.inside.nodes.items (c.self.inside.base + c.args.i) c.args.p) c.raise.ensures.leaves

pub returns-clause-list : goal.returns-clause-list
returns-clause-list c =
    let n = list_length c.self.inside.nodes.items c.self.inside.base c.self.inside.used c.self.invariant.inside in
    let place : c.args.i < length (take c.self.inside.used (drop c.self.inside.base c.self.inside.nodes.items)) = rw (← c.self.view_is) at c.requires.place in
    rw (← c.self.view_is) (list_set c.self.inside.nodes.items _ _ _ c.args.i c.args.p (omega (arith, n)) (c.raise.ensures.leaves c.self.inside.base (omega arith)))
