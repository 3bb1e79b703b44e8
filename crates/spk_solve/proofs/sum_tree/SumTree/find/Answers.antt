use Rattle.std.proofs.Common.{◌≡◌, ◌+◌, ◌*◌, ◌<◌, ◌≤◌, arith, length, get_or, sum, take, drop}
use Rattle.spk_solve.specs.SumTrees.{prefix_sum, start}
use Rattle.spk_solve.proofs.TreeLevels.{depth_steps, start_more, start_none, start_grows}
use Rattle.spk_solve.proofs.SumTreeLaws.{root_is, some_nodes, child_inside, leaf_named, spread, list_length}
use Rattle.spk_solve.proofs.sum_tree.SumTree.find.Goals as goal

pub levels-init : goal.levels-init
levels-init g c =
    let root : get_or c.self.inside.nodes.items 0 0 ≡ sum (take c.self.inside.used (drop c.self.inside.base c.self.inside.nodes.items)) = root_is _ _ _ _ _ c.self.invariant in
    let less : c.args.target < sum (take c.self.inside.used (drop c.self.inside.base c.self.inside.nodes.items)) = rw (← c.self.view_is) at c.requires in
    let none : start 0 ≡ 0 = start_none in
    record {
      from = omega arith;
      to = omega arith;
      split = rw none (omega arith);
      left = omega arith;
      cost = omega arith;
    }

pub child_of-child-requires-clause-inside : goal.child_of-child-requires-clause-inside
child_of-child-requires-clause-inside g c =
    let deep : start (c.levels.level + 1) ≤ start c.self.inside.depth = start_grows (c.levels.level + 1) c.self.inside.depth (omega arith) in
    let less : c.levels.place < c.self.inside.base = omega (arith, start_more c.levels.level, c.self.invariant.base_is) in
    let inside : 16 * c.levels.place + 17 ≤ length c.self.inside.nodes.items = child_inside _ _ _ _ _ c.levels.place c.levels.rest c.self.invariant less c.levels.invariant.left in
    omega arith

pub child_of-child-requires-clause-target : goal.child_of-child-requires-clause-target
child_of-child-requires-clause-target g c =
    let deep : start (c.levels.level + 1) ≤ start c.self.inside.depth = start_grows (c.levels.level + 1) c.self.inside.depth (omega arith) in
    let less : c.levels.place < c.self.inside.base = omega (arith, start_more c.levels.level, c.self.invariant.base_is) in
    let e : 16 * c.levels.place + 1 + 16 ≡ 16 * c.levels.place + 17 = omega arith in
    rw e (omega (arith, c.self.invariant.inner c.levels.place less, c.levels.invariant.left))

pub overflow_mul-place : goal.overflow_mul-place
overflow_mul-place g c =
    let deep : start (c.levels.level + 1) ≤ start c.self.inside.depth = start_grows (c.levels.level + 1) c.self.inside.depth (omega arith) in
    let less : c.levels.place < c.self.inside.base = omega (arith, start_more c.levels.level, c.self.invariant.base_is) in
    omega (arith, c.self.invariant.flat)

pub overflow_add-place : goal.overflow_add-place
overflow_add-place g c =
    let deep : start (c.levels.level + 1) ≤ start c.self.inside.depth = start_grows (c.levels.level + 1) c.self.inside.depth (omega arith) in
    let less : c.levels.place < c.self.inside.base = omega (arith, start_more c.levels.level, c.self.invariant.base_is) in
    omega (arith, c.self.invariant.flat)

pub levels-preserved : goal.levels-preserved
levels-preserved g c =
    let deep : start (c.levels.level + 1) ≤ start c.self.inside.depth = start_grows (c.levels.level + 1) c.self.inside.depth (omega arith) in
    let more : start (c.levels.level + 1) ≡ 16 * start c.levels.level + 1 = start_more c.levels.level in
    let less : c.levels.place < c.self.inside.base = omega (arith, c.self.invariant.base_is) in
    let some : _ = some_nodes _ _ _ _ _ c.self.invariant in
    let here : _ = spread c.self.inside.nodes.items c.self.inside.base c.self.invariant.inner (omega (arith, c.self.invariant.inside)) some c.levels.place (omega arith) in
    let first : _ = spread c.self.inside.nodes.items c.self.inside.base c.self.invariant.inner (omega (arith, c.self.invariant.inside)) some (start c.levels.level) (omega (arith, c.self.invariant.base_is)) in
    record {
      from = omega arith;
      to = omega arith;
      split = rw more (omega arith);
      left = c.child_of-child.ensures.left;
      cost = omega arith;
    }

pub returns-clause-named : goal.returns-clause-named
returns-clause-named g c =
    let all : c.levels.level ≡ c.self.inside.depth = omega arith in
    let at_base : start c.levels.level ≡ c.self.inside.base = rw all (omega (arith, c.self.invariant.base_is)) in
    let split : prefix_sum c.self.inside.nodes.items c.levels.place + c.levels.rest ≡ prefix_sum c.self.inside.nodes.items c.self.inside.base + c.args.target = rw (← at_base) c.levels.invariant.split in
    rw (← c.self.view_is) (leaf_named c.self.inside.nodes.items c.self.inside.base c.self.inside.depth c.self.inside.used c.self.inside.room c.levels.place c.levels.rest c.args.target c.self.invariant (omega (arith, c.levels.invariant.from)) c.levels.invariant.left split)

pub returns-clause-cost : goal.returns-clause-cost
returns-clause-cost g c =
    let all : c.levels.level ≡ c.self.inside.depth = omega arith in
    let count : length (take c.self.inside.used (drop c.self.inside.base c.self.inside.nodes.items)) ≡ c.self.inside.used = list_length _ _ _ c.self.invariant.inside in
    rw (← c.self.view_is, count) (omega (arith, c.levels.invariant.cost, all, depth_steps c.self.inside.depth c.self.inside.used c.self.invariant.shallow))
