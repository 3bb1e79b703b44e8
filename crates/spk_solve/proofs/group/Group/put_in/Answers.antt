use Rattle.std.proofs.Common.{◌≡◌, ◌<◌, arith, length, get_or, take}
use Rattle.std.proofs.Math.Seq.{take-set-lt}
use Rattle.spk_solve.proofs.GroupStates.{IsPlaced, placed, put_in, total_read, tree_read}
use Rattle.spk_solve.proofs.group.Group.put_in.Goals as goal
use Rattle.spk_solve.proofs.group.Group.put_in.Goals.{After-index_mut}

-- what is known of the place and of its bin
record Known (c : After-index_mut) : Type 0 where
  number_is : c.from-number.result < 36
  inside : c.args.i < length (take c.self.inside.used c.self.inside.weights.items)
  empty : get_or (take c.self.inside.used c.self.inside.weights.items) c.args.i 0 ≡ 0
  place : IsPlaced c.self.inside.weights.items c.self.inside.used c.self.inside.total c.self.inside.bytes.items c.self.inside.totals.items c.self.inside.trees.items c.args.i c.from-number.result

known : (c : After-index_mut) → Known c
known c =
    let inside : c.args.i < length (take c.self.inside.used c.self.inside.weights.items) = rw (← c.self.view_is) at c.requires.place in
    let less : c.from-number.result < 36 = omega (arith, c.bin_of-bin.ensures.most, c.from-number.ensures, c.if-bin-eq-NO_BIN.false) in
    record {
      number_is = less;
      inside = inside;
      empty = rw (← c.self.view_is) at c.requires.empty;
      place = placed _ _ _ _ _ _ c.args.i c.from-number.result c.self.invariant inside less;
    }

pub overflow_add-self : goal.overflow_add-self
overflow_add-self c =
    let k = known (goal.at.overflow_add-self c).After-index_mut in
    omega (arith, k.place.sum_small, c.requires.small)

pub overflow_add-index_mut : goal.overflow_add-index_mut
overflow_add-index_mut c =
    let k = known (goal.at.overflow_add-index_mut c).After-index_mut in
    let t = total_read _ _ _ _ _ _ c.from-number.result c.index_mut-3.result.now c.self.invariant k.number_is c.index_mut-3.ensures.value in
    omega (arith, t, k.place.total_small, c.requires.small)

pub raise_count-requires-clause-block : goal.raise_count-requires-clause-block
raise_count-requires-clause-block c =
    let k = known (goal.at.raise_count-requires-clause-block c).After-index_mut in
    rw (tree_read _ _ _ _ _ _ c.from-number.result c.index_mut-tree.result.now c.self.invariant k.number_is c.index_mut-tree.ensures.value) k.place.block

pub raise_count-requires-clause-small : goal.raise_count-requires-clause-small
raise_count-requires-clause-small c =
    let k = known (goal.at.raise_count-requires-clause-small c).After-index_mut in
    rw (tree_read _ _ _ _ _ _ c.from-number.result c.index_mut-tree.result.now c.self.invariant k.number_is c.index_mut-tree.ensures.value) (omega (arith, k.place.small))

pub invariant_of-self : goal.invariant_of-self
invariant_of-self c =
    let k = known (goal.at.invariant_of-self c).After-index_mut in
    let tree = tree_read _ _ _ _ _ _ c.from-number.result c.index_mut-tree.result.now c.self.invariant k.number_is c.index_mut-tree.ensures.value in
    let t = total_read _ _ _ _ _ _ c.from-number.result c.index_mut-3.result.now c.self.invariant k.number_is c.index_mut-3.ensures.value in
    put_in c.self.inside.weights.items _ _ _ _ _ c.args.i c.args.p c.bin_of-bin.result c.from-number.result _ c.raise_count.new.tree
    c.self.invariant k.inside k.empty c.requires.small c.bin_of-bin.ensures k.number_is c.from-number.ensures
    (omega (arith, t)) (rw tree at c.raise_count.ensures.list) (rw tree at c.raise_count.ensures.room)

pub returns-clause-list : goal.returns-clause-list
returns-clause-list c =
    let k = known (goal.at.returns-clause-list c).After-index_mut in
    rw (← c.self.view_is) (take-set-lt c.self.inside.used c.self.inside.weights.items c.args.i c.args.p k.place.in_used)
