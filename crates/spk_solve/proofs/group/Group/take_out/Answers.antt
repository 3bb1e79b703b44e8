use Rattle.std.proofs.Common.{◌≡◌, ◌∙◌, ◌<◌, arith, length, get_or, take}
use Rattle.std.proofs.Math.Seq.{take-set-lt}
use Rattle.spk_solve.specs.Groups.{IsBinOf}
use Rattle.spk_solve.proofs.GroupStates.{IsPlaced, IsOut, placed, taken_out, byte_read, weight_read, total_read, tree_read}
use Rattle.spk_solve.proofs.group.Group.take_out.Goals as goal
use Rattle.spk_solve.proofs.group.Group.take_out.Goals.{After-from-number}

-- what is known of the place and of its bin
record Known (c : After-from-number) : Type 0 where
  number_is : c.from-number.result < 36
  weight_is : c.index-weight.result.now ≡ get_or c.self.inside.weights.items c.args.i 0
  place : IsPlaced c.self.inside.weights.items c.self.inside.used c.self.inside.total c.self.inside.bytes.items c.self.inside.totals.items c.self.inside.trees.items c.args.i c.from-number.result
  out : IsOut c.self.inside.weights.items c.self.inside.used c.self.inside.total c.self.inside.bytes.items c.self.inside.totals.items c.self.inside.trees.items c.args.i c.from-number.result

known : (c : After-from-number) → Known c
known c =
    let weights = c.self.inside.weights.items in
    let inside : c.args.i < length (take c.self.inside.used c.self.inside.weights.items) = rw (← c.self.view_is) at c.requires in
    let byte : c.index-bin.result.now ≡ get_or c.self.inside.bytes.items c.args.i 0 = byte_read _ _ _ _ _ _ c.args.i c.index-bin.result.now c.self.invariant inside c.index-bin.ensures in
    let bin : IsBinOf (get_or c.self.inside.bytes.items c.args.i 0) (get_or (take c.self.inside.used c.self.inside.weights.items) c.args.i 0) = c.self.invariant.counted.bytes_are c.args.i inside in
    let less : c.from-number.result < 36 = omega (arith, bin.most, byte, c.from-number.ensures, c.if-bin-eq-NO_BIN.false) in
    record {
      number_is = less;
      weight_is = weight_read _ _ _ _ _ _ c.args.i c.index-weight.result.now c.self.invariant inside c.index-weight.ensures;
      place = placed _ _ _ _ _ _ c.args.i c.from-number.result c.self.invariant inside less;
      out = taken_out _ _ _ _ _ _ c.args.i c.from-number.result c.self.invariant inside less (c.from-number.ensures ∙ byte);
    }

pub overflow_sub-index_mut : goal.overflow_sub-index_mut
overflow_sub-index_mut c =
    let k = known (goal.at.overflow_sub-index_mut c).After-from-number in
    let t = total_read _ _ _ _ _ _ c.from-number.result c.index_mut-3.result.now c.self.invariant k.number_is c.index_mut-3.ensures.value in
    omega (arith, k.weight_is, k.out.covers, t)

pub lower_count-requires-clause-block : goal.lower_count-requires-clause-block
lower_count-requires-clause-block c =
    let k = known (goal.at.lower_count-requires-clause-block c).After-from-number in
    rw (tree_read _ _ _ _ _ _ c.from-number.result c.index_mut-tree.result.now c.self.invariant k.number_is c.index_mut-tree.ensures.value) k.place.block

pub lower_count-requires-clause-some : goal.lower_count-requires-clause-some
lower_count-requires-clause-some c =
    let k = known (goal.at.lower_count-requires-clause-some c).After-from-number in
    rw (tree_read _ _ _ _ _ _ c.from-number.result c.index_mut-tree.result.now c.self.invariant k.number_is c.index_mut-tree.ensures.value) k.out.some

pub lower_count-requires-clause-small : goal.lower_count-requires-clause-small
lower_count-requires-clause-small c =
    let k = known (goal.at.lower_count-requires-clause-small c).After-from-number in
    rw (tree_read _ _ _ _ _ _ c.from-number.result c.index_mut-tree.result.now c.self.invariant k.number_is c.index_mut-tree.ensures.value) (omega (arith, k.place.small))

pub invariant_of-self : goal.invariant_of-self
invariant_of-self c =
    let k = known (goal.at.invariant_of-self c).After-from-number in
    let tree = tree_read _ _ _ _ _ _ c.from-number.result c.index_mut-tree.result.now c.self.invariant k.number_is c.index_mut-tree.ensures.value in
    let t = total_read _ _ _ _ _ _ c.from-number.result c.index_mut-3.result.now c.self.invariant k.number_is c.index_mut-3.ensures.value in
    rw k.weight_is (k.out.after _ c.lower_count.new.tree (omega (arith, t, k.out.covers, k.weight_is)) (rw tree at c.lower_count.ensures.list) (rw tree at c.lower_count.ensures.room))

pub returns-clause-list : goal.returns-clause-list
returns-clause-list c =
    let k = known (goal.at.returns-clause-list c).After-from-number in
    rw (← c.self.view_is) (take-set-lt c.self.inside.used c.self.inside.weights.items c.args.i 0 k.place.in_used)
