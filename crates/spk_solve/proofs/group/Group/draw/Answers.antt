use Rattle.std.proofs.Common.{◌≡◌, ◌∙◌, ◌+◌, ◌<◌, ◌^◌, ℕ, List, arith, ap, length, get_or, sum}
use Rattle.spk_num.specs.Draws.{next_state, below_of}
use Rattle.spk_solve.specs.Bins.{members, try_of}
use Rattle.spk_solve.specs.Groups.{block_counts, blocks_of}
use Rattle.spk_solve.proofs.BinChanges.{counts_long}
use Rattle.spk_solve.proofs.BlockMembers.{IsFound, counts_sum, found}
use Rattle.spk_solve.proofs.GroupStates.{tree_counts}
use Rattle.spk_solve.proofs.Members.{end_small, member_some, member_within}
use Rattle.spk_solve.proofs.TreeLevels.{steps_grow}
use Rattle.spk_solve.proofs.group.Group.draw.Given.{Over}
use Rattle.spk_solve.proofs.group.Group.draw.Goals as goal
use Rattle.spk_solve.proofs.group.Group.draw.Goals.{After-total, After-find-found, After-member_in}

-- the tree counts the members of the bin
counts_of : (g : Over) (c : After-total g) → c.index-tree.result.now.list ≡ block_counts c.args.self.now.list c.args.bin
counts_of g c =
    tree_counts _ _ _ _ _ _ c.args.self.now c.args.bin c.from.result c.index-tree.result.now c.self.invariant c.self.view_is c.requires.number c.from.ensures c.index-tree.ensures

total_of : (g : Over) (c : After-total g) → c.total.result ≡ length (members c.args.self.now.list c.args.bin)
total_of g c = c.total.ensures.total ∙ ap sum (counts_of g c) ∙ counts_sum c.args.self.now.list c.args.bin

pub below-k-requires-clause-above : goal.below-k-requires-clause-above
below-k-requires-clause-above g c = omega (arith, total_of g (goal.at.below-k-requires-clause-above g c).After-total, c.requires.some)

pub below-value-requires-clause-small : goal.below-value-requires-clause-small
below-value-requires-clause-small g c =
    let end : c.pow.result ≡ 2 ^ (c.args.bin + 1) = c.pow.ensures ∙ ap (λ b. 2 ^ (b + 1)) c.from-2.ensures in
    omega (arith, end, end_small c.args.bin c.requires.number)

-- the block and the rest that were found
found_of : (g : Over) (c : After-find-found g) → IsFound c.args.self.now.list c.args.bin c.below-k.result c.find-found.result.place c.find-found.result.rest
found_of g c =
    let counts : c.index-tree.result.now.list ≡ block_counts c.args.self.now.list c.args.bin = tree_counts _ _ _ _ _ _ c.args.self.now c.args.bin c.from.result c.index-tree.result.now c.self.invariant c.self.view_is c.requires.number c.from.ensures c.index-tree.ensures in
    found c.args.self.now.list c.args.bin c.below-k.result c.find-found.result.place c.find-found.result.rest (rw counts at c.find-found.ensures.named)

pub member_in-requires-clause-block : goal.member_in-requires-clause-block
member_in-requires-clause-block g c = (found_of g (goal.at.member_in-requires-clause-block g c).After-find-found).within

pub member_in-requires-clause-rest : goal.member_in-requires-clause-rest
member_in-requires-clause-rest g c = (found_of g (goal.at.member_in-requires-clause-rest g c).After-find-found).left

-- the member that was drawn
record IsDrawn (g : Over) (c : After-member_in g) : Type 0 where
  place : c.member_in.result ≡ get_or (members c.args.self.now.list c.args.bin) c.below-k.result 0
  number : c.below-k.result ≡ below_of (length (members c.args.self.now.list c.args.bin)) (next_state c.args.stream.now)
  less : c.below-k.result < length (members c.args.self.now.list c.args.bin)

drawn_of : (g : Over) (c : After-member_in g) → IsDrawn g c
drawn_of g c =
    let list = c.args.self.now.list in
    let bin = c.args.bin in
    let counts : c.index-tree.result.now.list ≡ block_counts c.args.self.now.list c.args.bin = tree_counts _ _ _ _ _ _ c.args.self.now c.args.bin c.from.result c.index-tree.result.now c.self.invariant c.self.view_is c.requires.number c.from.ensures c.index-tree.ensures in
    let total : c.total.result ≡ length (members list bin) = c.total.ensures.total ∙ ap sum counts ∙ counts_sum list bin in
    let block : IsFound list bin c.below-k.result c.find-found.result.place c.find-found.result.rest = found list bin c.below-k.result c.find-found.result.place c.find-found.result.rest (rw counts at c.find-found.ensures.named) in
    let number : c.below-k.result ≡ below_of (length (members list bin)) c.below-k.new.self = c.below-k.ensures.number ∙ ap (λ n. below_of n c.below-k.new.self) total in
    record {
      place = rw block.split at c.member_in.ensures.member;
      number = number ∙ ap (below_of (length (members list bin))) c.below-k.ensures.state;
      less = omega (arith, c.below-k.ensures.below, total);
    }

try_is : (list : List ℕ) (bin stream place value after k : ℕ)
    → place ≡ get_or (members list bin) k 0
    → k ≡ below_of (length (members list bin)) (next_state stream)
    → value ≡ below_of (2 ^ (bin + 1)) after
    → after ≡ next_state (next_state stream)
    → try_of list bin stream ≡ record { place = place; value = value; stream = after }
try_is list bin stream place value after k place_is k_is value_is after_is = cc

pub returns-clause-drawn : goal.returns-clause-drawn
returns-clause-drawn g c =
    let drawn = drawn_of g (goal.at.returns-clause-drawn g c).After-member_in in
    let end : c.pow.result ≡ 2 ^ (c.args.bin + 1) = c.pow.ensures ∙ ap (λ b. 2 ^ (b + 1)) c.from-2.ensures in
    try_is c.args.self.now.list c.args.bin c.args.stream.now c.member_in.result c.below-value.result c.below-value.new.self c.below-k.result drawn.place drawn.number
    (c.below-value.ensures.number ∙ ap (λ n. below_of n c.below-value.new.self) end)
    (c.below-value.ensures.state ∙ ap next_state c.below-k.ensures.state)

pub returns-clause-place : goal.returns-clause-place
returns-clause-place g c =
    let drawn = drawn_of g (goal.at.returns-clause-place g c).After-member_in in
    omega (arith, drawn.place, member_within c.args.self.now.list c.args.bin c.below-k.result drawn.less)

pub returns-clause-some : goal.returns-clause-some
returns-clause-some g c =
    let drawn = drawn_of g (goal.at.returns-clause-some g c).After-member_in in
    rw drawn.place (member_some c.args.self.now.list c.args.bin c.below-k.result drawn.less)

pub returns-clause-cost : goal.returns-clause-cost
returns-clause-cost g c =
    let counts : c.index-tree.result.now.list ≡ block_counts c.args.self.now.list c.args.bin = tree_counts _ _ _ _ _ _ c.args.self.now c.args.bin c.from.result c.index-tree.result.now c.self.invariant c.self.view_is c.requires.number c.from.ensures c.index-tree.ensures in
    let long : length c.index-tree.result.now.list ≡ blocks_of (length c.args.self.now.list) = ap length counts ∙ counts_long c.args.self.now.list c.args.bin in
    omega (arith, c.find-found.ensures.cost, steps_grow (length c.index-tree.result.now.list) (length c.args.self.now.list) (omega arith))
