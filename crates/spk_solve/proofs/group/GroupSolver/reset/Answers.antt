use Rattle.std.proofs.Common.{◌≡◌, ◌∙◌, ◌<◌, ◌≤◌, ℕ, arith, ap, length, take, subst, rules}
use Rattle.std.specs.Prelude.{vec_len}
use Rattle.spk_solve.specs.Kept.{Kept}
use Rattle.spk_solve.specs.Groups.{blocks_of, kept_at}
use Rattle.spk_solve.proofs.GroupStates.{grouped_zeros}
use Rattle.spk_solve.proofs.SumTreeLaws.{zeros}
use Rattle.spk_solve.proofs.group.GroupSolver.reset.Goals as goal

pub reset_trees-requires : goal.reset_trees-requires
reset_trees-requires c =
    let room : c.args.n ≤ length c.self.inside.weights.items = rw (← c.self.view_is) at c.requires in
    let same : c.zeros.self-inside.trees ≡ c.self.inside.trees = c.zeros.invariant.trees in
    λ bin less.
    let in_bins : bin < 36 = omega (arith, ap (λ v. length v.items) same, c.self.invariant.counted.trees_long) in
    let was : (kept_at c.self.inside.trees.items bin).room ≡ blocks_of (length c.self.inside.weights.items) = ap (λ k. k.room) (c.self.invariant.counted.trees_are bin in_bins) in
    let now : (kept_at c.zeros.self-inside.trees.items bin).room ≡ (kept_at c.self.inside.trees.items bin).room = ap (λ v. (kept_at v.items bin).room) same in
    omega (arith, was, now, c.blocks_of.ensures, room)

pub invariant_of-self : goal.invariant_of-self
invariant_of-self c =
    let room : c.args.n ≤ length c.self.inside.weights.items = rw (← c.self.view_is) at c.requires in
    let all : c.zeros.place ≡ c.args.n = omega arith in
    let empty : take c.args.n c.zeros.self-inside.weights.items ≡ zeros c.args.n = subst (λ n. take n c.zeros.self-inside.weights.items ≡ zeros n) all c.zeros.invariant.zeros in
    let long : vec_len c.zeros.self-inside.totals ≡ length c.zeros.self-inside.totals.items = search rules in
    let bins : vec_len c.zeros.self-inside.totals ≡ 36 = long ∙ ap (λ v. length v.items) c.zeros.invariant.totals ∙ c.self.invariant.counted.totals_long in
    let totals : c.fill.new.self.items ≡ zeros 36 = c.fill.ensures.items (λ y e. e) ∙ ap zeros bins in
    let trees : c.zeros.self-inside.trees ≡ c.self.inside.trees = c.zeros.invariant.trees in
    let trees_long : length c.zeros.self-inside.trees.items ≡ 36 = ap (λ v. length v.items) trees ∙ c.self.invariant.counted.trees_long in
    grouped_zeros c.zeros.self-inside.weights.items c.args.n (length c.self.inside.weights.items) c.zeros.self-inside.bytes.items c.fill.new.self.items c.reset_trees.new.trees.items
    (omega (arith, c.zeros.invariant.weights)) c.zeros.invariant.weights c.self.invariant.kept.room empty
    (c.zeros.invariant.bytes ∙ c.self.invariant.counted.bytes_long)
    (λ place less. c.zeros.invariant.none place (omega arith))
    totals (c.reset_trees.ensures.long ∙ trees_long)
    (λ bin less.
    let was : (kept_at c.self.inside.trees.items bin).room ≡ blocks_of (length c.self.inside.weights.items) = ap (λ k. k.room) (c.self.invariant.counted.trees_are bin less) in
    let now : (kept_at c.zeros.self-inside.trees.items bin).room ≡ (kept_at c.self.inside.trees.items bin).room = ap (λ v. (kept_at v.items bin).room) trees in
    let zero : kept_at c.reset_trees.new.trees.items bin ≡ record { list = zeros c.blocks_of.result; room = (kept_at c.zeros.self-inside.trees.items bin).room } = c.reset_trees.ensures.zeros bin (omega (arith, trees_long)) in
    let of_list : ℕ → Kept = λ n. record { list = zeros n; room = (kept_at c.zeros.self-inside.trees.items bin).room } in
    let of_room : ℕ → Kept = λ r. record { list = zeros (blocks_of c.args.n); room = r } in
    zero ∙ ap of_list c.blocks_of.ensures ∙ ap of_room (now ∙ was))
