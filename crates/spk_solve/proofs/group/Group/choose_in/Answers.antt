use Rattle.std.proofs.Common.{◌≡◌, ◌≤◌, ◌+◌, ◌-◌, ◌*◌, ◌∙◌, arith, sym, ap, length}
use Rattle.std.proofs.Math.Nat.{mul-le-mul_right}
use Rattle.spk_solve.specs.Bins.{Try, taken}
use Rattle.spk_solve.specs.Choice.{choice_of}
use Rattle.spk_solve.specs.SumTrees.{search_steps}
use Rattle.spk_solve.proofs.GroupStates.{place_read}
use Rattle.spk_solve.proofs.Tries.{taken_here, taken_more, taken_last}
use Rattle.spk_solve.proofs.group.Group.choose_in.Goals as goal
use Rattle.spk_solve.proofs.group.Group.choose_in.Goals.{else-tries-test, then-tries-test+then-drawn-index}

pub tries-preserved : goal.tries-preserved
tries-preserved g c =
    let list = c.args.self.now.list in
    let bin = c.args.bin in
    let try : Try = record { place = c.tries.drawn.place; value = c.tries.drawn.value; stream = c.tries.stream } in
    let weight = place_read _ _ _ _ _ _ c.args.self.now c.tries.drawn.place c.index.result.now c.self.invariant c.self.view_is c.tries.invariant.place c.index.ensures in
    record {
      same = ap (taken list bin (64 - (c.tries.counter + 1))) (sym c.draw-drawn-in-tries.ensures.drawn)
          ∙ taken_more list bin c.tries.counter try c.tries-test.true (rw weight at c.if-drawn-index.false)
          ∙ c.tries.invariant.same;
      place = c.draw-drawn-in-tries.ensures.place;
      some = c.draw-drawn-in-tries.ensures.some;
      later = omega (arith, c.tries.invariant.later, c.draw-drawn-in-tries.ensures.later);
      cost = omega (arith, c.tries.invariant.cost, c.draw-drawn-in-tries.ensures.cost);
    }

pub returns-clause-choice : goal.returns-clause-choice
returns-clause-choice g c =
    let list = c.args.self.now.list in
    let bin = c.args.bin in
    let try : Try = record { place = c.tries.drawn.place; value = c.tries.drawn.value; stream = c.tries.stream } in
    let weight = place_read _ _ _ _ _ _ c.args.self.now c.tries.drawn.place c.index-2.result.now c.self.invariant c.self.view_is c.tries.invariant.place c.index-2.ensures in
    let is : taken list bin (64 - c.tries.counter) try ≡ try =
    elim c.tries-test.branch [
      | else-tries-test w ↦ taken_last list bin c.tries.counter try w.tries-test.false
      | then-tries-test+then-drawn-index w ↦
          let value = place_read _ _ _ _ _ _ c.args.self.now c.tries.drawn.place w.index.result.now c.self.invariant c.self.view_is c.tries.invariant.place w.index.ensures in
          taken_here list bin (64 - c.tries.counter) try (rw value at w.if-drawn-index.true)
    ] in
    rw weight (ap (choice_of list) (sym c.tries.invariant.same ∙ is))

pub returns-clause-cost : goal.returns-clause-cost
returns-clause-cost g c =
    let s = search_steps (length c.args.self.now.list) in
    let most : c.tries.counter * s ≤ 64 * s = mul-le-mul_right s (omega arith) in
    omega (arith, c.tries.invariant.cost)
