use Rattle.std.proofs.Common.{arith, ap, sym, length, ◌<◌, ◌≤◌, List, ℕ, refl, subst, ◌∙◌}
use Rattle.spk_turn.specs.Reached.{IsNear, ReachAtMost}
use Rattle.spk_turn.specs.Ready.{IsRightBut}
use Rattle.spk_turn.specs.Slots.{places}
use Rattle.std.proofs.lemmas.List.Elements.{All-get_or}
use Rattle.std.specs.Prelude.{All, Contains}
use Rattle.spk_turn.proofs.Gathering.{all_inside}
use Rattle.spk_turn.proofs.Anew.{first_right, next_first, last_right}
use Rattle.spk_turn.proofs.refresh.refresh.Goals as goal

pub loop-other-init : goal.loop-other-init
loop-other-init g c = record {
  but = first_right (g.A.App.rules c.args.app.now) (g.V.View.sight c.args.view.now) (places c.args.slots.now) (g.S.Solver.list c.args.solver.now) c.as_slice-other-items.result.now g.A.App.PROP c.args.gathered.now c.requires.all c.requires.right
      (λ other near. subst (λ (items : List ℕ). Contains items other) (sym c.as_slice-other-items.ensures.places) (c.gather.ensures.covers other (subst (λ n. IsNear (g.V.View.sight c.args.view.now).near n c.args.gathered.now other) (sym c.PROP.ensures) near)));
  cost = omega arith;
  capacity = refl;
}

pub refresh_one-requires-clause-place : goal.refresh_one-requires-clause-place
refresh_one-requires-clause-place g c =
    let n : ℕ = length (g.V.View.sight c.args.view.now).values in
    let inside : All (λ j. j < n) c.gather.new.gathered =
    all_inside (g.V.View.sight c.args.view.now).near n c.PROP.result c.args.gathered.now c.gather.new.gathered c.requires.ready.both_ways c.requires.inside c.gather.ensures.reached in
    All-get_or (λ j. j < n) c.as_slice-other-items.result.now c.loop-other.other-index 0 c.loop-other-test.true (rw c.as_slice-other-items.ensures.places inside)

pub refresh_one-requires-clause-all : goal.refresh_one-requires-clause-all
refresh_one-requires-clause-all g c = c.loop-other.invariant.but.all

pub loop-other-preserved : goal.loop-other-preserved
loop-other-preserved g c = record {
  but = c.refresh_one.ensures.right _ (subst (λ (todo : List ℕ). IsRightBut (g.A.App.rules c.args.app.now) (g.V.View.sight c.args.view.now) (places c.args.slots.now) (g.S.Solver.list c.loop-other.solver) todo) (next_first _ c.loop-other.other-index _ c.loop-other-test.true refl) c.loop-other.invariant.but);
  cost = omega (arith, c.refresh_one.ensures.cost, c.loop-other.invariant.cost);
  capacity = c.refresh_one.ensures.capacity ∙ c.loop-other.invariant.capacity;
}

pub returns-clause-afresh : goal.returns-clause-afresh
returns-clause-afresh g c = last_right _ _ _ _ _ c.loop-other.other-index c.loop-other-test.false c.loop-other.invariant.but

pub returns-clause-cost : goal.returns-clause-cost
returns-clause-cost g c = λ most reach.
    let few : length c.gather.new.gathered ≤ most = c.gather.ensures.at_most most (subst (λ n. ReachAtMost (g.V.View.sight c.args.view.now).near n c.args.gathered.now most) (sym c.PROP.ensures) reach) in
    omega (arith, c.loop-other.invariant.cost, few, ap length c.as_slice-other-items.ensures.places)
