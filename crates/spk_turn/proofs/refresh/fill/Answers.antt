use Rattle.std.proofs.Common.{◌≡◌, ◌<◌, arith, length, sym, ap, ◌∙◌}
use Rattle.std.proofs.lemmas.List.{length-replicate}
use Rattle.std.specs.Prelude.{slice_set}
use Rattle.spk_turn.specs.Ready.{propensity_in}
use Rattle.spk_turn.specs.Slots.{slot_count}
use Rattle.spk_turn.proofs.Anew.{one_more_right, all_first_right}
use Rattle.spk_turn.proofs.Events.{all_seen}
use Rattle.spk_turn.proofs.SlotLaws.{count_is, place_at}
use Rattle.spk_turn.proofs.refresh.fill.Goals as goal

pub slots-init : goal.slots-init
slots-init g c = record {
  first = record { all = ap length c.reset.ensures.list ∙ length-replicate c.count-count.result 0 ∙ c.count-count.ensures ∙ sym (count_is c.args.slots.now); right = λ slot less. absurd (omega (arith, less)) };
  cost = omega arith;
  capacity = c.reset.ensures.capacity;
}

pub propensity-weight-requires-clause-seen : goal.propensity-weight-requires-clause-seen
propensity-weight-requires-clause-seen g c = all_seen _ _ _ _ _ _ c.requires.ready

pub set-requires-clause-place : goal.set-requires-clause-place
set-requires-clause-place g c = omega (arith, c.slots.invariant.first.all, c.slots-test.true, c.count-count.ensures, count_is c.args.slots.now)

pub slots-preserved : goal.slots-preserved
slots-preserved g c =
    let less : c.slots.slot < slot_count c.args.slots.now = omega (arith, c.slots-test.true, c.count-count.ensures) in
    let weight : c.propensity-weight.result ≡ propensity_in (g.A.App.rules c.args.app.now) (g.V.View.sight c.args.view.now) c.place.result = c.propensity-weight.ensures.sum in
    record {
      first = one_more_right _ _ _ _ _ c.slots.slot _ (omega (arith, less, count_is c.args.slots.now)) (c.place.ensures.place ∙ sym (place_at c.args.slots.now c.slots.slot less)) c.slots.invariant.first (c.set.ensures.list ∙ ap (slice_set (g.S.Solver.list c.slots.solver) c.slots.slot) weight);
      cost = omega (arith, c.propensity-weight.ensures.step, c.slots.invariant.cost);
      capacity = c.set.ensures.capacity ∙ c.slots.invariant.capacity;
    }

pub returns-clause-afresh : goal.returns-clause-afresh
returns-clause-afresh g c = all_first_right _ _ _ _ c.slots.slot (omega (arith, c.slots-test.false, c.count-count.ensures, count_is c.args.slots.now)) c.slots.invariant.first
