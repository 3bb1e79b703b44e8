use Rattle.std.proofs.Common.{◌≡◌, ◌+◌, ◌-◌, ◌∙◌, suc, sym, arith}
use Rattle.spk_turn.specs.Slots.{places, slot_count}
use Rattle.spk_turn.proofs.Costs.{all_reach, one_accepted, cost_of_event, cost_of_choice}
use Rattle.spk_turn.proofs.Steps.{same_sector, turn_ended}
use Rattle.spk_turn.proofs.turn.turn.Goals as goal

pub returns-in-None-clause-turn : goal.returns-in-None-clause-turn
returns-in-None-clause-turn g c =
    let one_more : suc (c.args.window - (c.events.counter + 1)) ≡ c.args.window - c.events.counter = omega arith in
    let whole : c.events.local + (c.args.window - c.events.local) ≡ c.args.window = omega arith in
    let same = same_sector (g.A.App.rules c.args.app.now) g.S.Solver.rule (g.V.View.sight c.args.view.now) (g.V.View.sight c.events.view) (places c.args.slots.now) c.events.invariant.near in
    let ends = c.in-None.ensures.ends (c.args.window - (c.events.counter + 1)) c.events.local c.events.counts in
    sym c.events.invariant.state ∙ (rw (one_more, whole, same) at ends)

pub events-preserved : goal.events-preserved
events-preserved g c =
    let one_more : suc (c.args.window - (c.events.counter + 1)) ≡ c.args.window - c.events.counter = omega arith in
    let whole : c.events.local + (c.args.window - c.events.local) ≡ c.args.window = omega arith in
    let same = same_sector (g.A.App.rules c.args.app.now) g.S.Solver.rule (g.V.View.sight c.args.view.now) (g.V.View.sight c.events.view) (places c.args.slots.now) c.events.invariant.near in
    let goes = c.in-Some.ensures.goes (c.args.window - (c.events.counter + 1)) c.events.local c.events.counts in
    record {
      state = rw c.accept.ensures (sym (rw (one_more, whole, same) at goes) ∙ c.events.invariant.state);
      counts = one_accepted c.events.counts c.accept.new.self c.events.counter c.args.window c.events.invariant.counts c.accept.ensures (omega arith) (omega arith);
      within = omega (arith, c.in-Some.ensures.within);
      near = c.event.ensures.near ∙ c.events.invariant.near;
      all = c.event.ensures.all ∙ c.events.invariant.all;
      frame = c.event.ensures.frame ∙ c.events.invariant.frame;
      ready = c.event.ensures.ready;
      afresh = c.event.ensures.afresh;
      capacity = c.event.ensures.capacity ∙ c.events.invariant.capacity;
      cost = λ most reach.
          cost_of_event c.args.steps.now c.events.steps c.event.new.steps c.events.counter most (g.S.Solver.reach (slot_count c.args.slots.now)) (c.events.invariant.cost most reach)
          (c.in-Some.ensures.cost most (all_reach (g.V.View.sight c.args.view.now) (g.V.View.sight c.events.view) (g.A.App.PROP + g.A.App.STEP) most c.events.invariant.near c.events.invariant.all reach));
    }

pub returns-clause-turn : goal.returns-clause-turn
returns-clause-turn g c = sym c.events.invariant.state ∙ turn_ended _ c.args.window c.events.counter c.events.local _ c.events-test.false

pub returns-in-None-clause-cost : goal.returns-in-None-clause-cost
returns-in-None-clause-cost g c = λ most reach.
    cost_of_choice c.events.counts c.args.steps.now c.events.steps c.event.new.steps c.events.counter most (g.S.Solver.reach (slot_count c.args.slots.now)) c.events.invariant.counts (c.events.invariant.cost most reach) c.in-None.ensures.idle

pub returns-clause-cost : goal.returns-clause-cost
returns-clause-cost g c = λ most reach.
    cost_of_choice c.events.counts c.args.steps.now c.events.steps c.events.steps c.events.counter most (g.S.Solver.reach (slot_count c.args.slots.now)) c.events.invariant.counts (c.events.invariant.cost most reach) (omega arith)
