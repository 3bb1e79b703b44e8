use Rattle.std.proofs.Common.{◌∙◌, ◌<◌, sym, ap, arith, length, sum, List, ℕ}
use Rattle.std.specs.Prelude.{slice_index}
use Rattle.spk_num.specs.Logarithm.{wait_of}
use Rattle.spk_turn.proofs.Anew.{length-propensities, propensity_at}
use Rattle.spk_turn.specs.Slots.{places}
use Rattle.spk_turn.proofs.SlotLaws.{count_is, place_at}
use Rattle.spk_turn.proofs.Steps.{event_none, event_late, event_goes, timed}
use Rattle.spk_turn.proofs.turn.event.Goals as goal

pub returns-in_default-clause-ends : goal.returns-in_default-clause-ends
returns-in_default-clause-ends g c =
    rw c.in_default.ensures.still (event_none (g.A.App.rules c.args.app.now) g.S.Solver.rule (g.V.View.sight c.args.view.now) (places c.args.slots.now) _ c.args.stream.now c.args.rest c.requires.afresh c.in_default.ensures.none)

pub returns-then-ticks-rest-clause-ends : goal.returns-then-ticks-rest-clause-ends
returns-then-ticks-rest-clause-ends g c =
    let ticks = c.wait-ticks.ensures.ticks ∙ ap (λ n. wait_of n c.next.result) c.total-total.ensures.total ∙ ap (wait_of (sum (g.S.Solver.list c.args.solver.now))) c.next.ensures.draw in
    rw c.next.ensures.state (event_late (g.A.App.rules c.args.app.now) g.S.Solver.rule (g.V.View.sight c.args.view.now) (places c.args.slots.now) c.args.stream.now c.args.rest c.choose.new.stream c.wait-ticks.result
    (timed (g.A.App.rules c.args.app.now) g.S.Solver.rule (g.V.View.sight c.args.view.now) (places c.args.slots.now) _ c.args.stream.now c.choose.new.stream c.wait-ticks.result c.in-Some.chosen c.requires.afresh c.in-Some.ensures.some c.in-Some.ensures.chosen ticks)
    c.if-ticks-rest.true)

pub act-requires-clause-place : goal.act-requires-clause-place
act-requires-clause-place g c = omega (arith, c.in-Some.ensures.place, ap length c.requires.afresh, length-propensities (g.A.App.rules c.args.app.now) (g.V.View.sight c.args.view.now) (places c.args.slots.now), count_is c.args.slots.now)

pub act-requires-clause-rest : goal.act-requires-clause-rest
act-requires-clause-rest g c =
    let inside : c.in-Some.chosen.place < length (places c.args.slots.now) =
    omega (arith, c.in-Some.ensures.place, ap length c.requires.afresh, length-propensities (g.A.App.rules c.args.app.now) (g.V.View.sight c.args.view.now) (places c.args.slots.now)) in
    let there = ap (λ (xs : List ℕ). slice_index xs c.in-Some.chosen.place) c.requires.afresh
    ∙ propensity_at (g.A.App.rules c.args.app.now) (g.V.View.sight c.args.view.now) (places c.args.slots.now) c.in-Some.chosen.place inside in
    rw (there, place_at c.args.slots.now c.in-Some.chosen.place (omega (arith, inside, count_is c.args.slots.now))) at c.in-Some.ensures.rest

pub returns-clause-goes : goal.returns-clause-goes
returns-clause-goes g c =
    let ticks = c.wait-ticks.ensures.ticks ∙ ap (λ n. wait_of n c.next.result) c.total-total.ensures.total ∙ ap (wait_of (sum (g.S.Solver.list c.args.solver.now))) c.next.ensures.draw in
    rw c.next.ensures.state (event_goes (g.A.App.rules c.args.app.now) g.S.Solver.rule (g.V.View.sight c.args.view.now) (places c.args.slots.now) _ c.args.stream.now c.args.rest c.choose.new.stream c.wait-ticks.result
    (timed (g.A.App.rules c.args.app.now) g.S.Solver.rule (g.V.View.sight c.args.view.now) (places c.args.slots.now) _ c.args.stream.now c.choose.new.stream c.wait-ticks.result c.in-Some.chosen c.requires.afresh c.in-Some.ensures.some c.in-Some.ensures.chosen ticks)
    c.if-ticks-rest.false (c.act.ensures.values c.args.stream.now c.choose.new.stream (rw (sym c.choose.ensures.list) at c.in-Some.ensures.chosen)))

pub returns-in_default-clause-idle : goal.returns-in_default-clause-idle
returns-in_default-clause-idle g c =
    let all = ap length c.requires.afresh ∙ length-propensities (g.A.App.rules c.args.app.now) (g.V.View.sight c.args.view.now) (places c.args.slots.now) ∙ count_is c.args.slots.now in
    omega (arith, c.choose.ensures.cost, ap g.S.Solver.reach all)

pub returns-then-ticks-rest-clause-idle : goal.returns-then-ticks-rest-clause-idle
returns-then-ticks-rest-clause-idle g c =
    let all = ap length c.requires.afresh ∙ length-propensities (g.A.App.rules c.args.app.now) (g.V.View.sight c.args.view.now) (places c.args.slots.now) ∙ count_is c.args.slots.now in
    omega (arith, c.choose.ensures.cost, ap g.S.Solver.reach all)

pub returns-clause-cost : goal.returns-clause-cost
returns-clause-cost g c = λ most reach.
    let all = ap length c.requires.afresh ∙ length-propensities (g.A.App.rules c.args.app.now) (g.V.View.sight c.args.view.now) (places c.args.slots.now) ∙ count_is c.args.slots.now in
    omega (arith, c.choose.ensures.cost, ap g.S.Solver.reach all, c.act.ensures.cost most reach)
