use Rattle.std.proofs.Common.{ℕ, List, ◌+◌, ◌<◌, sym, ap, subst, ◌∙◌, arith, length}
use Rattle.spk_turn.specs.Reached.{ReachAtMost}
use Rattle.spk_app.specs.Sights.{Sight}
use Rattle.spk_turn.specs.Slots.{places}
use Rattle.spk_turn.proofs.Anew.{length-propensities}
use Rattle.spk_turn.proofs.Hops.{reaches_fewer}
use Rattle.spk_turn.proofs.Changing.{were_noted}
use Rattle.spk_turn.proofs.Events.{all_seen, still_ready, same_length, same_near, far_stays, reach_changed, changed_inside, noted_inside}
use Rattle.spk_turn.proofs.Levels.{after_chosen_at}
use Rattle.spk_turn.proofs.SlotLaws.{all_below, place_at}
use Rattle.spk_turn.proofs.turn.act.Goals as goal

pub events-events-requires-clause-place : goal.events-events-requires-clause-place
events-events-requires-clause-place g c = omega (arith, c.place-place.ensures.inside, c.requires.view)

pub events-events-requires-clause-seen : goal.events-events-requires-clause-seen
events-events-requires-clause-seen g c = all_seen _ _ _ _ _ c.place-place.result c.requires.ready

pub apply-requires-clause-place : goal.apply-requires-clause-place
apply-requires-clause-place g c = omega (arith, c.place-place.ensures.inside, c.requires.view)

pub apply-requires-clause-seen : goal.apply-requires-clause-seen
apply-requires-clause-seen g c = all_seen _ _ _ _ _ c.place-place.result c.requires.ready

pub note-requires-clause-place : goal.note-requires-clause-place
note-requires-clause-place g c = omega (arith, c.place-place.ensures.inside, c.requires.view)

pub note-requires-clause-room : goal.note-requires-clause-room
note-requires-clause-room g c =
    let less : c.place-place.result < length (g.V.View.sight c.args.view.now).values = omega (arith, c.place-place.ensures.inside, c.requires.view) in
    reaches_fewer (g.V.View.sight c.args.view.now).near c.STEP.result (g.A.App.PROP + g.A.App.STEP) c.place-place.result 729 729 (omega (arith, c.STEP.ensures)) (omega arith) (c.requires.ready.room c.place-place.result less)

pub find-requires : goal.find-requires
find-requires g c =
    let sight : Sight = g.V.View.sight c.args.view.now in
    let less : c.place-place.result < length sight.values = omega (arith, c.place-place.ensures.inside, c.requires.view) in
    rw (same_length (g.A.App.rules c.args.app.now) c.place-place.result c.mark_of-mark.result sight (g.V.View.sight c.apply.new.view) c.apply.ensures.sight)
    (noted_inside sight.near (length sight.values) c.STEP.result c.place-place.result sight.values c.note.new.self c.requires.ready.both_ways less c.note.ensures)

pub refresh-requires-clause-ready : goal.refresh-requires-clause-ready
refresh-requires-clause-ready g c =
    still_ready _ _ _ _ _ c.place-place.result c.mark_of-mark.result _ _ c.requires.ready (g.met.A.App.stays_valid c.args.app.now) (omega (arith, c.place-place.ensures.inside, c.requires.view))
    (rw c.events-events.ensures.events at c.mark_of-mark.ensures.has) c.apply.ensures.sight c.apply.ensures.whole

pub refresh-requires-clause-view : goal.refresh-requires-clause-view
refresh-requires-clause-view g c = c.requires.view ∙ sym (same_length (g.A.App.rules c.args.app.now) c.place-place.result c.mark_of-mark.result (g.V.View.sight c.args.view.now) (g.V.View.sight c.apply.new.view) c.apply.ensures.sight)

pub refresh-requires-clause-inside : goal.refresh-requires-clause-inside
refresh-requires-clause-inside g c =
    let sight : Sight = g.V.View.sight c.args.view.now in
    let less : c.place-place.result < length sight.values = omega (arith, c.place-place.ensures.inside, c.requires.view) in
    rw (same_length (g.A.App.rules c.args.app.now) c.place-place.result c.mark_of-mark.result sight (g.V.View.sight c.apply.new.view) c.apply.ensures.sight)
    (changed_inside sight.near (length sight.values) c.STEP.result c.place-place.result sight.values c.find.new.self.changed c.note.new.self c.requires.ready.both_ways less c.note.ensures (were_noted _ _ _ _ c.find.ensures.other))

pub refresh-requires-clause-room : goal.refresh-requires-clause-room
refresh-requires-clause-room g c =
    let sight : Sight = g.V.View.sight c.args.view.now in
    let less : c.place-place.result < length sight.values = omega (arith, c.place-place.ensures.inside, c.requires.view) in
    subst (λ (near : ℕ → List ℕ). ReachAtMost near g.A.App.PROP c.find.new.self.changed 729) (sym (same_near (g.A.App.rules c.args.app.now) c.place-place.result c.mark_of-mark.result sight (g.V.View.sight c.apply.new.view) c.apply.ensures.sight))
    (reach_changed sight.near g.A.App.PROP g.A.App.STEP c.place-place.result 729 sight.values c.find.new.self.changed c.note.new.self (rw (← c.STEP.ensures) c.note.ensures) (were_noted _ _ _ _ c.find.ensures.other) (c.requires.ready.room c.place-place.result less))

pub refresh-requires-clause-all : goal.refresh-requires-clause-all
refresh-requires-clause-all g c = ap length c.requires.afresh ∙ length-propensities (g.A.App.rules c.args.app.now) (g.V.View.sight c.args.view.now) (places c.args.slots.now)

pub refresh-requires-clause-right : goal.refresh-requires-clause-right
refresh-requires-clause-right g c =
    far_stays _ _ g.A.App.PROP g.A.App.STEP c.place-place.result c.mark_of-mark.result _ _ c.note.new.self _ _ _ c.requires.ready (g.met.A.App.local c.args.app.now)
    (rw c.events-events.ensures.events at c.mark_of-mark.ensures.has) c.apply.ensures.sight (rw (← c.STEP.ensures) c.note.ensures) c.find.ensures.all c.requires.afresh (rw c.requires.view at (all_below c.args.slots.now c.known.ensures))

pub returns-clause-values : goal.returns-clause-values
returns-clause-values g c = λ stream after chooses.
    ap (λ (s : Sight). s.values) c.apply.ensures.sight
    ∙ after_chosen_at (g.A.App.rules c.args.app.now) g.S.Solver.rule (g.V.View.sight c.args.view.now) (places c.args.slots.now) stream after c.mark_of-mark.result c.place-place.result c.args.chosen
    (place_at c.args.slots.now c.args.chosen.place c.requires.place ∙ sym c.place-place.ensures.place) (rw c.requires.afresh at chooses) (rw (← c.place-place.ensures.place) at c.requires.rest)
    (rw c.events-events.ensures.events at c.mark_of-mark.ensures.named)

pub returns-clause-all : goal.returns-clause-all
returns-clause-all g c = same_length (g.A.App.rules c.args.app.now) c.place-place.result c.mark_of-mark.result (g.V.View.sight c.args.view.now) (g.V.View.sight c.apply.new.view) c.apply.ensures.sight

pub returns-clause-ready : goal.returns-clause-ready
returns-clause-ready g c =
    still_ready _ _ _ _ _ c.place-place.result c.mark_of-mark.result _ _ c.requires.ready (g.met.A.App.stays_valid c.args.app.now) (omega (arith, c.place-place.ensures.inside, c.requires.view))
    (rw c.events-events.ensures.events at c.mark_of-mark.ensures.has) c.apply.ensures.sight c.apply.ensures.whole

pub returns-clause-cost : goal.returns-clause-cost
returns-clause-cost g c = λ most reach.
    let sight : Sight = g.V.View.sight c.args.view.now in
    let place : c.place-place.result < length sight.values = omega (arith, c.place-place.ensures.inside, c.requires.view) in
    let near : ReachAtMost sight.near g.A.App.PROP c.find.new.self.changed most =
    reach_changed sight.near g.A.App.PROP g.A.App.STEP c.place-place.result most sight.values c.find.new.self.changed c.note.new.self (rw (← c.STEP.ensures) c.note.ensures) (were_noted _ _ _ _ c.find.ensures.other) (reach c.place-place.result place) in
    let after : ReachAtMost (g.V.View.sight c.apply.new.view).near g.A.App.PROP c.find.new.self.changed most =
    subst (λ (near : ℕ → List ℕ). ReachAtMost near g.A.App.PROP c.find.new.self.changed most) (sym (same_near (g.A.App.rules c.args.app.now) c.place-place.result c.mark_of-mark.result sight (g.V.View.sight c.apply.new.view) c.apply.ensures.sight)) near in
    omega (arith, c.events-events.ensures.step, c.refresh.ensures.cost most after)
