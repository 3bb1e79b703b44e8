use Rattle.std.proofs.Common.{arith, ap, sym, subst, ◌≡◌, ◌<◌, ◌∙◌, length, length-set}
use Rattle.spk_app.specs.Sights.{Sight}
use Rattle.spk_app.specs.PlainViews.{PlainSites, sight_of}
use Rattle.spk_turn.proofs.Events.{noted_inside}
use Rattle.spk_turn.proofs.PlainPlaces.{IsFull, plain_mutual, plain_room}
use Rattle.spk_turn.proofs.changes.tests.finds_what_changed_on_a_square.Goals as goal

pub note-requires-clause-mutual : goal.note-requires-clause-mutual
note-requires-clause-mutual g c =
    let full : IsFull c.new-view.result = subst IsFull (sym c.new-view.ensures) (record { lattice = c.known.ensures; all = omega (arith, c.in_ok-vec.ensures.len) }) in
    plain_mutual c.new-view.result full

pub note-requires-clause-room : goal.note-requires-clause-room
note-requires-clause-room g c =
    let full : IsFull c.new-view.result = subst IsFull (sym c.new-view.ensures) (record { lattice = c.known.ensures; all = omega (arith, c.in_ok-vec.ensures.len) }) in
    let inside : 12 < length c.new-view.result.values = subst (λ (v : PlainSites). 12 < length v.values) (sym c.new-view.ensures) (omega (arith, c.in_ok-vec.ensures.len)) in
    plain_room c.new-view.result 1 12 full inside (omega arith)

pub find-requires : goal.find-requires
find-requires g c =
    let v : PlainSites = c.new-view.result in
    let full : IsFull v = subst IsFull (sym c.new-view.ensures) (record { lattice = c.known.ensures; all = omega (arith, c.in_ok-vec.ensures.len) }) in
    let inside : 12 < length v.values = subst (λ (s : PlainSites). 12 < length s.values) (sym c.new-view.ensures) (omega (arith, c.in_ok-vec.ensures.len)) in
    let first : length c.put.new.self.values ≡ length v.values = ap (λ (s : Sight). length s.values) c.put.ensures.sight ∙ length-set v.values 17 2 in
    let second : length c.put-2.new.self.values ≡ length v.values = ap (λ (s : Sight). length s.values) c.put-2.ensures.sight ∙ length-set c.put.new.self.values 7 3 ∙ first in
    let third : length c.put-3.new.self.values ≡ length v.values = ap (λ (s : Sight). length s.values) c.put-3.ensures.sight ∙ length-set c.put-2.new.self.values 2 2 ∙ second in
    rw third (noted_inside (sight_of v).near (length v.values) 1 12 v.values c.note.new.self (plain_mutual v full) inside c.note.ensures)
