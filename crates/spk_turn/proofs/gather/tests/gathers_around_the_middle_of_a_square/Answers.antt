use Rattle.std.proofs.Common.{arith, sym, subst, ◌<◌, length}
use Rattle.spk_app.specs.PlainViews.{PlainSites}
use Rattle.spk_turn.proofs.Gathering.{reach_one}
use Rattle.spk_turn.proofs.PlainPlaces.{IsFull, plain_mutual, plain_room}
use Rattle.spk_turn.proofs.gather.tests.gathers_around_the_middle_of_a_square.Goals as goal

pub gather-requires-clause-mutual : goal.gather-requires-clause-mutual
gather-requires-clause-mutual g c =
    let full : IsFull c.new-view.result = subst IsFull (sym c.new-view.ensures) (record { lattice = c.known.ensures; all = omega (arith, c.in_ok-vec.ensures.len) }) in
    plain_mutual c.new-view.result full

pub gather-requires-clause-room : goal.gather-requires-clause-room
gather-requires-clause-room g c =
    let full : IsFull c.new-view.result = subst IsFull (sym c.new-view.ensures) (record { lattice = c.known.ensures; all = omega (arith, c.in_ok-vec.ensures.len) }) in
    let inside : 12 < length c.new-view.result.values = subst (λ (v : PlainSites). 12 < length v.values) (sym c.new-view.ensures) (omega (arith, c.in_ok-vec.ensures.len)) in
    rw c.start.ensures (reach_one _ c.loop-hops.hops-counter 12 729 (plain_room c.new-view.result c.loop-hops.hops-counter 12 full inside (omega arith)))

pub gather-requires-2-clause-mutual : goal.gather-requires-2-clause-mutual
gather-requires-2-clause-mutual g c =
    let full : IsFull c.new-view.result = subst IsFull (sym c.new-view.ensures) (record { lattice = c.known.ensures; all = omega (arith, c.in_ok-vec.ensures.len) }) in
    plain_mutual c.new-view.result full

pub gather-requires-2-clause-room : goal.gather-requires-2-clause-room
gather-requires-2-clause-room g c =
    let full : IsFull c.new-view.result = subst IsFull (sym c.new-view.ensures) (record { lattice = c.known.ensures; all = omega (arith, c.in_ok-vec.ensures.len) }) in
    let inside : 12 < length c.new-view.result.values = subst (λ (v : PlainSites). 12 < length v.values) (sym c.new-view.ensures) (omega (arith, c.in_ok-vec.ensures.len)) in
    rw c.start-2.ensures (reach_one _ 1 12 729 (plain_room c.new-view.result 1 12 full inside (omega arith)))
