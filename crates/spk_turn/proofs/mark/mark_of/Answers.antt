use Rattle.std.proofs.Common.{arith, ◌≡◌, ◌∙◌, ◌<◌, ◌^◌, sym}
use Rattle.std.specs.Prelude.{slice_index}
use Rattle.spk_turn.proofs.Listed.{prop_none, prop_more, mark_none, mark_passed, mark_here}
use Rattle.spk_turn.proofs.mark.mark_of.Goals as goal

pub weights-init : goal.weights-init
weights-init c = record {
  so_far = sym prop_none;
  not_passed = omega arith;
  room = omega arith;
  same = mark_none c.args.events.now c.args.rest;
}

pub returns-then-rest-passed-clause-named : goal.returns-then-rest-passed-clause-named
returns-then-rest-passed-clause-named c =
    mark_here c.args.events.now c.weights.k c.weights.passed c.args.rest c.weights-test.true (omega (arith, c.if-rest-passed.true, c.from-passed.ensures)) c.weights.invariant.same

pub weights-preserved : goal.weights-preserved
weights-preserved c =
    let weight : c.from-passed.result ≡ slice_index c.args.events.now.weights c.weights.k = c.from-passed.ensures in
    let small : c.from-passed.result < 2 ^ 32 = omega arith in
    record {
      so_far = rw weight (omega (arith, c.weights.invariant.so_far, prop_more c.args.events.now c.weights.k c.weights-test.true));
      not_passed = omega (arith, c.if-rest-passed.false);
      room = omega (arith, c.weights.invariant.room);
      same = rw weight (mark_passed c.args.events.now c.weights.k c.weights.passed c.args.rest c.weights-test.true (omega (arith, c.if-rest-passed.false, weight)) ∙ c.weights.invariant.same);
    }
