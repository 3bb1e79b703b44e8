use Rattle.std.proofs.Common.{◌≡◌, ◌<◌, ◌≢◌, length, arith, below_more, length-set, get_or-set_other, get_or-set_same, ◌∙◌}
use Rattle.std.proofs.lemmas.Bool.Decides.{nat_tests}
use Rattle.spk_lattice.proofs.Holding.{answer_alone, answer_next}
use Rattle.spk_lattice.proofs.regions.answer.answer_at.Goals as goal

pub returns-then-not-has_parts : goal.returns-then-not-has_parts
returns-then-not-has_parts c =
    let alone : length c.index-regions-place.result.places.items ≡ 0 = grind (arith, nat_tests) in
    answer_alone _ _ _ _ _ _ c.requires.regions c.requires.place c.index-regions-place.is alone c.holds.ensures

pub loop-k-preserved : goal.loop-k-preserved
loop-k-preserved c =
    let k = c.loop-k.k in
    let answers = c.loop-k.answers in
    let within : k < length c.args.regions.now = omega arith in
    let here : k < length answers = omega arith in
    record {
      many = length-set answers k c.holds-in-loop-k.result ∙ c.loop-k.invariant.many;
      known = below_more _ k
          (λ j h. let ne : j ≢ k = omega arith in rw get_or-set_other (c.loop-k.invariant.known j h))
          (rw get_or-set_same (answer_next _ _ _ _ _ _ c.requires.regions within c.index-regions-k.is c.loop-k.invariant.known c.holds-in-loop-k.ensures));
    }

pub returns : goal.returns
returns c =
    answer_next _ _ _ _ _ _ c.requires.regions c.requires.place c.index-regions-place.is (λ k h. c.loop-k.invariant.known k (omega arith)) c.holds-2.ensures
