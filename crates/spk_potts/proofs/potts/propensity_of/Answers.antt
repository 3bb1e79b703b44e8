use Rattle.std.proofs.Common.{◌-◌, length, ap, refl, ◌∙◌, arith}
use Rattle.std.proofs.lemmas.List.Sums.{length-filter}
use Rattle.spk_potts.proofs.ValueKinds.{differs, first_goes}
use Rattle.spk_potts.proofs.KindSums.{none_summed, one_summed, all_summed, none_of}
use Rattle.spk_potts.proofs.potts.propensity_of.Goals as goal

pub kinds-init : goal.kinds-init
kinds-init c = record {
  degree = c.len-degree.ensures.count;
  before = c.len-before.ensures.count ∙ ap length c.drop_all.ensures ∙ length-filter (differs c.args.own) c.args.near.now;
  summed = none_summed c.args.weights.now c.args.own c.args.near.now c.drop_all.new.self c.drop_all.ensures;
}

pub returns-in_default-clause-sum : goal.returns-in_default-clause-sum
returns-in_default-clause-sum c = all_summed c.args.weights.now c.args.own c.kinds.sum c.kinds.counter c.args.near.now c.kinds.near c.in_default.ensures.none c.kinds.invariant.summed

pub overflow_sub-alike : goal.overflow_sub-alike
overflow_sub-alike c = omega (arith, c.len.ensures.count, c.len-left.ensures.count, first_goes c.in-Some.value c.kinds.near _ c.drop_all-in-kinds.new.self c.in-Some.ensures.some c.drop_all-in-kinds.ensures)

pub kinds-preserved : goal.kinds-preserved
kinds-preserved c = record {
  degree = c.kinds.invariant.degree;
  before = c.kinds.invariant.before;
  summed = one_summed c.args.weights.now c.args.own c.in-Some.value c.from-sum.result (c.len-left.result - c.len.result) c.kinds.sum c.kinds.counter c.args.near.now c.kinds.near _ c.drop_all-in-kinds.new.self c.in-Some.ensures.some c.drop_all-in-kinds.ensures
      (rw (c.len-left.ensures.count, c.len.ensures.count) refl) (c.from-sum.ensures ∙ c.between.ensures.weight ∙ rw (c.kinds.invariant.before, c.kinds.invariant.degree) refl) (omega (arith, c.from-sum.ensures, c.between.ensures.small)) c.kinds.invariant.summed;
}

pub returns-clause-sum : goal.returns-clause-sum
returns-clause-sum c = all_summed c.args.weights.now c.args.own c.kinds.sum c.kinds.counter c.args.near.now c.kinds.near (none_of c.kinds.near (omega (arith, c.kinds.invariant.summed.fewer, c.kinds.invariant.degree, c.kinds-test.false))) c.kinds.invariant.summed
