use Rattle.std.proofs.Common.{◌≡◌, ◌∙◌, ◌<◌, ◌≤◌, ◌+◌, arith, sym, refl, sum, take}
use Rattle.std.proofs.lemmas.List.Sums.{sum_by_more}
use Rattle.std.specs.Prelude.{slice_index}
use Rattle.spk_solve.proofs.Names.{bins_start, bin_here, bin_passed}
use Rattle.spk_solve.proofs.group.named_bin.Goals as goal

pub bins-init : goal.bins-init
bins-init c = record {
  passed = refl;
  not_passed = omega arith;
  same = bins_start (slice_index c.args.totals.now) c.args.target;
}

pub returns-then-target-passed-clause-named : goal.returns-then-target-passed-clause-named
returns-then-target-passed-clause-named c =
    let total = slice_index c.args.totals.now in
    let less : c.args.target < c.bins.passed + total c.bins.bin = rw c.from.ensures at c.if-target-passed.true in
    sym c.bins.invariant.same ∙ bin_here total c.bins.passed c.args.target c.bins.bin c.bins-test.true less

pub bins-preserved : goal.bins-preserved
bins-preserved c =
    let totals = c.args.totals.now in
    let total = slice_index totals in
    let least : c.bins.passed + total c.bins.bin ≤ c.args.target = rw c.from.ensures at c.if-target-passed.false in
    let more : sum (take (c.bins.bin + 1) totals) ≡ sum (take c.bins.bin totals) + total c.bins.bin = sum_by_more (λ x. x) totals c.bins.bin 0 (omega (arith, c.requires.long)) in
    rw c.from.ensures (record {
      passed = omega (arith, c.bins.invariant.passed, more);
      not_passed = least;
      same = bin_passed total c.bins.passed c.args.target c.bins.bin c.bins-test.true least ∙ c.bins.invariant.same;
    })
