use Rattle.std.proofs.Common.{◌≡◌, ◌+◌, ◌*◌, arith}
use Rattle.spk_solve.specs.SumTrees.{start}
use Rattle.spk_solve.proofs.TreeLevels.{start_more, start_next, two_powers, two_more}
use Rattle.spk_solve.proofs.sum_tree.form_of.Goals as goal

pub loop-base-preserved : goal.loop-base-preserved
loop-base-preserved c =
    let l = c.loop-base in
    let is : c.loop-base.base ≡ start c.loop-base.depth = c.loop-base.invariant.base in
    let more : start (c.loop-base.depth + 1) ≡ 16 * start c.loop-base.depth + 1 = start_more c.loop-base.depth in
    record {
      base = omega arith;
      shallow = omega (arith, two_more c.loop-base.depth, two_powers c.loop-base.depth);
      deep = omega (arith, c.loop-base.invariant.deep);
      least = λ e fits. omega (arith, start_next c.loop-base.depth e (omega arith));
      small = omega (arith, c.requires);
    }
