use Rattle.std.proofs.Common.{◌≡◌, ◌≢◌, ℕ, ◌+◌, ◌-◌, ◌/◌, ◌<◌, arith, length, get_or, ◌∙◌}
use Rattle.std.proofs.lemmas.List.{get_or_default, get_or-set_other, length-set, drop-set-lt}
use Rattle.spk_solve.proofs.TreeChanges.{off_covers, off_up}
use Rattle.spk_solve.proofs.sum_tree.raise.Goals as goal

pub overflow_sub-index : goal.overflow_sub-index
overflow_sub-index c =
    let inside : (c.up.at - 1) / 16 < length c.up.nodes.items = omega (arith, c.up.invariant.off.inside) in
    let was : c.index.result.now ≡ get_or c.up.nodes.items ((c.up.at - 1) / 16) 0 = c.index.ensures ∙ get_or_default c.up.nodes.items ((c.up.at - 1) / 16) c.index.result.now 0 inside in
    omega (arith, off_covers c.up.nodes.items c.args.base c.up.at c.args.old c.args.new ((c.up.at - 1) / 16) c.up.invariant.off (omega arith) (omega arith))

pub overflow_add-index : goal.overflow_add-index
overflow_add-index c =
    let inside : (c.up.at - 1) / 16 < length c.up.nodes.items = omega (arith, c.up.invariant.off.inside) in
    let was : c.index.result.now ≡ get_or c.up.nodes.items ((c.up.at - 1) / 16) 0 = c.index.ensures ∙ get_or_default c.up.nodes.items ((c.up.at - 1) / 16) c.index.result.now 0 inside in
    omega (arith, c.up.invariant.small ((c.up.at - 1) / 16) (omega arith), c.requires.new)

pub up-preserved : goal.up-preserved
up-preserved c =
    let inside : (c.up.at - 1) / 16 < length c.up.nodes.items = omega (arith, c.up.invariant.off.inside) in
    let was : c.index.result.now ≡ get_or c.up.nodes.items ((c.up.at - 1) / 16) 0 = c.index.ensures ∙ get_or_default c.up.nodes.items ((c.up.at - 1) / 16) c.index.result.now 0 inside in
    let before : (c.up.at - 1) / 16 < c.args.base = omega (arith, c.up.invariant.off.below) in
    let v : ℕ = c.index.result.now - c.args.old + c.args.new in
    let is : c.index.result.now - c.args.old + c.args.new ≡ get_or c.up.nodes.items ((c.up.at - 1) / 16) 0 - c.args.old + c.args.new = omega arith in
    record {
      off = off_up c.up.nodes.items c.args.base c.up.at c.args.old c.args.new ((c.up.at - 1) / 16) (c.index.result.now - c.args.old + c.args.new) c.up.invariant.off (omega arith) (omega arith) is;
      small = λ m less.
          let other : m ≢ (c.up.at - 1) / 16 = λ e. omega arith in
          omega (arith, get_or-set_other c.up.nodes.items ((c.up.at - 1) / 16) m (c.index.result.now - c.args.old + c.args.new) 0 other, c.up.invariant.small m (omega arith));
      length = length-set c.up.nodes.items ((c.up.at - 1) / 16) (c.index.result.now - c.args.old + c.args.new) ∙ c.up.invariant.length;
      leaves = λ n le. drop-set-lt n c.up.nodes.items ((c.up.at - 1) / 16) (c.index.result.now - c.args.old + c.args.new) (omega arith) ∙ c.up.invariant.leaves n le;
    }
