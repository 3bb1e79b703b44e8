use Rattle.std.proofs.Common.{◌∙◌, arith, sym}
use Rattle.spk_solve.proofs.GroupStates.{totaled, chosen_from, named_members}
use Rattle.spk_solve.proofs.Keeps.{kept_below}
use Rattle.spk_solve.proofs.group.GroupSolver.choose.Goals as goal

pub below_two-target-requires-clause-small : goal.below_two-target-requires-clause-small
below_two-target-requires-clause-small g c = kept_below _ _ _ c.self.invariant.kept

pub named_bin-bin-requires-clause-target : goal.named_bin-bin-requires-clause-target
named_bin-bin-requires-clause-target g c =
    let known = totaled _ _ _ _ _ _ c.args.self.now c.deref.result.now c.self.invariant c.self.view_is c.deref.ensures.value in
    omega (arith, known.all, known.total_is, c.below_two-target.ensures.below)

pub named_bin-bin-requires-clause-small : goal.named_bin-bin-requires-clause-small
named_bin-bin-requires-clause-small g c =
    let known = totaled _ _ _ _ _ _ c.args.self.now c.deref.result.now c.self.invariant c.self.view_is c.deref.ensures.value in
    omega (arith, known.all, known.total_is, kept_below _ _ _ c.self.invariant.kept)

pub choose_in-requires-clause-some : goal.choose_in-requires-clause-some
choose_in-requires-clause-some g c =
    let known = totaled _ _ _ _ _ _ c.args.self.now c.deref.result.now c.self.invariant c.self.view_is c.deref.ensures.value in
    named_members c.args.self.now.list c.below_two-target.result c.named_bin-bin.result (sym (known.same c.below_two-target.result) ∙ c.named_bin-bin.ensures.named)

pub returns-clause-chosen : goal.returns-clause-chosen
returns-clause-chosen g c =
    let known = totaled _ _ _ _ _ _ c.args.self.now c.deref.result.now c.self.invariant c.self.view_is c.deref.ensures.value in
    chosen_from c.args.self.now.list c.args.stream.now c.self.inside.total c.below_two-target.result c.below_two-target.new.self c.named_bin-bin.result _
    known.total_is c.below_two-target.ensures.number c.below_two-target.ensures.state
    (sym (known.same c.below_two-target.result) ∙ c.named_bin-bin.ensures.named) c.choose_in.ensures.choice
