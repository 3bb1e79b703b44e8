use Rattle.std.proofs.Common.{refl, sym, ◌∙◌}
use Rattle.spk_run.specs.Commands.Set.{is_in}
use Rattle.spk_run.proofs.DrawnValues.{site_set, site_kept}
use Rattle.spk_run.proofs.values.Values.set_one.Goals as goal

pub returns-then-holds-clause-step : goal.returns-then-holds-clause-step
returns-then-holds-clause-step c = λ name whole is so_far.
    rw c.set.ensures (site_set c.args.asked.value c.args.asked.fraction (is_in c.args.regions.now c.args.lattice.now name) c.args.self.now whole c.args.place _ _ c.args.stream.now _
    c.requires.within refl (sym (c.holds.ensures name is) ∙ c.if-holds.true) (rw c.get.ensures at c.value_for-value.ensures.value) (rw c.get.ensures at c.value_for-value.ensures.stream) so_far)

pub returns-else-holds-clause-step : goal.returns-else-holds-clause-step
returns-else-holds-clause-step c = λ name whole is so_far.
    site_kept c.args.asked.value c.args.asked.fraction (is_in c.args.regions.now c.args.lattice.now name) c.args.self.now whole c.args.place _ c.args.stream.now
    c.requires.within refl (sym (c.holds.ensures name is) ∙ c.if-holds.false) so_far
