use Rattle.std.proofs.Common.{sym, ◌∙◌}
use Rattle.spk_lattice.proofs.Added.{unknown_holds}
use Rattle.spk_lattice.proofs.regions.Regions.holds.Goals as goal

pub returns-in_err-place : goal.returns-in_err-place
returns-in_err-place c = c.from_residual.ensures ∙ sym (unknown_holds c.args.self.now c.args.name.now c.args.point (sym c.in_err-place.ensures.place))
