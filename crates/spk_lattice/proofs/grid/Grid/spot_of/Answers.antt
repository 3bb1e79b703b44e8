use Rattle.std.proofs.Common.{rules, sym, subst}
use Rattle.spk_lattice.specs.Layout.{Layout, IsLattice}
use Rattle.spk_lattice.specs.Neighbours.{IsSpot, spot_of}
use Rattle.spk_lattice.specs.declared.grid.Spot.{Spot}
use Rattle.spk_lattice.proofs.Spots.{sized, spot_is}
use Rattle.spk_lattice.proofs.grid.Grid.spot_of.Goals as goal

pub returns-clause-exists : goal.returns-clause-exists
returns-clause-exists c =
    let on : IsLattice c.args.self.now = subst (λ (l : Layout). IsLattice l) c.self.view_is c.self.invariant.0 in
    let spot : IsSpot c.args.self.now (spot_of c.args.self.now c.args.id) = spot_is c.args.self.now c.args.id (sized c.args.self.now on) c.requires in
    subst (λ (s : Spot). IsSpot c.args.self.now s) (sym (search rules)) spot
