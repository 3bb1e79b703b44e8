use Rattle.spk_lattice.proofs.Stored.{place_is, name_found}
use Rattle.spk_lattice.proofs.regions.Regions.find.Goals as goal

pub returns-clause-place : goal.returns-clause-place
returns-clause-place c =
    place_is c.self.inside.regions.items c.deref.result.now c.args.self.now c.args.name.now c.place_named.result c.self.view_is c.deref.ensures.value c.place_named.ensures

pub returns-clause-named : goal.returns-clause-named
returns-clause-named c = name_found c.args.self.now c.args.name.now c.place_named.result (returns-clause-place c)
