use Rattle.std.proofs.Common.{arith, ◌∙◌, sym}
use Rattle.std.proofs.lemmas.Int.{ints}
use Rattle.spk_lattice.proofs.Reaching.{spot_exists, step_good, moved_exists, moved_id, difference_is}
use Rattle.spk_lattice.proofs.reach.reached.Goals as goal

pub add-requires-clause-low : goal.add-requires-clause-low
add-requires-clause-low c =
    let is = difference_is c.args.grid.now c.args.site.now.id c.args.site.now.spot c.args.step.now c.requires.lattice c.requires.id c.requires.spot c.requires.leads c.requires.step (sym c.requires.inner ∙ c.if-site.true) in
    omega (arith, ints, is)

pub add-requires-clause-high : goal.add-requires-clause-high
add-requires-clause-high c =
    let is = difference_is c.args.grid.now c.args.site.now.id c.args.site.now.spot c.args.step.now c.requires.lattice c.requires.id c.requires.spot c.requires.leads c.requires.step (sym c.requires.inner ∙ c.if-site.true) in
    let most = moved_id c.args.grid.now c.args.site.now.id c.args.site.now.spot c.args.step.now.offset c.requires.lattice c.requires.id c.requires.spot c.requires.leads in
    omega (arith, ints, is, most)

pub moved-requires-clause-spot : goal.moved-requires-clause-spot
moved-requires-clause-spot c = spot_exists _ c.args.site.now.id _ c.requires.lattice c.requires.id c.requires.spot

pub moved-requires-clause-dx : goal.moved-requires-clause-dx
moved-requires-clause-dx c = (step_good _ c.args.site.now.id _ _ c.requires.lattice c.requires.id c.requires.spot c.requires.leads).dx_less

pub moved-requires-clause-dy : goal.moved-requires-clause-dy
moved-requires-clause-dy c = (step_good _ c.args.site.now.id _ _ c.requires.lattice c.requires.id c.requires.spot c.requires.leads).dy_less

pub moved-requires-clause-dz : goal.moved-requires-clause-dz
moved-requires-clause-dz c = (step_good _ c.args.site.now.id _ _ c.requires.lattice c.requires.id c.requires.spot c.requires.leads).dz_less

pub id_of-requires : goal.id_of-requires
id_of-requires c = rw c.moved.ensures (moved_exists _ c.args.site.now.id _ _ c.requires.lattice c.requires.id c.requires.spot c.requires.leads)

pub returns-then-site : goal.returns-then-site
returns-then-site c =
    let is = difference_is c.args.grid.now c.args.site.now.id c.args.site.now.spot c.args.step.now c.requires.lattice c.requires.id c.requires.spot c.requires.leads c.requires.step (sym c.requires.inner ∙ c.if-site.true) in
    omega (arith, ints, is, c.add.ensures)
