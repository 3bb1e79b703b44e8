use Rattle.std.proofs.Common.{◌∙◌}
use Rattle.spk_lattice.specs.declared.regions.region.NamedShape.{NamedShape}
use Rattle.spk_lattice.specs.declared.regions.region.Region.{Region}
use Rattle.spk_lattice.specs.Regions.{named_shapes}
use Rattle.spk_lattice.proofs.Added.{is_refused, is_out_of_memory, is_added, keeps, shown_more}
use Rattle.spk_lattice.proofs.regions.Regions.add.Goals as goal

pub returns-in_err-places-clause-plain : goal.returns-in_err-places-clause-plain
returns-in_err-places-clause-plain c =
    is_refused c.args.self.now c.args.self.now c.args.name.now c.args.shape.now _ _ c.in_err-places.ensures.fault c.from_residual.ensures.1

pub returns-in_err-name-clause-plain : goal.returns-in_err-name-clause-plain
returns-in_err-name-clause-plain c = is_out_of_memory _ _ _ c.from_residual-in_err-name.ensures.1

pub returns-in_err-shape-clause-plain : goal.returns-in_err-shape-clause-plain
returns-in_err-shape-clause-plain c = is_out_of_memory _ _ _ c.from_residual-in_err-shape.ensures.1

pub returns-in_err-push-clause-plain : goal.returns-in_err-push-clause-plain
returns-in_err-push-clause-plain c = is_out_of_memory _ _ _ c.from_residual-in_err-push.ensures.1

pub invariant_of-self-2 : goal.invariant_of-self-2
invariant_of-self-2 c =
    let named : NamedShape = record { name = c.in_ok-name.name; shape = c.in_ok-shape.shape } in
    let region : Region = record { named = named; places = c.in_ok-places.places } in
    rw c.in_ok-push.ensures.items
    (keeps c.self.inside.regions.items c.args.self.now c.args.name.now c.args.shape.now region c.self.invariant c.self.view_is (c.in_ok-name.ensures ∙ c.as_str.ensures) c.in_ok-shape.ensures
    c.in_ok-places.ensures.known c.in_ok-places.ensures.places c.requires)

pub returns-clause-plain : goal.returns-clause-plain
returns-clause-plain c =
    let named : NamedShape = record { name = c.in_ok-name.name; shape = c.in_ok-shape.shape } in
    let region : Region = record { named = named; places = c.in_ok-places.places } in
    is_added c.args.self.now (named_shapes c.push.new.self.items) c.args.name.now c.args.shape.now c.in_ok-places.ensures.known
    (shown_more c.self.inside.regions.items c.push.new.self.items c.args.self.now c.args.name.now c.args.shape.now region c.self.view_is (c.in_ok-name.ensures ∙ c.as_str.ensures) c.in_ok-shape.ensures
    c.in_ok-push.ensures.items)
