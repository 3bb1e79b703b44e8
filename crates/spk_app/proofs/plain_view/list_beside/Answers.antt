use Rattle.std.proofs.Common.{◌≡◌, ◌+◌, ◌∙◌, sym, ap, get_or, arith}
use Rattle.spk_lattice.specs.Neighbours.{IsId, nb}
use Rattle.spk_lattice.proofs.Ways.{all_exist, near_degree}
use Rattle.spk_app.proofs.Places.{places_more, places_all, places_inside}
use Rattle.spk_app.proofs.plain_view.list_beside.Goals as goal

pub near-preserved : goal.near-preserved
near-preserved c =
    let id : IsId c.args.lattice.now (c.args.place + 1) = record { some = omega arith; exists = omega (arith, c.requires) } in
    let degree = near_degree c.args.lattice.now (c.args.place + 1) c.known.ensures id in
    record {
      so_far = places_more c.args.lattice.now c.args.place c.near.k c.neighbour.result c.near.near.ids (c.neighbour.ensures.id ∙ ap (λ n. get_or (nb c.args.lattice.now n) c.near.k 0) c.site-site.ensures.id) (omega (arith, degree, c.near-test.true, c.degree-count.ensures.degree)) (omega (arith, degree, c.degree-count.ensures.degree, c.degree-count.ensures.few)) c.near.invariant.so_far;
      count = c.near.invariant.count;
    }

pub returns-clause-places : goal.returns-clause-places
returns-clause-places c =
    let id : IsId c.args.lattice.now (c.args.place + 1) = record { some = omega arith; exists = omega (arith, c.requires) } in
    let degree = near_degree c.args.lattice.now (c.args.place + 1) c.known.ensures id in
    let last : c.near.k ≡ c.degree-count.result = omega (arith, c.near-test.false, c.near.auto.k-end) in
    places_all c.args.lattice.now c.args.place c.near.k c.near.near.count c.near.near.ids (c.near.invariant.count ∙ sym last) (last ∙ c.degree-count.ensures.degree ∙ sym degree) c.near.invariant.so_far

pub returns-clause-inside : goal.returns-clause-inside
returns-clause-inside c =
    let id : IsId c.args.lattice.now (c.args.place + 1) = record { some = omega arith; exists = omega (arith, c.requires) } in
    places_inside c.args.lattice.now c.args.place (all_exist c.args.lattice.now (c.args.place + 1) c.known.ensures id)
