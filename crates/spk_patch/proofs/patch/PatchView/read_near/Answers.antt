use Rattle.std.proofs.Common.{◌≡◌, ◌<◌, ◌≤◌, ◌+◌, ◌-◌, length, length-set, map, take, sym, ap, subst, ◌∙◌, get_or, arith, refl}
use Rattle.std.proofs.lemmas.List.{take_all, take_more_set, get_or_default}
use Rattle.std.specs.Prelude.{slice_index}
use Rattle.spk_lattice.specs.Neighbours.{nb}
use Rattle.spk_app.specs.Sights.{values_near}
use Rattle.spk_patch.specs.Patches.{PatchSites, sight_of}
use Rattle.spk_lattice.specs.Layout.{sites_of}
use Rattle.spk_patch.proofs.Whole.{whole, values_are}
use Rattle.spk_patch.proofs.NearValues.{values_by_ids, values_more}
use Rattle.spk_patch.proofs.patch.PatchView.read_near.Goals as goal

pub near-preserved : goal.near-preserved
near-preserved c =
    let less : c.near.k < length (nb c.self.inside.lattice (c.args.i + 1)) = omega (arith, c.near-test.true, c.degree-degree.ensures.degree, c.site-site.ensures.degree) in
    let id = c.neighbour-id.ensures.id ∙ ap (λ n. get_or (nb c.self.inside.lattice n) c.near.k 0) c.site-site.ensures.id in
    let all : length c.self.inside.values ≡ sites_of c.self.inside.lattice = values_are _ c.self.invariant.0 (whole _ c.self.invariant.0 c.self.invariant.1) in
    let inside : c.neighbour-id.result - 1 < length c.self.inside.values = omega (arith, all, c.neighbour-id.ensures.exists.some, c.neighbour-id.ensures.exists.exists) in
    record {
      all = ap length c.set.ensures ∙ length-set c.near.near c.near.k c.get.result ∙ c.near.invariant.all;
      read = ap (take (c.near.k + 1)) c.set.ensures ∙ take_more_set c.near.near c.near.k c.get.result (omega (arith, c.near-test.true, c.near.invariant.all))
          ∙ values_more c.self.inside.values (nb c.self.inside.lattice (c.args.i + 1)) (take c.near.k c.near.near) c.near.k c.neighbour-id.result c.get.result less id (c.get.ensures ∙ sym (get_or_default c.self.inside.values (c.neighbour-id.result - 1) c.get.result 0 inside)) inside c.near.invariant.read;
    }

pub returns : goal.returns
returns c =
    let ids = nb c.self.inside.lattice (c.args.i + 1) in
    let all : length ids ≤ c.near.k = omega (arith, c.near-test.false, c.degree-degree.ensures.degree, c.site-site.ensures.degree) in
    let read : take c.near.k c.near.near ≡ c.near.near = take_all c.near.k c.near.near (omega (arith, c.near-test.false, c.near.invariant.all)) in
    subst (λ (p : PatchSites). c.near.near ≡ values_near (sight_of p) c.args.i) c.self.view_is
    (sym read ∙ c.near.invariant.read ∙ ap (map (λ id. slice_index c.self.inside.values (id - 1))) (take_all c.near.k ids all) ∙ values_by_ids (record { lattice = c.self.inside.lattice; own = c.self.inside.own; halo = c.self.inside.halo; wrapped = c.self.inside.wrapped; values = c.self.inside.values }) c.args.i ids c.self.invariant.1 refl)
