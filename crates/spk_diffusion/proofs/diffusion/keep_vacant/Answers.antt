use Rattle.std.proofs.Common.{◌≡◌, ◌<◌, ◌==◌, length, subst, sym, ap, ◌∙◌, get_or, arith, refl}
use Rattle.std.proofs.lemmas.List.{get_or-take, length-take}
use Rattle.spk_lattice.specs.Neighbours.{ids_of}
use Rattle.spk_app.proofs.Dropping.{stands, kept_more, one_or_none}
use Rattle.spk_diffusion.proofs.Summing.{vacant_at}
use Rattle.spk_diffusion.proofs.diffusion.keep_vacant.Goals as goal

pub value-requires : goal.value-requires
value-requires g c =
    let start = c.args.near.now.ids in
    let there : get_or c.places.near.ids c.places.k 0 ≡ get_or (ids_of c.args.near.now) c.places.k 0 = stands _ _ c.places.k start c.places.near.ids c.places.invariant.kept ∙ sym (get_or-take c.args.near.now.count start c.places.k 0 c.places-test.true) in
    subst (λ place. place < length (g.V.View.sight c.args.view.now).values) (sym there)
    (c.requires.inside c.places.k 0 (omega (arith, c.places-test.true, c.requires.few, c.places.invariant.all, length-take c.args.near.now.count start)))

pub places-preserved : goal.places-preserved
places-preserved g c = record {
  kept = kept_more (vacant_at (g.V.View.sight c.args.view.now)) c.places.kept c.places.k _ c.args.near.now.ids c.places.near.ids _ c.from-kept.result (omega (arith, c.places-test.true, c.requires.few, c.places.invariant.all)) c.places.invariant.all refl c.places.invariant.kept (ap (λ v. v == 1) (sym c.value.ensures)) (c.from-kept.ensures ∙ one_or_none _);
  count = c.places.invariant.count;
  all = c.places.invariant.all;
}
