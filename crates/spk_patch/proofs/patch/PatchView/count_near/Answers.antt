use Rattle.std.proofs.Common.{◌≡◌, ◌+◌, ◌-◌, ◌<◌, ◌≤◌, length, ap, sym, subst, ◌∙◌, get_or, arith, refl}
use Rattle.std.proofs.lemmas.List.{take_all}
use Rattle.std.specs.Prelude.{◌==◌, ◌&&◌, not, count_by, slice_index}
use Rattle.spk_lattice.specs.Neighbours.{nb}
use Rattle.spk_patch.specs.Patches.{PatchSites, near_of}
use Rattle.spk_patch.proofs.NearValues.{counts_by_id, counted_other, counted_not, count_more, count_all, one_at_most}
use Rattle.spk_patch.proofs.patch.PatchView.count_near.Goals as goal
use Rattle.spk_patch.proofs.patch.PatchView.count_near.Goals.{then-place-but, else-place-but}

pub near-preserved : goal.near-preserved
near-preserved c =
    let less : c.near.k < length (nb c.self.inside.lattice (c.args.i + 1)) = omega (arith, c.near-test.true, c.degree-k-end.ensures.degree, c.site-site.ensures.degree) in
    let id = c.neighbour.ensures.id ∙ ap (λ n. get_or (nb c.self.inside.lattice n) c.near.k 0) c.site-site.ensures.id in
    let counts : counts_by_id c.self.inside.values c.args.value c.args.but c.neighbour.result ≡ c.if-place-but.from =
    elim c.if-place-but.branch [
      | then-place-but w ↦ counted_other (c.neighbour.result - 1) c.args.but _ w.if-place-but.true ∙ ap (λ v. v == c.args.value) (sym c.get.ensures) ∙ sym w.from-is
      | else-place-but w ↦ counted_not (c.neighbour.result - 1) c.args.but _ w.if-place-but.false ∙ sym w.from-is
    ] in
    let more = count_more (counts_by_id c.self.inside.values c.args.value c.args.but) (nb c.self.inside.lattice (c.args.i + 1)) c.near.k c.neighbour.result c.near.count c.if-place-but.from less id counts c.near.invariant.so_far in
    record {
      so_far = ap (λ n. c.near.count + n) c.from.ensures ∙ more;
      few = omega (arith, c.near.invariant.few, c.from.ensures, one_at_most c.if-place-but.from);
    }

pub returns-clause-count : goal.returns-clause-count
returns-clause-count c =
    let ids = nb c.self.inside.lattice (c.args.i + 1) in
    let all : length ids ≤ c.near.k = omega (arith, c.near-test.false, c.degree-k-end.ensures.degree, c.site-site.ensures.degree) in
    subst (λ (p : PatchSites). c.near.count ≡ count_by (λ j. not (j == c.args.but) && (slice_index p.values j == c.args.value)) (near_of p c.args.i)) c.self.view_is
    (c.near.invariant.so_far ∙ ap (count_by (counts_by_id c.self.inside.values c.args.value c.args.but)) (take_all c.near.k ids all) ∙ count_all (record { lattice = c.self.inside.lattice; own = c.self.inside.own; halo = c.self.inside.halo; wrapped = c.self.inside.wrapped; values = c.self.inside.values }) c.args.i c.args.value c.args.but ids c.self.invariant.1 refl)
