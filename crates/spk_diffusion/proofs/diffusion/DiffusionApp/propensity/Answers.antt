use Rattle.std.proofs.Common.{◌≡◌, ◌<◌, ◌*◌, ℕ, List, All, IsTrue, length, subst, sym, ap, ◌∙◌}
use Rattle.std.proofs.lemmas.List.Elements.{All-filter}
use Rattle.std.specs.Prelude.{filter, sum_by}
use Rattle.spk_lattice.specs.Neighbours.{ids_of}
use Rattle.spk_app.specs.Sights.{Sight}
use Rattle.spk_app.specs.Weights.{weight_between}
use Rattle.spk_diffusion.specs.Diffusion.{DiffusionSettings, crowd, crowd_but}
use Rattle.spk_diffusion.proofs.Summing.{vacant_at, vacant_sum, linear_sum, free_sum}
use Rattle.spk_diffusion.proofs.diffusion.DiffusionApp.propensity.Goals as goal

pub returns-then-value-ne-OCCUPIED-clause-sum : goal.returns-then-value-ne-OCCUPIED-clause-sum
returns-then-value-ne-OCCUPIED-clause-sum g c = vacant_sum c.args.self.now (g.V.View.sight c.args.view.now) c.args.i (λ occupied. c.if-value-ne-OCCUPIED.true (c.value-value.ensures ∙ occupied))

pub weighed_sum-requires-clause-inside : goal.weighed_sum-requires-clause-inside
weighed_sum-requires-clause-inside g c =
    let s : Sight = g.V.View.sight c.args.view.now in
    let are = c.keep_vacant.ensures.ids ∙ ap (filter (vacant_at s)) c.list_near.ensures.ids in
    subst (All (λ j. j < length s.values)) (sym are) (All-filter (vacant_at s) (λ j. j < length s.values) (s.near c.args.i) c.list_near.ensures.inside)

pub weighed_sum-requires-clause-whole : goal.weighed_sum-requires-clause-whole
weighed_sum-requires-clause-whole g c =
    let s : Sight = g.V.View.sight c.args.view.now in
    let are = c.keep_vacant.ensures.ids ∙ ap (filter (vacant_at s)) c.list_near.ensures.ids in
    subst (All (λ j. IsTrue (g.V.View.whole c.args.view.now j))) (sym are) (All-filter (vacant_at s) (λ j. IsTrue (g.V.View.whole c.args.view.now j)) (s.near c.args.i) c.requires.seen.1)

pub returns-then-self-clause-sum : goal.returns-then-self-clause-sum
returns-then-self-clause-sum g c =
    let s : Sight = g.V.View.sight c.args.view.now in
    let are = c.keep_vacant.ensures.ids ∙ ap (filter (vacant_at s)) c.list_near.ensures.ids in
    let met : c.count_among-crowd.result ≡ crowd s c.args.i = rw (← c.list_near.ensures.ids) c.count_among-crowd.ensures.count in
    linear_sum c.args.self.now s c.args.i c.count_among-crowd.result c.weighed_sum.result (ids_of c.keep_vacant.new.near)
    (sym (ap (λ (d : DiffusionSettings). d.linear) c.self.view_is) ∙ c.if-self.true)
    (sym c.value-value.ensures ∙ c.if-value-ne-OCCUPIED.false) are met
    (subst (λ (d : DiffusionSettings). c.weighed_sum.result ≡ sum_by (λ j. weight_between d.temperature (crowd_but s c.args.i j) c.count_among-crowd.result) (ids_of c.keep_vacant.new.near)) c.self.view_is c.weighed_sum.ensures.sum)

pub returns-else-self-clause-sum : goal.returns-else-self-clause-sum
returns-else-self-clause-sum g c =
    let s : Sight = g.V.View.sight c.args.view.now in
    let are = c.keep_vacant.ensures.ids ∙ ap (filter (vacant_at s)) c.list_near.ensures.ids in
    free_sum c.args.self.now s c.args.i _ (ids_of c.keep_vacant.new.near)
    (sym (ap (λ (d : DiffusionSettings). d.linear) c.self.view_is) ∙ c.if-self.false)
    (sym c.value-value.ensures ∙ c.if-value-ne-OCCUPIED.false) are
    (ap (λ (ks : List ℕ). length ks * c.from.result) c.as_slice.ensures.ids ∙ ap (λ n. length (ids_of c.keep_vacant.new.near) * n) c.from.ensures)
