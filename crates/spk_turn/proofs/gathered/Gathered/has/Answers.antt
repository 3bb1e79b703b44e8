use Rattle.std.proofs.Common.{ℕ, ◌%◌, List, sym, ap, ◌∙◌, arith}
use Rattle.std.proofs.lemmas.Bool.{eq-eqb, ne_eqb}
use Rattle.std.specs.List.{list_any}
use Rattle.std.specs.Prelude.{nat_eq}
use Rattle.spk_turn.proofs.Marking.{absent, present}
use Rattle.spk_turn.proofs.gathered.Gathered.has.Goals as goal

pub returns-then-mark-self : goal.returns-then-mark-self
returns-then-mark-self c =
    let none = absent c.self.inside.count c.args.place c.self.inside.places c.self.inside.marks c.self.invariant (λ mark. omega (arith, mark.counts, c.if-mark-self.true)) in
    sym none ∙ ap (λ (ps : List ℕ). list_any (λ k. nat_eq k c.args.place) ps) c.self.view_is

pub returns-then-other-place : goal.returns-then-other-place
returns-then-other-place c =
    let there = present c.self.inside.count c.args.place _ c.self.inside.places (omega (arith, c.self.invariant.few, c.self.told)) (omega (arith, c.if-mark-self.false)) c.if-other-place.true in
    eq-eqb _ c.args.place c.if-other-place.true ∙ sym there ∙ ap (λ (ps : List ℕ). list_any (λ k. nat_eq k c.args.place) ps) c.self.view_is

pub returns-else-other-place-2 : goal.returns-else-other-place-2
returns-else-other-place-2 c =
    let none = absent c.self.inside.count c.args.place c.self.inside.places c.self.inside.marks c.self.invariant (λ mark. c.if-other-place-2.false mark.same) in
    ne_eqb _ (c.args.place % 1021) c.if-other-place-2.false ∙ sym none ∙ ap (λ (ps : List ℕ). list_any (λ k. nat_eq k c.args.place) ps) c.self.view_is
