use Rattle.std.proofs.Common.{◌≡◌, ◌≤◌, ℕ, List, false, length, take, sym, ap, subst, ◌∙◌}
use Rattle.std.specs.List.{list_any}
use Rattle.std.specs.Prelude.{nat_eq}
use Rattle.spk_turn.specs.Reached.{with_place}
use Rattle.spk_turn.proofs.Adding.{pushed, place_there}
use Rattle.spk_turn.proofs.Marking.{marked_more}
use Rattle.spk_turn.proofs.gathered.Gathered.add.Goals as goal

pub returns-then-has : goal.returns-then-has
returns-then-has c = sym (place_there c.args.self.now c.args.place (sym c.has.ensures ∙ c.if-has.true))

pub bounds-self-inside-self-inside : goal.bounds-self-inside-self-inside
bounds-self-inside-self-inside c =
    let room : length (with_place (take c.self.inside.count c.self.inside.places) c.args.place) ≤ 729 = subst (λ (ps : List ℕ). length (with_place ps c.args.place) ≤ 729) (sym c.self.view_is) c.requires in
    let new : list_any (λ k. nat_eq k c.args.place) (take c.self.inside.count c.self.inside.places) ≡ false = ap (λ (ps : List ℕ). list_any (λ k. nat_eq k c.args.place) ps) c.self.view_is ∙ sym c.has.ensures ∙ c.if-has.false in
    (pushed c.self.inside.places c.self.inside.count c.args.place 729 c.self.told.0 c.self.invariant.few room new).0

pub invariant_of-self : goal.invariant_of-self
invariant_of-self c =
    let room : length (with_place (take c.self.inside.count c.self.inside.places) c.args.place) ≤ 729 = subst (λ (ps : List ℕ). length (with_place ps c.args.place) ≤ 729) (sym c.self.view_is) c.requires in
    let new : list_any (λ k. nat_eq k c.args.place) (take c.self.inside.count c.self.inside.places) ≡ false = ap (λ (ps : List ℕ). list_any (λ k. nat_eq k c.args.place) ps) c.self.view_is ∙ sym c.has.ensures ∙ c.if-has.false in
    let less = (pushed c.self.inside.places c.self.inside.count c.args.place 729 c.self.told.0 c.self.invariant.few room new).0 in
    marked_more c.self.inside.count c.args.place c.self.inside.places c.self.inside.marks c.self.told.0 c.self.told.1 less c.self.invariant

pub returns : goal.returns
returns c =
    let room : length (with_place (take c.self.inside.count c.self.inside.places) c.args.place) ≤ 729 = subst (λ (ps : List ℕ). length (with_place ps c.args.place) ≤ 729) (sym c.self.view_is) c.requires in
    let new : list_any (λ k. nat_eq k c.args.place) (take c.self.inside.count c.self.inside.places) ≡ false = ap (λ (ps : List ℕ). list_any (λ k. nat_eq k c.args.place) ps) c.self.view_is ∙ sym c.has.ensures ∙ c.if-has.false in
    (pushed c.self.inside.places c.self.inside.count c.args.place 729 c.self.told.0 c.self.invariant.few room new).1 ∙ ap (λ (ps : List ℕ). with_place ps c.args.place) c.self.view_is
