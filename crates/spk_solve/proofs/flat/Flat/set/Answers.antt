use Rattle.std.proofs.Common.{arith, ◌<◌, ◌≡◌, ◌∙◌, get_or, length}
use Rattle.std.proofs.lemmas.List.{get_or_default}
use Rattle.std.proofs.Math.Seq.{take-set-lt}
use Rattle.spk_solve.proofs.Keeps.{kept_set, kept_below, kept_within}
use Rattle.spk_solve.proofs.flat.Flat.set.Goals as goal

pub overflow_add-self : goal.overflow_add-self
overflow_add-self c =
    let fits = kept_below _ _ _ c.self.invariant in
    omega (arith, fits)

pub returns-clause-list : goal.returns-clause-list
returns-clause-list c =
    let less : c.args.place < c.self.inside.used = kept_within c.self.inside.weights.items c.self.inside.used c.self.inside.total c.args.place c.self.invariant (rw (← c.self.view_is) at c.requires.place) in
    rw (← c.self.view_is) (take-set-lt c.self.inside.used c.self.inside.weights.items c.args.place c.args.weight less)

pub invariant_of-self : goal.invariant_of-self
invariant_of-self c =
    let less : c.args.place < c.self.inside.used = kept_within c.self.inside.weights.items c.self.inside.used c.self.inside.total c.args.place c.self.invariant (rw (← c.self.view_is) at c.requires.place) in
    let within : c.args.place < length c.self.inside.weights.items = omega (arith, c.self.invariant.within) in
    let was : c.index.result.now ≡ get_or c.self.inside.weights.items c.args.place 0 =
    c.index.ensures ∙ get_or_default c.self.inside.weights.items c.args.place c.index.result.now 0 within in
    kept_set _ _ _ _ _ _ c.self.invariant less c.requires.small was
