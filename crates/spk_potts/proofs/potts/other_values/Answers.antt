use Rattle.std.proofs.Common.{◌≡◌, ℕ, ◌+◌, List, true, false, get_or, subst, sym, ap, ◌∙◌}
use Rattle.spk_potts.proofs.Values.{FirstOthers, is_in, seen_own, seen_other, seen_first, all_seen}
use Rattle.spk_potts.proofs.potts.other_values.Goals as goal
use Rattle.spk_potts.proofs.potts.other_values.Goals.{then-value-own+then-not-contains, else-value-own, else-value-own-via-then-value-own+else-not-contains, else-value-own-via-else-value-own}

pub near-preserved : goal.near-preserved
near-preserved c =
    let k : ℕ = c.near.value-index in
    let near : List ℕ = c.args.near.now in
    let v : ℕ = get_or near k 0 in
    let others : List ℕ = c.near.others in
    let Next : List ℕ → Type 0 = FirstOthers c.args.own near (k + 1) in
    elim c.if-value-own.branch [
      | then-value-own+then-not-contains w ↦
          let new : is_in others v ≡ false = ap (λ (xs : List ℕ). is_in xs v) (sym w.as_slice.ensures.values) ∙ sym w.contains.ensures.value ∙ w.if-not-contains.true in
          subst Next (sym (w.others-is ∙ w.push.ensures)) (seen_first c.args.own k near others c.near-test.true w.if-value-own.true new c.near.invariant)
      | else-value-own w ↦ elim w.else-value-own.branch [
        | else-value-own-via-then-value-own+else-not-contains w' ↦
            let old : is_in others v ≡ true = ap (λ (xs : List ℕ). is_in xs v) (sym w'.as_slice.ensures.values) ∙ sym w'.contains.ensures.value ∙ w'.if-not-contains.false in
            subst Next (sym w.others-is) (seen_other c.args.own k near others c.near-test.true old c.near.invariant)
        | else-value-own-via-else-value-own w' ↦ subst Next (sym w.others-is) (seen_own c.args.own k near others c.near-test.true w'.if-value-own.false c.near.invariant)
      ]
    ]

pub returns : goal.returns
returns c = all_seen c.args.own c.near.value-index c.args.near.now c.near.others c.near-test.false c.near.invariant
