-- Effects one after another: the grouping doesn't matter, and an effect that does nothing but answer may be left out.
use Rattle.std.proofs.Common.{◌≡◌, ℕ, ◌+◌, List, [], ◌∷◌, ◌++◌, length, refl, ap, sym, ◌∙◌, append_assoc, add_assoc, zero-add, length-append}
use Rattle.std.proofs.Math.Path.{fun_ext}
use Rattle.std.proofs.lemmas.List.{append-nil, map-append}
use Rattle.spk_world.specs.Outside.{Event, after}
use Rattle.spk_world.specs.Effects.{Outcome, Effect, later_loads, outcome_then, ◌>>=◌, answers}
use Rattle.spk_world.proofs.Events.{after-append}

-- an outcome by its parts
outcome-parts : {A : Type 0} (e f : List Event) (l m : List (ℕ × List ℕ)) (a : A) → e ≡ f → l ≡ m →
    let left : Outcome A = record { events = e; loads = l; answer = a } in let right : Outcome A = record { events = f; loads = m; answer = a } in left ≡ right
outcome-parts e f l m a es ls = ap (λ x. record { events = x; loads = l; answer = a }) es ∙ ap (λ y. record { events = f; loads = y; answer = a }) ls

-- after no events a load stands as before
load-zero : (load : ℕ × List ℕ) → let moved : ℕ × List ℕ = (0 + load.0, load.1) in moved ≡ load
load-zero load = ap (λ n. (n, load.1)) (zero-add load.0)

later_loads-zero : (loads : List (ℕ × List ℕ)) → later_loads 0 loads ≡ loads
later_loads-zero [] = refl
later_loads-zero (load ∷ loads) = ap (λ l. l ∷ later_loads 0 loads) (load-zero load) ∙ ap (λ ls. load ∷ ls) (later_loads-zero loads)

-- after some events, and those after some more
later_loads-later : (m n : ℕ) (loads : List (ℕ × List ℕ)) → later_loads m (later_loads n loads) ≡ later_loads (m + n) loads
later_loads-later m n [] = refl
later_loads-later m n (load ∷ loads) =
    ap (λ k. (k, load.1) ∷ later_loads m (later_loads n loads)) (sym (add_assoc m n load.0)) ∙ ap (λ ls. (m + n + load.0, load.1) ∷ ls) (later_loads-later m n loads)

outcome_then-assoc : {A B C : Type 0} (first : Outcome A) (second : Outcome B) (third : Outcome C) →
    outcome_then (outcome_then first second) third ≡ outcome_then first (outcome_then second third)
outcome_then-assoc first second third =
    let m = length first.events in
    let n = length second.events in
    let far : later_loads (length (first.events ++ second.events)) third.loads ≡ later_loads m (later_loads n third.loads) =
    ap (λ k. later_loads k third.loads) (length-append first.events second.events) ∙ sym (later_loads-later m n third.loads) in
    let near : later_loads m second.loads ++ later_loads m (later_loads n third.loads) ≡ later_loads m (second.loads ++ later_loads n third.loads) =
    sym (map-append _ second.loads (later_loads n third.loads)) in
    outcome-parts _ _ _ _ third.answer (append_assoc first.events second.events third.events)
    (append_assoc first.loads (later_loads m second.loads) _ ∙ ap (λ ls. first.loads ++ ls) (ap (λ ls. later_loads m second.loads ++ ls) far ∙ near))

-- of three effects, the first two or the last two may be taken as one
pub then_assoc : {A B C : Type 0} (effect : Effect A) (next : A → Effect B) (last : B → Effect C) →
    ((effect >>= next) >>= last) ≡ (effect >>= λ a. next a >>= last)
unfolding ◌>>=◌
then_assoc effect next last = fun_ext (λ outside.
    let first = effect outside in
    let second = next first.answer (after outside first.events) in
    ap (λ o. outcome_then (outcome_then first second) (last second.answer o)) (after-append outside first.events second.events)
    ∙ outcome_then-assoc first second (last second.answer (after (after outside first.events) second.events)))

-- an answer before an effect
pub answers_then : {A B : Type 0} (a : A) (next : A → Effect B) → (answers a >>= next) ≡ next a
unfolding ◌>>=◌ answers after
answers_then a next = fun_ext (λ outside. outcome-parts _ _ _ _ (next a outside).answer refl (later_loads-zero (next a outside).loads))

-- an answer after an effect
pub then_answers : {A : Type 0} (effect : Effect A) → (effect >>= answers) ≡ effect
unfolding ◌>>=◌ answers
then_answers effect = fun_ext (λ outside.
    outcome-parts _ _ _ _ (effect outside).answer (append-nil (effect outside).events) (append-nil (effect outside).loads))
