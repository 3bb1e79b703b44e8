-- A place and a rest name the same event as the list of all events does.
use Rattle.std.proofs.Common.{subst, ◌≡◌, ℕ, zero, suc, ◌+◌, ◌<◌, List, [], ◌∷◌, map, length, get_or, take, sum, refl, sym, ap, ◌∙◌, inl, inr, arith}
use Rattle.std.proofs.lemmas.List.{length-map}
use Rattle.std.proofs.lemmas.List.Sums.{sum_by-cons}
use Rattle.std.specs.Prelude.{sum_by, Option, None, Some, flat_map, option_map}
use Rattle.spk_app.specs.Sights.{Sight, written}
use Rattle.spk_app.specs.Applications.{Application, Event, propensity}
use Rattle.spk_solve.specs.declared.solver.Chosen.{Chosen}
use Rattle.spk_solve.specs.Choice.{Rule, RunningSum, Bins, Chooses, named_from, named, IsNamed, target_of, bin_choice}
use Rattle.spk_sched.specs.Turns.{SiteEvent, at_site, weight_of, all_events, propensities, after_event_of, event_by}
use Rattle.spk_turn.specs.Ready.{sector_on, propensities_in}
use Rattle.spk_turn.proofs.Anew.{propensities_are}
use Rattle.spk_solve.proofs.Names.{here, passed, here_or_passed}
use Rattle.spk_turn.proofs.Names.{named_first, named_after, named_shift}

abbrev weight : Event → ℕ
weight e = e.weight

-- two levels, and one
levels : {E : Type 0} (weight : E → ℕ) (f : ℕ → List E) (sites : List ℕ) (place target rest : ℕ)
    → place < length sites
    → sum (take place (map (λ i. sum_by weight (f i)) sites)) + rest ≡ target
    → rest < sum_by weight (f (get_or sites place 0))
    → named_from weight 0 target (flat_map f sites) ≡ named_from weight 0 rest (f (get_or sites place 0))
levels weight f [] place target rest less split left = absurd (omega arith)
levels weight f (i ∷ sites) zero target rest less split left =
    let same : target ≡ rest = omega arith in
    rw same (named_first weight 0 rest (f i) (flat_map f sites) (omega arith) (omega arith))
levels weight f (i ∷ sites) (suc place) target rest less split left =
    let first : ℕ = sum_by weight (f i) in
    let before : List ℕ = take place (map (λ i. sum_by weight (f i)) sites) in
    let cons : sum (first ∷ before) ≡ first + sum before = sum_by-cons (λ w. w) first before in
    let target_is : target ≡ first + (sum before + rest) = omega arith in
    named_after weight 0 target (f i) (flat_map f sites) (omega arith)
    ∙ ap (λ n. named_from weight n target (flat_map f sites)) (let e : 0 + first ≡ first + 0 = omega arith in e)
    ∙ ap (λ n. named_from weight (first + 0) n (flat_map f sites)) target_is
    ∙ named_shift weight first 0 (sum before + rest) (flat_map f sites)
    ∙ levels weight f sites place (sum before + rest) rest (omega arith) refl left

-- events that are told their site
told_sum : (place : ℕ) (es : List Event) → sum_by weight_of (map (at_site place) es) ≡ sum_by weight es
told_sum place [] = refl
told_sum place (e ∷ es) =
    sum_by-cons weight_of (at_site place e) (map (at_site place) es)
    ∙ ap (λ n. e.weight + n) (told_sum place es)
    ∙ sym (sum_by-cons weight e es)

told_name : (place so_far target : ℕ) (es : List Event) → named_from weight_of so_far target (map (at_site place) es) ≡ option_map (at_site place) (named_from weight so_far target es)
told_name place so_far target [] = refl
told_name place so_far target (e ∷ es) =
    elim (here_or_passed target (so_far + e.weight)) [
      | inl inside ↦ here weight_of so_far target (at_site place e) (map (at_site place) es) inside ∙ ap (option_map (at_site place)) (sym (here weight so_far target e es inside))
      | inr beyond ↦ passed weight_of so_far target (at_site place e) (map (at_site place) es) beyond
          ∙ told_name place (so_far + e.weight) target es
          ∙ ap (option_map (at_site place)) (sym (passed weight so_far target e es beyond))
    ]

told_sums : (app : Application) (sight : Sight) (places : List ℕ) → map (λ place. propensity (app.events sight place)) places ≡ map (λ place. sum_by weight_of (map (at_site place) (app.events sight place))) places
unfolding propensity
told_sums app sight [] = refl
told_sums app sight (place ∷ places) =
    ap (λ n. n ∷ map (λ place. sum_by weight (app.events sight place)) places) (sym (told_sum place (app.events sight place)))
    ∙ ap (λ ns. sum_by weight_of (map (at_site place) (app.events sight place)) ∷ ns) (told_sums app sight places)

-- the event that a target names, by a slot and a rest
pub named_event : (app : Application) (rule : Rule) (sight : Sight) (places : List ℕ) (target slot rest : ℕ)
    → IsNamed (propensities_in app sight places) target slot rest
    → rest < propensity (app.events sight (get_or places slot 0))
    → named weight_of target (all_events (sector_on app rule sight places) sight.values) ≡ option_map (at_site (get_or places slot 0)) (named weight rest (app.events sight (get_or places slot 0)))
unfolding all_events named propensity propensities_in
named_event app rule sight places target slot rest is left =
    let f : ℕ → List SiteEvent = λ place. map (at_site place) (app.events sight place) in
    let place : ℕ = get_or places slot 0 in
    let less : slot < length places = omega (arith, is.within, length-map places (λ place. sum_by weight (app.events sight place))) in
    let split : sum (take slot (map (λ i. sum_by weight_of (f i)) places)) + rest ≡ target = rw (told_sums app sight places) at is.split in
    let lefts : rest < sum_by weight_of (f place) = rw (told_sum place (app.events sight place)) left in
    levels weight_of f places slot target rest less split lefts
    ∙ told_name place 0 rest (app.events sight place)

-- what the named event leaves
left_by : (app : Application) (rule : Rule) (sight : Sight) (places : List ℕ) (place mark : ℕ) (e : Option Event) → option_map (λ (e : Event). e.mark) e ≡ Some mark →
    after_event_of (sector_on app rule sight places) sight.values (option_map (at_site place) e) ≡ written (app.writes sight place mark) sight.values
left_by app rule sight places place mark None is = absurd cc
left_by app rule sight places place mark (Some e) is = let same : e.mark ≡ mark = cc in rw same refl

-- the rest names the same event of the site, told its site or not
named_there : (app : Application) (sight : Sight) (place rest : ℕ) → named weight_of rest (map (at_site place) (app.events sight place)) ≡ option_map (at_site place) (named weight rest (app.events sight place))
unfolding named
named_there app sight place rest = told_name place 0 rest (app.events sight place)

-- the event that is chosen leaves what the mark that the rest names writes
pub after_chosen : (app : Application) (rule : Rule) (sight : Sight) (places : List ℕ) (stream after mark : ℕ) (chosen : Chosen)
    → Chooses rule (propensities_in app sight places) stream chosen after
    → chosen.rest < propensity (app.events sight (get_or places chosen.place 0))
    → option_map (λ (e : Event). e.mark) (named weight chosen.rest (app.events sight (get_or places chosen.place 0))) ≡ Some mark
    → written (app.writes sight (get_or places chosen.place 0) mark) sight.values ≡ after_event_of (sector_on app rule sight places) sight.values (event_by rule (sector_on app rule sight places) sight.values stream)
unfolding event_by
after_chosen app RunningSum sight places stream after mark chosen (names, is) left marked =
    let found : IsNamed (propensities_in app sight places) (target_of (propensities (sector_on app RunningSum sight places) sight.values) stream) chosen.place chosen.rest =
    subst (λ (ps : List ℕ). IsNamed (propensities_in app sight places) (target_of ps stream) chosen.place chosen.rest) (propensities_are app RunningSum sight places) names in
    sym (ap (after_event_of (sector_on app RunningSum sight places) sight.values) (named_event app RunningSum sight places (target_of (propensities (sector_on app RunningSum sight places) sight.values) stream) chosen.place chosen.rest found left)
    ∙ left_by app RunningSum sight places (get_or places chosen.place 0) mark (named weight chosen.rest (app.events sight (get_or places chosen.place 0))) marked)
after_chosen app Bins sight places stream after mark chosen is left marked =
    let chose : bin_choice (propensities (sector_on app Bins sight places) sight.values) stream ≡ Some (record { place = chosen.place; rest = chosen.rest; stream = after }) =
    subst (λ (ps : List ℕ). bin_choice ps stream ≡ Some (record { place = chosen.place; rest = chosen.rest; stream = after })) (propensities_are app Bins sight places) is in
    sym (rw chose (ap (after_event_of (sector_on app Bins sight places) sight.values) (named_there app sight (get_or places chosen.place 0) chosen.rest)
    ∙ left_by app Bins sight places (get_or places chosen.place 0) mark (named weight chosen.rest (app.events sight (get_or places chosen.place 0))) marked))

-- the same at the place of the slot
pub after_chosen_at : (app : Application) (rule : Rule) (sight : Sight) (places : List ℕ) (stream after mark place : ℕ) (chosen : Chosen)
    → get_or places chosen.place 0 ≡ place
    → Chooses rule (propensities_in app sight places) stream chosen after
    → chosen.rest < propensity (app.events sight place)
    → option_map (λ (e : Event). e.mark) (named weight chosen.rest (app.events sight place)) ≡ Some mark
    → written (app.writes sight place mark) sight.values ≡ after_event_of (sector_on app rule sight places) sight.values (event_by rule (sector_on app rule sight places) sight.values stream)
after_chosen_at app rule sight places stream after mark place chosen at chooses left marked =
    subst (λ (p : ℕ). written (app.writes sight p mark) sight.values ≡ after_event_of (sector_on app rule sight places) sight.values (event_by rule (sector_on app rule sight places) sight.values stream)) at
    (after_chosen app rule sight places stream after mark chosen chooses
    (subst (λ (p : ℕ). chosen.rest < propensity (app.events sight p)) (sym at) left)
    (subst (λ (p : ℕ). option_map (λ (e : Event). e.mark) (named weight chosen.rest (app.events sight p)) ≡ Some mark) (sym at) marked))
