-- Trials of Potts as they are computed.
use Rattle.std.proofs.Common.{◌≡◌, ◌≢◌, ℕ, ◌+◌, ◌<◌, ◌==◌, Bool, false, if◌then◌else◌, List, length, get_or, sym, ap, ◌∙◌, subst, arith}
use Rattle.std.proofs.lemmas.Bool.Decides.{nat_tests}
use Rattle.std.proofs.lemmas.List.Elements.{All-get_or}
use Rattle.std.specs.Prelude.{All, slice_index}
use Rattle.spk_num.specs.declared.style.Style.{Style}
use Rattle.spk_num.specs.Draws.{next_state, below_of}
use Rattle.spk_app.specs.Applications.{Trial}
use Rattle.spk_app.specs.Sights.{Sight, values_near}
use Rattle.spk_potts.specs.Energies.{weight_to}
use Rattle.spk_potts.specs.Potts.{PottsSettings, near_trial, one_of, other_values, potts_trial}
use Rattle.spk_potts.specs.Trials.{judged, proposed, rejected}
use Rattle.spk_potts.proofs.Proposing.{proposed_other}
use Rattle.spk_potts.proofs.Values.{not_own}

-- where a draw proposes one of all values
pub draw_proposed : (a : PottsSettings) (q : ℕ) (neighonly : Bool) (style : Style) (t : ℕ) (s : Sight) (i below after stream : ℕ)
    → record { q = q; neighonly = neighonly; style = style; temperature = t } ≡ a
    → neighonly ≡ false
    → after ≡ next_state stream
    → below ≡ below_of q after
    → proposed t s i (1 + below) after ≡ potts_trial a s i stream
draw_proposed a q neighonly style t s i below after stream is false_is after_is below_is =
    subst (λ (x : PottsSettings). proposed t s i (1 + below) after ≡ potts_trial x s i stream) is
    (ap (λ n. proposed t s i (1 + n) after) below_is
    ∙ ap (λ x. proposed t s i (1 + below_of q x) x) after_is
    ∙ ap (λ b. potts_trial (record { q = q; neighonly = b; style = style; temperature = t }) s i stream) (sym false_is))

-- where a draw proposes one of the values of neighbours
pub near_judged : (t : ℕ) (s : Sight) (i own drawn weight state stream : ℕ) (near others : List ℕ)
    → own ≡ slice_index s.values i
    → near ≡ values_near s i
    → others ≡ other_values own near
    → state ≡ next_state stream
    → drawn ≡ below_of (length others) state
    → drawn < length others
    → weight ≡ weight_to t own (get_or others drawn 0) near
    → judged i (get_or others drawn 0) weight state ≡ near_trial t s i stream
near_judged t s i own drawn weight state stream near others own_is near_is others_are state_is drawn_is less weight_is =
    let some : (length others == 0) ≡ false = grind (arith, nat_tests) in
    let other : get_or others drawn 0 ≢ own = All-get_or (λ v. v ≢ own) others drawn 0 less (subst (All (λ v. v ≢ own)) (sym others_are) (not_own own near)) in
    let choice : List ℕ → ℕ → Trial = λ values x. if length values == 0 then rejected stream else proposed t s i (one_of values x) x in
    sym (proposed_other t s i own (get_or others drawn 0) weight state near own_is other near_is weight_is)
    ∙ ap (λ n. proposed t s i (get_or others n 0) state) drawn_is
    ∙ ap (λ b. if b then rejected stream else proposed t s i (one_of others state) state) (sym some)
    ∙ ap (choice others) state_is
    ∙ ap (λ values. choice values (next_state stream)) (others_are ∙ ap (λ v. other_values v near) own_is ∙ ap (other_values (slice_index s.values i)) near_is)
