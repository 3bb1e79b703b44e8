-- Hops as they are listed one by one.
use Rattle.std.proofs.Common.{◌≡◌, ◌≢◌, ℕ, ◌+◌, ◌<◌, ◌≤◌, ◌++◌, true, false, Bool, List, [], ◌∷◌, length, get_or, drop, if◌then◌else◌, refl, sym, ap, ◌∙◌, arith}
use Rattle.std.proofs.lemmas.List.{append_assoc, append-nil, drop_more, drop_all}
use Rattle.std.proofs.lemmas.Bool.{eq-eqb, ne_eqb}
use Rattle.std.specs.Prelude.{slice_index}
use Rattle.spk_app.specs.Sights.{Sight}
use Rattle.spk_app.specs.Applications.{Event, listed}
use Rattle.spk_app.specs.declared.events.Events.{Events}
use Rattle.spk_diffusion.specs.Diffusion.{is_vacant, hops_to}

-- the hops to the first so many places are listed
pub record FirstHops (weight : ℕ → ℕ) (s : Sight) (mark : ℕ) (js : List ℕ) (events : Events) : Type 0 where
  pub so_far : listed events ++ hops_to weight s mark (drop mark js) ≡ hops_to weight s 0 js
  pub few : events.count ≤ mark

abbrev pub hop_at : (ℕ → ℕ) → ℕ → List ℕ → Event
hop_at weight mark js = record { mark = mark; weight = weight (get_or js mark 0) }

-- the hop to the next place, if it is vacant
pub hops_next : (weight : ℕ → ℕ) (s : Sight) (mark : ℕ) (js : List ℕ) (vacant : Bool)
    → mark < length js
    → is_vacant (slice_index s.values (get_or js mark 0)) ≡ vacant
    → hops_to weight s mark (drop mark js) ≡ (if vacant then hop_at weight mark js ∷ hops_to weight s (mark + 1) (drop (mark + 1) js) else hops_to weight s (mark + 1) (drop (mark + 1) js))
unfolding hops_to
hops_next weight s mark js vacant less is = rw (drop_more js mark 0 less, is) refl

pub vacant_more : (weight : ℕ → ℕ) (s : Sight) (mark value n : ℕ) (js : List ℕ) (hops pushed more : Events)
    → FirstHops weight s mark js hops
    → mark < length js
    → value ≡ slice_index s.values (get_or js mark 0)
    → value ≡ 1
    → n ≡ weight (get_or js mark 0)
    → listed pushed ≡ listed hops ++ record { mark = mark; weight = n } ∷ []
    → pushed.count ≡ hops.count + 1
    → more ≡ pushed
    → FirstHops weight s (mark + 1) js more
vacant_more weight s mark value n js hops pushed more first less is vacant weighs events counted same =
    let rest : List Event = hops_to weight s (mark + 1) (drop (mark + 1) js) in
    let next : hops_to weight s mark (drop mark js) ≡ hop_at weight mark js ∷ rest =
    hops_next weight s mark js true less (eq-eqb (slice_index s.values (get_or js mark 0)) 1 (sym is ∙ vacant)) in
    record {
      so_far = ap (λ (e : Events). listed e ++ rest) same ∙ ap (λ (es : List Event). es ++ rest) events ∙ append_assoc (listed hops) (record { mark = mark; weight = n } ∷ []) rest
          ∙ ap (λ w. listed hops ++ record { mark = mark; weight = w } ∷ rest) weighs ∙ ap (λ (es : List Event). listed hops ++ es) (sym next) ∙ first.so_far;
      few = omega (arith, first.few, counted, ap (λ (e : Events). e.count) same);
    }

pub occupied_more : (weight : ℕ → ℕ) (s : Sight) (mark value : ℕ) (js : List ℕ) (hops more : Events)
    → FirstHops weight s mark js hops
    → mark < length js
    → value ≡ slice_index s.values (get_or js mark 0)
    → value ≢ 1
    → more ≡ hops
    → FirstHops weight s (mark + 1) js more
occupied_more weight s mark value js hops more first less is other same =
    let rest : List Event = hops_to weight s (mark + 1) (drop (mark + 1) js) in
    let next : hops_to weight s mark (drop mark js) ≡ rest =
    hops_next weight s mark js false less (ne_eqb (slice_index s.values (get_or js mark 0)) 1 (λ vacant. other (is ∙ vacant))) in
    record {
      so_far = ap (λ (e : Events). listed e ++ rest) same ∙ ap (λ (es : List Event). listed hops ++ es) (sym next) ∙ first.so_far;
      few = omega (arith, first.few, ap (λ (e : Events). e.count) same);
    }

-- all of them
pub hops_all : (weight : ℕ → ℕ) (s : Sight) (mark : ℕ) (js near : List ℕ) (hops : Events)
    → FirstHops weight s mark js hops
    → length js ≤ mark
    → js ≡ near
    → listed hops ≡ hops_to weight s 0 near
unfolding hops_to
hops_all weight s mark js near hops first past are =
    let none : hops_to weight s mark (drop mark js) ≡ [] = ap (hops_to weight s mark) (drop_all mark js past) in
    sym (append-nil (listed hops)) ∙ ap (λ (es : List Event). listed hops ++ es) (sym none) ∙ first.so_far ∙ ap (hops_to weight s 0) are
