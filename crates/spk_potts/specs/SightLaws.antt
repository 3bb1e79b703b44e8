-- What depends on a site's own value and its neighbours' values alone.
use Rattle.std.proofs.Common.{◌≡◌, ℕ, ◌==◌, ◌^◌, ◌≤◌, nat_lt, Bool, true, false, if◌then◌else◌, List, [], ◌∷◌, map, refl, sym, ap, ◌∙◌}
use Rattle.std.proofs.lemmas.List.Elements.{All-nil, All-cons, All-head, All-tail}
use Rattle.std.specs.Prelude.{All, slice_index, pos, ◌-ℤ◌}
use Rattle.spk_num.proofs.WeightLaws.{weight_small}
use Rattle.spk_lattice.specs.Hops.{IsWithin}
use Rattle.spk_num.specs.Draws.{next_state, below_of}
use Rattle.spk_app.specs.Applications.{Trial}
use Rattle.spk_app.specs.Laws.{shown_trial}
use Rattle.spk_app.specs.Sights.{Sight, Write, LooksSame, values_near}
use Rattle.spk_potts.specs.Energies.{energy_of, unlike, weight_to}
use Rattle.spk_potts.specs.Trials.{accepted, judged, proposed, rejected}

pub same_own : (f : ℕ → ℕ) (here there : Sight) (i : ℕ) → LooksSame 1 f here there i → slice_index there.values (f i) ≡ slice_index here.values i
same_own f here there i looks = sym looks.values.0

same_values : (f : ℕ → ℕ) (here there : Sight) (js : List ℕ) → All (λ j. slice_index here.values j ≡ slice_index there.values (f j)) js → map (slice_index there.values) (map f js) ≡ map (slice_index here.values) js
same_values f here there [] all = refl
same_values f here there (j ∷ js) all =
    let P : ℕ → Type 0 = λ j. slice_index here.values j ≡ slice_index there.values (f j) in
    let first : slice_index here.values j ≡ slice_index there.values (f j) = All-head P j js all in
    let rest : map (slice_index there.values) (map f js) ≡ map (slice_index here.values) js = same_values f here there js (All-tail P j js all) in
    rw (← first, rest)

pub same_near : (f : ℕ → ℕ) (here there : Sight) (i : ℕ) → LooksSame 1 f here there i → values_near there (f i) ≡ values_near here i
same_near f here there i looks = ap (map (slice_index there.values)) (sym looks.near) ∙ same_values f here there (here.near i) looks.values.1

pub same_energy : (f : ℕ → ℕ) (here there : Sight) (i : ℕ) → LooksSame 1 f here there i → energy_of there (f i) ≡ energy_of here i
same_energy f here there i looks = ap (λ own. unlike own (values_near there (f i))) (same_own f here there i looks) ∙ ap (unlike (slice_index here.values i)) (same_near f here there i looks)

-- a choice between two trials that are shown
pub shown_if : (f : ℕ → ℕ) (b : Bool) (x y x' y' : Trial) → x' ≡ shown_trial f x → y' ≡ shown_trial f y → (if b then x' else y') ≡ shown_trial f (if b then x else y)
shown_if f true x y x' y' first second = first
shown_if f false x y x' y' first second = second

judged_shown : (f : ℕ → ℕ) (i value weight stream : ℕ) → judged (f i) value weight stream ≡ shown_trial f (judged i value weight stream)
judged_shown f i value weight stream =
    let after : ℕ = next_state stream in
    let take : ℕ → Trial = accepted i value in
    let drawn : Trial = if nat_lt (below_of (2 ^ 30) after) weight then take after else rejected after in
    let drawn' : Trial = if nat_lt (below_of (2 ^ 30) after) weight then accepted (f i) value after else rejected after in
    shown_if f (weight == 2 ^ 30) (take stream) (if weight == 0 then rejected stream else drawn) (accepted (f i) value stream) (if weight == 0 then rejected stream else drawn') refl
    (shown_if f (weight == 0) (rejected stream) drawn (rejected stream) drawn' refl
    (shown_if f (nat_lt (below_of (2 ^ 30) after) weight) (take after) (rejected after) (accepted (f i) value after) (rejected after) refl refl))

-- a proposal where the surroundings look the same
pub same_proposed : (f : ℕ → ℕ) (here there : Sight) (i temperature value stream : ℕ)
    → LooksSame 1 f here there i
    → proposed temperature there (f i) value stream ≡ shown_trial f (proposed temperature here i value stream)
same_proposed f here there i temperature value stream looks =
    let own : ℕ = slice_index here.values i in
    let weight : ℕ = weight_to temperature own value (values_near here i) in
    rw (same_own f here there i looks, same_near f here there i looks)
    (shown_if f (value == own) (rejected stream) (judged i value weight stream) (rejected stream) (judged (f i) value weight stream) refl (judged_shown f i value weight stream))

-- what is true of both is true of the one that is chosen
pub either : {X : Type 0} (P : X → Type 0) (b : Bool) (x y : X) → P x → P y → P (if b then x else y)
either P true x y first second = first
either P false x y first second = second

-- what is true of a write of the value is true of each write of its proposal
pub proposed_writes : (P : Write → Type 0) (temperature : ℕ) (s : Sight) (i value stream : ℕ) → P (record { place = i; value = value }) → All P (proposed temperature s i value stream).writes
proposed_writes P temperature s i value stream holds =
    let own : ℕ = slice_index s.values i in
    let weight : ℕ = weight_to temperature own value (values_near s i) in
    let after : ℕ = next_state stream in
    let Q : Trial → Type 0 = λ trial. All P trial.writes in
    let none : (x : ℕ) → Q (rejected x) = λ x. All-nil P in
    let one : (x : ℕ) → Q (accepted i value x) = λ x. All-cons P (record { place = i; value = value }) [] holds (All-nil P) in
    let drawn : Trial = if nat_lt (below_of (2 ^ 30) after) weight then accepted i value after else rejected after in
    either Q (value == own) (rejected stream) (judged i value weight stream) (none stream)
    (either Q (weight == 2 ^ 30) (accepted i value stream) (if weight == 0 then rejected stream else drawn) (one stream)
    (either Q (weight == 0) (rejected stream) drawn (none stream)
    (either Q (nat_lt (below_of (2 ^ 30) after) weight) (accepted i value after) (rejected after) (one after) (none after))))

-- a write of one value to the site itself
pub one_write : (P : Write → Type 0) (i value : ℕ) → P (record { place = i; value = value }) → All P (record { place = i; value = value } ∷ [])
one_write P i value holds = All-cons P (record { place = i; value = value }) [] holds (All-nil P)

-- a place lies within no hops of itself
pub at_own : (near : ℕ → List ℕ) (i : ℕ) → IsWithin near 0 i i
unfolding IsWithin
at_own near i = refl

pub weight_to_small : (temperature own value : ℕ) (near : List ℕ) → weight_to temperature own value near ≤ 2 ^ 30
weight_to_small temperature own value near = weight_small (pos (unlike value near) -ℤ pos (unlike own near)) temperature
