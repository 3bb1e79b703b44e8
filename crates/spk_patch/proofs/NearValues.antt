-- The values beside a place, read by ids.
use Rattle.std.proofs.Common.{◌≡◌, ◌≢◌, ℕ, ◌+◌, ◌-◌, ◌<◌, ◌≤◌, Bool, true, false, IsTrue, List, [], ◌∷◌, ◌++◌, map, take, length, get_or, refl, sym, ap, ◌∙◌, arith}
use mir.Val.{bool_byte}
use Rattle.std.proofs.lemmas.List.{get_or_default, map-append, take_more}
use Rattle.std.proofs.lemmas.List.Sums.{count_by_more_yes, count_by_more_no, sum_by-cons}
use Rattle.std.proofs.lemmas.Bool.{eq-eqb, ne_eqb}
use Rattle.std.specs.Prelude.{◌==◌, ◌&&◌, not, if◌then◌else◌, count_by, slice_index}
use Rattle.spk_lattice.specs.Neighbours.{nb}
use Rattle.spk_app.specs.PlainViews.{places_beside}
use Rattle.spk_app.specs.Sights.{values_near}
use Rattle.spk_patch.specs.Patches.{PatchSites, near_of, sight_of}

by_ids : (values ids : List ℕ) → map (λ id. slice_index values (id - 1)) ids ≡ map (slice_index values) (map (λ id. id - 1) ids)
by_ids values [] = refl
by_ids values (id ∷ ids) = ap (λ rest. slice_index values (id - 1) ∷ rest) (by_ids values ids)

near_wrapped : (p : PatchSites) (i : ℕ) → IsTrue p.wrapped → places_beside p.lattice i ≡ near_of p i
near_wrapped p i wrapped = rw wrapped refl

pub values_by_ids : (p : PatchSites) (i : ℕ) (ids : List ℕ) → IsTrue p.wrapped → ids ≡ nb p.lattice (i + 1) → map (λ id. slice_index p.values (id - 1)) ids ≡ values_near (sight_of p) i
values_by_ids p i ids wrapped is = ap (map (λ id. slice_index p.values (id - 1))) is ∙ by_ids p.values (nb p.lattice (i + 1)) ∙ ap (map (slice_index p.values)) (near_wrapped p i wrapped)

-- one value more, read by its id
pub values_more : (values ids near : List ℕ) (k id v : ℕ) → k < length ids → id ≡ get_or ids k 0 → v ≡ get_or values (id - 1) v → id - 1 < length values
    → near ≡ map (λ n. slice_index values (n - 1)) (take k ids)
    → near ++ v ∷ [] ≡ map (λ n. slice_index values (n - 1)) (take (k + 1) ids)
values_more values ids near k id v less is read inside so_far =
    let f : ℕ → ℕ = λ n. slice_index values (n - 1) in
    let value : v ≡ f (get_or ids k 0) = read ∙ get_or_default values (id - 1) v 0 inside ∙ ap f is in
    ap (λ (xs : List ℕ). xs ++ v ∷ []) so_far ∙ ap (λ n. map f (take k ids) ++ n ∷ []) value ∙ sym (map-append f (take k ids) (get_or ids k 0 ∷ [])) ∙ ap (map f) (sym (take_more ids k 0 less))

-- ---- those with a value, but for one place

abbrev pub counts_by_id : List ℕ → ℕ → ℕ → ℕ → Bool
counts_by_id values value but id = not (id - 1 == but) && (slice_index values (id - 1) == value)

pub counted_other : (place but : ℕ) (has_value : Bool) → place ≢ but → not (place == but) && has_value ≡ has_value
counted_other place but has_value other = rw (ne_eqb place but other) refl

pub counted_not : (place but : ℕ) (has_value : Bool) → place ≡ but → not (place == but) && has_value ≡ not (place == but)
counted_not place but has_value same = rw (eq-eqb place but same) refl

pub count_more : (test : ℕ → Bool) (ids : List ℕ) (k id count : ℕ) (b : Bool) → k < length ids → id ≡ get_or ids k 0 → test id ≡ b
    → count ≡ count_by test (take k ids)
    → count + bool_byte b ≡ count_by test (take (k + 1) ids)
count_more test ids k id count true less is counts so_far = omega (arith, so_far, count_by_more_yes test ids k 0 less (ap test (sym is) ∙ counts))
count_more test ids k id count false less is counts so_far = omega (arith, so_far, count_by_more_no test ids k 0 less (ap test (sym is) ∙ counts))

count_by_places : (test : ℕ → Bool) (ids : List ℕ) → count_by (λ id. test (id - 1)) ids ≡ count_by test (map (λ id. id - 1) ids)
count_by_places test [] = refl
count_by_places test (id ∷ ids) =
    let one : ℕ → ℕ = λ place. if test place then 1 else 0 in
    sum_by-cons (λ n. one (n - 1)) id ids ∙ ap (λ n. one (id - 1) + n) (count_by_places test ids) ∙ sym (sum_by-cons one (id - 1) (map (λ n. n - 1) ids))

pub count_all : (p : PatchSites) (i value but : ℕ) (ids : List ℕ) → IsTrue p.wrapped → ids ≡ nb p.lattice (i + 1)
    → count_by (counts_by_id p.values value but) ids ≡ count_by (λ j. not (j == but) && (slice_index p.values j == value)) (near_of p i)
count_all p i value but ids wrapped is =
    let test : ℕ → Bool = λ j. not (j == but) && (slice_index p.values j == value) in
    ap (count_by (counts_by_id p.values value but)) is ∙ count_by_places test (nb p.lattice (i + 1)) ∙ ap (count_by test) (near_wrapped p i wrapped)

pub one_at_most : (b : Bool) → bool_byte b ≤ 1
one_at_most true = omega arith
one_at_most false = omega arith
