-- Regions with one more.
use Rattle.std.proofs.Common.{◌≡◌, ℕ, suc, ◌<◌, ◌≤◌, Bool, true, false, cond, nat_lt, nat_le, if◌then◌else◌, List, [], ◌∷◌, ◌++◌, map, length, get_or, ℤ, Option, Some, None, Result, Ok, Err, refl, sym, ap, ◌∙◌, subst, arith, inl, inr}
use Rattle.std.specs.List.{fold, All, position_or_len}
use Rattle.std.specs.Prelude.{is_some}
use Rattle.std.specs.Option.{option_map, option_or}
use Rattle.std.specs.Result.{IsErrAnd}
use Rattle.std.specs.Str.{bytes_eq}
use Rattle.std.proofs.lemmas.Bool.{cases_lt}
use Rattle.std.proofs.lemmas.Bool.Decides.{nat_tests}
use Rattle.std.proofs.lemmas.List.{length-map, get_or-map, length_push, map_push, get_or_append_left, get_or_push}
use Rattle.std.proofs.lemmas.List.Sums.{fails_before_first}
use Rattle.std.proofs.lemmas.List.Quantifiers.{all_pairs_push}
use Rattle.spk_num.specs.declared.shape.Shape.{Shape}
use Rattle.spk_num.specs.Results.{IsPlainOrMemory, result_with}
use Rattle.spk_num.proofs.ResultLaws.{with_out_of_memory}
use Rattle.spk_lattice.specs.declared.regions.fault.RegionFault.{RegionFault}
use Rattle.spk_lattice.specs.declared.regions.fault.RegionFault.TheVariants.{Twice, Unknown, Empty, TooManyParts, TooManyRegions, Memory}
use Rattle.spk_lattice.specs.declared.regions.region.NamedShape.{NamedShape}
use Rattle.spk_lattice.specs.declared.regions.region.Region.{Region}
use Rattle.spk_lattice.specs.Shapes.{parts_of, is_empty, shape_holds, IsInRange}
use Rattle.spk_lattice.specs.Regions.{Answers, no_answers, answers_of_parts, with_answer, holds, place_of, name_at, unknown_part, fault_of, ok_unless, added, is_memory, named_shapes, ArePlaces, AreRegions}
use Rattle.spk_lattice.proofs.Stored.{length_named}

-- no region has a name that isn't found
first_past : (p : NamedShape → Bool) (regions : List NamedShape) → cond (nat_lt (position_or_len p regions) (length regions)) (Some (position_or_len p regions)) None ≡ None → length regions ≤ position_or_len p regions
first_past p regions none = grind (arith, nat_tests)

pub all_apart : (regions : List NamedShape) (name : List ℕ) → place_of regions name ≡ None → All (λ (region : NamedShape). bytes_eq region.name name ≡ false) regions
all_apart regions name none k d h =
    let past : length regions ≤ position_or_len (λ (region : NamedShape). bytes_eq region.name name) regions = first_past (λ (region : NamedShape). bytes_eq region.name name) regions none in
    fails_before_first (λ (region : NamedShape). bytes_eq region.name name) regions k d (omega arith)

silent : (point : List ℤ) (answers : Answers) (regions : List NamedShape) (name : List ℕ) → All (λ (region : NamedShape). bytes_eq region.name name ≡ false) regions →
    fold (with_answer point) answers regions name ≡ answers name
silent point answers [] name apart = refl
silent point answers (region ∷ regions) name apart =
    let other : bytes_eq region.name name ≡ false = apart 0 region (omega arith) in
    let rest : All (λ (region : NamedShape). bytes_eq region.name name ≡ false) regions = λ k d h. apart (suc k) d (omega arith) in
    silent point (with_answer point answers region) regions name rest
    ∙ ap (λ (b : Bool). cond b (Some (shape_holds (answers_of_parts answers region.shape) region.shape point)) (answers name)) other

pub unknown_holds : (regions : List NamedShape) (name : List ℕ) (point : List ℤ) → place_of regions name ≡ None → holds regions name point ≡ None
unfolding holds
unknown_holds regions name point none = silent point no_answers regions name (all_apart regions name none)

-- places stay where a region is added after them
name_kept : (regions : List NamedShape) (one : NamedShape) (place : ℕ) → place < length regions → name_at (regions ++ one ∷ []) place ≡ name_at regions place
name_kept regions one place h =
    let here : place < length (map (λ (region : NamedShape). region.name) regions) = rw length-map h in
    rw map_push (get_or_append_left (map (λ (region : NamedShape). region.name) regions) (one.name ∷ []) [] place here)

places_kept : (regions : List NamedShape) (one : NamedShape) (below : ℕ) (parts : List (List ℕ)) (places : List ℕ) → ArePlaces regions below parts places → below ≤ length regions →
    ArePlaces (regions ++ one ∷ []) below parts places
places_kept regions one below parts places are within = record {
  count = are.count;
  lower = are.lower;
  names = λ i h. let lower : get_or places i 0 < below = are.lower i h in name_kept regions one (get_or places i 0) (omega arith) ∙ are.names i h;
}

all_push : {X : Type 0} (P : X → Type 0) (xs : List X) (y : X) → All P xs → P y → All P (xs ++ y ∷ [])
all_push P xs y all here k d h =
    elim (cases_lt k (length xs)) [
      | inl before ↦ rw (get_or_append_left xs (y ∷ []) d k before) (all k d before)
      | inr after ↦ rw (get_or_push xs y d k (omega (arith, length_push xs y))) here
    ]

apart_from : (regions : List Region) (name : List ℕ) → place_of (named_shapes regions) name ≡ None → All (λ (region : Region). bytes_eq region.named.name name ≡ false) regions
apart_from regions name none k d h =
    subst (λ (region : NamedShape). bytes_eq region.name name ≡ false) (get_or-map (λ (region : Region). region.named) regions k d d.named h)
    (all_apart (named_shapes regions) name none k d.named (rw length_named h))

-- with one more region all still holds
pub with_one : (regions : List Region) (region : Region) → AreRegions regions → length regions < 128 → place_of (named_shapes regions) region.named.name ≡ None →
    ArePlaces (named_shapes regions) (length regions) (parts_of region.named.shape) region.places.items → length (parts_of region.named.shape) ≤ 16 → IsInRange region.named.shape →
    AreRegions (regions ++ region ∷ [])
with_one regions region are room none lie few_parts in_range =
    let shown : named_shapes (regions ++ region ∷ []) ≡ named_shapes regions ++ region.named ∷ [] = map_push (λ (r : Region). r.named) regions region in
    record {
      few = rw length_push (omega arith);
      distinct = all_pairs_push (λ (a b : Region). bytes_eq a.named.name b.named.name ≡ false) regions region are.distinct (apart_from regions region.named.name none);
      parts = λ k d h. rw shown (elim (cases_lt k (length regions)) [
        | inl before ↦
            rw (get_or_append_left regions (region ∷ []) d k before)
            (places_kept (named_shapes regions) region.named k (parts_of (get_or regions k d).named.shape) (get_or regions k d).places.items (are.parts k d before) (rw length_named (omega arith)))
        | inr after ↦
            let at_end : length regions ≡ k = omega (arith, length_push regions region) in
            rw (get_or_push regions region d k at_end, ← at_end)
            (places_kept (named_shapes regions) region.named (length regions) (parts_of region.named.shape) region.places.items lie (rw length_named (omega arith)))
      ]);
      few_parts = all_push (λ (r : Region). length (parts_of r.named.shape) ≤ 16) regions region are.few_parts few_parts;
      in_range = all_push (λ (r : Region). IsInRange r.named.shape) regions region are.in_range in_range;
    }

-- what holds where a region can be added
room_in : (p n : ℕ) → (if nat_lt 16 p then Some TooManyParts else (if nat_le 128 n then Some TooManyRegions else None)) ≡ None → (p ≤ 16) × (n < 128)
room_in p n is = (grind (arith, nat_tests), grind (arith, nat_tests))

no_fault_in : (o : Option ℕ) (u : Option RegionFault) (e : Bool) (p n : ℕ) →
    (if is_some o then Some Twice else option_or u (if e then Some Empty else (if nat_lt 16 p then Some TooManyParts else (if nat_le 128 n then Some TooManyRegions else None)))) ≡ None →
    (o ≡ None) × (p ≤ 16) × (n < 128)
no_fault_in (Some place) u e p n is = let no : Some Twice ≡ None = is in cc
no_fault_in None (Some fault) e p n is = let no : Some fault ≡ None = is in cc
no_fault_in None None true p n is = let no : Some Empty ≡ None = is in cc
no_fault_in None None false p n is = let room = room_in p n is in (refl, room.0, room.1)

no_fault : (regions : List NamedShape) (name : List ℕ) (shape : Shape) → fault_of regions name shape ≡ None →
    (place_of regions name ≡ None) × (length (parts_of shape) ≤ 16) × (length regions < 128)
no_fault regions name shape is =
    no_fault_in (place_of regions name) (option_map Unknown (unknown_part regions (parts_of shape))) (is_empty shape) (length (parts_of shape)) (length regions) is

pub keeps : (regions : List Region) (shown : List NamedShape) (name : List ℕ) (shape : Shape) (region : Region) → AreRegions regions → named_shapes regions ≡ shown →
    region.named.name ≡ name → region.named.shape ≡ shape → fault_of shown name shape ≡ None → ArePlaces shown (length shown) (parts_of shape) region.places.items → IsInRange shape →
    AreRegions (regions ++ region ∷ [])
keeps regions shown name shape region are view named shaped none lie in_range =
    let fits = no_fault shown name shape none in
    let room : length regions < 128 = rw (← length_named regions, view) fits.2 in
    let apart : place_of (named_shapes regions) region.named.name ≡ None = rw (view, named) fits.0 in
    let few : length (parts_of region.named.shape) ≤ 16 = rw shaped fits.1 in
    let places : ArePlaces (named_shapes regions) (length regions) (parts_of region.named.shape) region.places.items = rw (← length_named regions, view, shaped) lie in
    with_one regions region are room apart places few (rw shaped in_range)

pub shown_more : (regions all : List Region) (shown : List NamedShape) (name : List ℕ) (shape : Shape) (region : Region) → named_shapes regions ≡ shown →
    region.named.name ≡ name → region.named.shape ≡ shape → all ≡ regions ++ region ∷ [] → named_shapes all ≡ shown ++ (record { name = name; shape = shape }) ∷ []
shown_more regions all shown name shape region view named shaped is =
    ap named_shapes is
    ∙ map_push (λ (r : Region). r.named) regions region
    ∙ ap (λ (before : List NamedShape). before ++ region.named ∷ []) view
    ∙ ap (λ (n : List ℕ). shown ++ (record { name = n; shape = region.named.shape }) ∷ []) named
    ∙ ap (λ (s : Shape). shown ++ (record { name = name; shape = s }) ∷ []) shaped

-- a fault, out of memory, and the regions with one more
refused : (regions : List NamedShape) (name : List ℕ) (shape : Shape) (fault : RegionFault) → (is_memory fault ≡ false → fault_of regions name shape ≡ Some fault) →
    IsPlainOrMemory is_memory (added regions name shape) (Err fault)
unfolding IsPlainOrMemory
refused regions name shape fault judged known = ap (λ (o : Option RegionFault). ok_unless o (regions ++ (record { name = name; shape = shape }) ∷ [])) (judged known)

pub is_refused : {B : Type 0} (regions shown : List NamedShape) (name : List ℕ) (shape : Shape) (fault : RegionFault) (result : Result B RegionFault) →
    (is_memory fault ≡ false → fault_of regions name shape ≡ Some fault) → IsErrAnd result (λ f. f ≡ fault) → IsPlainOrMemory is_memory (added regions name shape) (result_with shown result)
is_refused regions shown name shape fault (Ok b) judged handed = absurd handed
is_refused regions shown name shape fault (Err f) judged handed =
    subst (λ (g : RegionFault). IsPlainOrMemory is_memory (added regions name shape) (Err g)) (sym handed) (refused regions name shape fault judged)

pub is_out_of_memory : {A B : Type 0} (plain : Result A RegionFault) (a : A) (result : Result B RegionFault) → IsErrAnd result (λ f. f ≡ Memory) → IsPlainOrMemory is_memory plain (result_with a result)
is_out_of_memory plain a result out = with_out_of_memory is_memory plain a result Memory out refl

pub is_added : (regions shown : List NamedShape) (name : List ℕ) (shape : Shape) → fault_of regions name shape ≡ None → shown ≡ regions ++ (record { name = name; shape = shape }) ∷ [] →
    IsPlainOrMemory is_memory (added regions name shape) (Ok shown)
unfolding IsPlainOrMemory
is_added regions shown name shape none is =
    ap (λ (o : Option RegionFault). ok_unless o (regions ++ (record { name = name; shape = shape }) ∷ [])) none ∙ ap Ok (sym is)
