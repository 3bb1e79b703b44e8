-- Regions, which are shapes by their names in the order in which they were given: where there is one, which points it holds, and which may be added.
-- They are made after SPPARKS's regions. The limits are our own.
use Rattle.std.specs.Prelude.{◌≡◌, ℕ, ◌<◌, ◌≤◌, Bool, true, false, nat_lt, nat_le, if◌then◌else◌, List, [], ◌∷◌, ◌++◌, map, length, get_or, ℤ, Option, Some, None, is_some, is_none, Result, Ok, Err, position}
use Rattle.std.specs.List.{find, fold, All, AllPairs}
use Rattle.std.specs.Option.{option_and_then, option_map, option_or, unwrap_or}
use Rattle.std.specs.Str.{bytes_eq}
use Rattle.spk_num.specs.declared.shape.Shape.{Shape}
use Rattle.spk_num.specs.declared.shape.Shape.TheVariants.{Block as BlockShape}
use Rattle.spk_lattice.specs.declared.regions.block.Block.{Block}
use Rattle.spk_lattice.specs.declared.regions.fault.RegionFault.{RegionFault}
use Rattle.spk_lattice.specs.declared.regions.fault.RegionFault.TheVariants.{Twice, Unknown, Empty, TooManyParts, TooManyRegions, Memory}
use Rattle.spk_lattice.specs.declared.regions.region.NamedShape.{NamedShape}
use Rattle.spk_lattice.specs.declared.regions.region.Region.{Region}
use Rattle.spk_lattice.specs.Shapes.{parts_of, shape_holds, is_empty, AreNearBounds, IsInRange}

-- the place of the region with a name, counted from 0
abbrev pub place_of : List NamedShape → List ℕ → Option ℕ
place_of regions name = position (λ (region : NamedShape). bytes_eq region.name name) regions

-- the name of the region at a place
abbrev pub name_at : List NamedShape → ℕ → List ℕ
name_at regions place = get_or (map (λ (region : NamedShape). region.name) regions) place []

-- the block with a name
abbrev pub block_in : Shape → Option Block
block_in (BlockShape lo hi) = Some (record { lo = lo; hi = hi })
block_in shape = None

-- the bounds of a block are in range
abbrev pub IsNearBlock : Block → Type 0
IsNearBlock block = AreNearBounds block.lo × AreNearBounds block.hi

abbrev pub block_named : List NamedShape → List ℕ → Option Block
block_named regions name = option_and_then (λ (region : NamedShape). block_in region.shape) (find (λ (region : NamedShape). bytes_eq region.name name) regions)

-- whether regions hold a point, by their names
abbrev pub Answers : Type 0
Answers = List ℕ → Option Bool

abbrev pub no_answers : Answers
no_answers name = None

-- whether the parts of a shape hold the point
abbrev pub answers_of_parts : Answers → Shape → List Bool
answers_of_parts answers shape = map (λ part. unwrap_or (answers part) false) (parts_of shape)

-- one more region, whose parts are among those before it
abbrev pub with_answer : List ℤ → Answers → NamedShape → Answers
with_answer point answers region name =
    if bytes_eq region.name name then Some (shape_holds (answers_of_parts answers region.shape) region.shape point) else answers name

-- whether the region with a name holds a point, which is in half units
unfoldable pub holds : List NamedShape → List ℕ → List ℤ → Option Bool
holds regions name point = fold (with_answer point) no_answers regions name

-- the first part that isn't there
abbrev pub unknown_part : List NamedShape → List (List ℕ) → Option (List ℕ)
unknown_part regions parts = find (λ part. is_none (place_of regions part)) parts

-- why a region can't be added, in this order
abbrev pub fault_of : List NamedShape → List ℕ → Shape → Option RegionFault
fault_of regions name shape =
    if is_some (place_of regions name) then Some Twice
    else option_or (option_map Unknown (unknown_part regions (parts_of shape)))
    (if is_empty shape then Some Empty
    else (if nat_lt 16 (length (parts_of shape)) then Some TooManyParts
    else (if nat_le 128 (length regions) then Some TooManyRegions
    else None)))

abbrev pub ok_unless : {A E : Type 0} → Option E → A → Result A E
ok_unless None a = Ok a
ok_unless (Some fault) a = Err fault

-- the regions with one more after the others, or why it can't be added
abbrev pub added : List NamedShape → List ℕ → Shape → Result (List NamedShape) RegionFault
added regions name shape = ok_unless (fault_of regions name shape) (regions ++ (record { name = name; shape = shape }) ∷ [])

abbrev pub is_memory : RegionFault → Bool
is_memory Memory = true
is_memory fault = false

-- regions as they are stored, without the places of their parts
abbrev pub named_shapes : List Region → List NamedShape
named_shapes regions = map (λ (region : Region). region.named) regions

-- these places, all below another one, are those of parts with these names
pub record ArePlaces (regions : List NamedShape) (below : ℕ) (parts : List (List ℕ)) (places : List ℕ) : Type 0 where
  pub count : length places ≡ length parts
  pub lower : (k : ℕ) → k < length places → get_or places k 0 < below
  pub names : (k : ℕ) → k < length places → name_at regions (get_or places k 0) ≡ get_or parts k []

-- What holds of all regions: each has another name, its parts lie before it, its numbers are in range, and there are at most 128, each of at most 16 parts.
pub record AreRegions (regions : List Region) : Type 0 where
  pub few : length regions ≤ 128
  pub distinct : AllPairs (λ (a b : Region). bytes_eq a.named.name b.named.name ≡ false) regions
  pub parts : (k : ℕ) (d : Region) → k < length regions → ArePlaces (named_shapes regions) k (parts_of (get_or regions k d).named.shape) (get_or regions k d).places.items
  pub few_parts : All (λ (region : Region). length (parts_of region.named.shape) ≤ 16) regions
  pub in_range : All (λ (region : Region). IsInRange region.named.shape) regions
