-- Which sites a command speaks of: all, or those of a region.
use Rattle.std.specs.Prelude.{◌≡◌, ◌<◌, ℕ, List, length, Option, Some, None}
use Rattle.spk_lattice.specs.Regions.{place_of}
use Rattle.spk_lattice.specs.declared.regions.region.NamedShape.{NamedShape}
use Rattle.spk_run.specs.declared.area.Area.{Area}
use Rattle.spk_run.specs.declared.area.Area.TheVariants as area

-- the region of an area is there
abbrev pub HasPlace : List NamedShape → Area → Type 0
HasPlace regions (area.Region place) = place < length regions
HasPlace regions other = Unit {0}

-- an area is that of a region's name, or of no name
abbrev pub IsArea : List NamedShape → Option (List ℕ) → Area → Type 0
IsArea regions None area.All = Unit {0}
IsArea regions (Some name) (area.Region place) = place_of regions name ≡ Some place
IsArea regions (Some name) area.None = place_of regions name ≡ None
IsArea regions name other = ⊥
