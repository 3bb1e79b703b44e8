-- The sites of a box of cells, by their slots: the place of each in a view, and its number among the box's sites.
use Rattle.std.specs.Prelude.{◌≡◌, ℕ, ◌<◌, ◌≤◌, List, Option, Some, None}
use Rattle.spk_num.specs.declared.style.Style.{Style}
use Rattle.spk_lattice.specs.Layout.{Layout, sites_of}
use Rattle.spk_lattice.specs.Boxes.{Interval, CellBox, IsBoxIn, layout_of, shown_at, places_of}
use Rattle.spk_turn.specs.declared.slots.Along.{Along}

-- the cells of a view, as those of a lattice, and a box of them
pub record BoxSlots : Type 0 where
  pub view : Layout
  pub cells : CellBox

abbrev pub interval_of : Along → Interval
interval_of along = record { from = along.from; to = along.to }

-- a box, by its cells along each dimension
abbrev pub slots_of : Style → Along → Along → Along → BoxSlots
slots_of style x y z = record {
  view = record { style = style; nx = x.cells; ny = y.cells; nz = z.cells };
  cells = record { x = interval_of x; y = interval_of y; z = interval_of z };
}

abbrev pub slot_count : BoxSlots → ℕ
slot_count s = sites_of (layout_of s.view s.cells)

-- the place of the site with a slot
abbrev pub place_of : BoxSlots → ℕ → ℕ
place_of s slot = shown_at s.view s.cells slot

abbrev pub places : BoxSlots → List ℕ
places s = places_of s.view s.cells

-- the view has these cells, and not too many sites
pub record AreSlots (s : BoxSlots) : Type 0 where
  pub inside : IsBoxIn s.view s.cells
  pub limit : sites_of s.view ≤ 4194304

-- the slot of the site at a place, if the box has it
abbrev pub IsSlotAt : BoxSlots → ℕ → Option ℕ → Type 0
IsSlotAt s place (Some slot) = (slot < slot_count s) × (place_of s slot ≡ place)
IsSlotAt s place None = (slot : ℕ) → slot < slot_count s → place_of s slot ≡ place → ⊥
