-- Sectors of a patch: the sites of a box of its own cells.
use Rattle.std.specs.Prelude.{◌≡◌, ℕ, ◌+◌, ◌-◌, ◌≤◌, List}
use Rattle.spk_lattice.specs.declared.cells.Cells.{Cells}
use Rattle.spk_lattice.specs.Boxes.{Interval, box_of_cells, cells_of, interval_at}
use Rattle.spk_patch.specs.Patches.{PatchSites, halo_along, size_of}
use Rattle.spk_turn.specs.Slots.{BoxSlots, places}

-- the cells of a sector along a dimension of a patch, counted from the patch's first
abbrev pub span_in : PatchSites → Cells → ℕ → Interval
span_in p cells dimension = record {
  from = (interval_at cells dimension).from + halo_along p dimension - (interval_at p.own dimension).from;
  to = (interval_at cells dimension).to + halo_along p dimension - (interval_at p.own dimension).from;
}

abbrev pub slots_on : PatchSites → Cells → BoxSlots
slots_on p cells = record { view = size_of p; cells = record { x = span_in p cells 0; y = span_in p cells 1; z = span_in p cells 2 } }

abbrev pub places_in : PatchSites → Cells → List ℕ
places_in p cells = places (slots_on p cells)

-- cells of an interval, and maybe none
pub record IsPart (own along : Interval) : Type 0 where
  pub low : own.from ≤ along.from
  pub ordered : along.from ≤ along.to
  pub high : along.to ≤ own.to

-- cells of a patch's own box
pub record IsOwn (p : PatchSites) (cells : Cells) : Type 0 where
  pub is : cells_of (box_of_cells cells) ≡ cells
  pub x : IsPart (interval_at p.own 0) (interval_at cells 0)
  pub y : IsPart (interval_at p.own 1) (interval_at cells 1)
  pub z : IsPart (interval_at p.own 2) (interval_at cells 2)
