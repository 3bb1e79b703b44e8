-- Boxes of cells of a lattice. A cell may lie after the last of a dimension: it then shows the cell to which it wraps.
use Rattle.std.specs.Prelude.{ℕ, ◌+◌, ◌-◌, ◌%◌, ◌<◌, ◌≤◌, ◌≡◌, List, [], ◌∷◌, map, slice_index_or, pos, unsigned_abs}
use Rattle.std.specs.List.{range_with_len}
use Rattle.spk_lattice.specs.declared.cells.Cells.{Cells}
use Rattle.spk_lattice.specs.Layout.{Layout, sites_of}
use Rattle.spk_lattice.specs.Neighbours.{Spot, id_of, spot_at, offsets}

-- cells along a dimension, up to the one before the last of these two
pub record Interval : Type 0 where
  pub from : ℕ
  pub to : ℕ

pub record CellBox : Type 0 where
  pub x : Interval
  pub y : Interval
  pub z : Interval

abbrev pub width : Interval → ℕ
width along = along.to - along.from

-- the cells of a box, as those of a lattice of their own
abbrev pub layout_of : Layout → CellBox → Layout
layout_of l b = record { style = l.style; nx = width b.x; ny = width b.y; nz = width b.z }

abbrev pub wrapped_spot : Layout → Spot → Spot
wrapped_spot l s = record { x = s.x % l.nx; y = s.y % l.ny; z = s.z % l.nz; basis = s.basis }

-- a cell of a box, counted from the lattice's first
abbrev pub spot_from : CellBox → Spot → Spot
spot_from b s = record { x = b.x.from + s.x; y = b.y.from + s.y; z = b.z.from + s.z; basis = s.basis }

-- the place, in the lattice, of the site that the i-th site of a box shows
abbrev pub shown_at : Layout → CellBox → ℕ → ℕ
shown_at l b i = id_of l (wrapped_spot l (spot_from b (spot_at (layout_of l b) i))) - 1

-- the places of a box in raster order: through the basis points of a cell, and then the cells along x, y and z
unfoldable pub places_of : Layout → CellBox → List ℕ
places_of l b = map (shown_at l b) (range_with_len 0 (sites_of (layout_of l b)))

-- the place, in a box, of a basis point of a cell
abbrev pub place_in : Layout → ℕ → ℕ → ℕ → ℕ → ℕ
place_in box x y z basis = id_of box (record { x = x; y = y; z = z; basis = basis }) - 1

-- the places beside one in a box, where no cell wraps
abbrev pub hops_from : Layout → ℕ → List ℕ
hops_from box place =
    let s = spot_at box place in
    map (λ o. place_in box (s.x + o.dx - 1) (s.y + o.dy - 1) (s.z + o.dz - 1) o.basis) (offsets box.style s.basis)

-- all n cells of a dimension
abbrev pub all_of : ℕ → Interval
all_of n = record { from = 0; to = n }

abbrev pub whole_box : Layout → CellBox
whole_box l = record { x = all_of l.nx; y = all_of l.ny; z = all_of l.nz }

-- a box of the lattice's own cells, as programs see it
abbrev pub cells_of : CellBox → Cells
cells_of b = record {
  lo = pos b.x.from ∷ pos b.y.from ∷ pos b.z.from ∷ [];
  hi = pos b.x.to ∷ pos b.y.to ∷ pos b.z.to ∷ [];
}

-- the box of such cells
abbrev pub interval_at : Cells → ℕ → Interval
interval_at cells dimension = record {
  from = unsigned_abs (slice_index_or cells.lo dimension (pos 0));
  to = unsigned_abs (slice_index_or cells.hi dimension (pos 0));
}

abbrev pub box_of_cells : Cells → CellBox
box_of_cells cells = record { x = interval_at cells 0; y = interval_at cells 1; z = interval_at cells 2 }

-- some cells of a dimension, and none after its last
pub record IsInterval (n : ℕ) (along : Interval) : Type 0 where
  pub some : along.from < along.to
  pub within : along.to ≤ n

-- a box of the lattice's own cells has a cell in each dimension
pub record IsBoxOf (l : Layout) (cells : Cells) : Type 0 where
  pub is : cells_of (box_of_cells cells) ≡ cells
  pub x : IsInterval l.nx (interval_at cells 0)
  pub y : IsInterval l.ny (interval_at cells 1)
  pub z : IsInterval l.nz (interval_at cells 2)

-- cells of a dimension, and maybe none
pub record IsSpan (n : ℕ) (along : Interval) : Type 0 where
  pub ordered : along.from ≤ along.to
  pub within : along.to ≤ n

-- a box of the lattice's own cells, which may be empty
pub record IsBoxIn (l : Layout) (b : CellBox) : Type 0 where
  pub x : IsSpan l.nx b.x
  pub y : IsSpan l.ny b.y
  pub z : IsSpan l.nz b.z
