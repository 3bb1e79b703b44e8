-- The sites of a lattice by their ids, and their neighbours.
use Rattle.std.specs.Prelude.{ℕ, ◌+◌, ◌-◌, ◌*◌, ◌/◌, ◌%◌, ◌==◌, ◌<◌, ◌≤◌, Bool, ◌&&◌, List, [], ◌∷◌, map, filter, length, take, slice_index, slice_index_or, ℤ, pos}
use Rattle.std.specs.List.{range_with_len, list_any}
use Rattle.spk_num.specs.declared.style.Style.{Style}
pub use Rattle.spk_lattice.specs.declared.grid.Spot.{Spot}
pub use Rattle.spk_lattice.specs.declared.neighbours.Neighbours.{Neighbours}
pub use Rattle.spk_lattice.specs.declared.place.Place.{Place}
pub use Rattle.spk_lattice.specs.declared.style_row.Point.{Point}
pub use Rattle.spk_lattice.specs.declared.table.Offset.{Offset}
use Rattle.spk_lattice.specs.Styles.{row_of, point}
use Rattle.spk_lattice.specs.Layout.{Layout, basis_of, sites_of}

-- the lattice has this cell, and its cells this basis point
pub record IsSpot (l : Layout) (s : Spot) : Type 0 where
  pub x : s.x < l.nx
  pub y : s.y < l.ny
  pub z : s.z < l.nz
  pub basis : s.basis < basis_of l.style

-- the lattice has a site with this id
pub record IsId (l : Layout) (id : ℕ) : Type 0 where
  pub some : 1 ≤ id
  pub exists : id ≤ sites_of l

-- Sites are counted from 1, through the basis points of a cell, and then the cells along x, y and z.
abbrev pub id_of : Layout → Spot → ℕ
id_of l s = 1 + s.basis + basis_of l.style * (s.x + l.nx * (s.y + l.ny * s.z))

abbrev pub spot_at : Layout → ℕ → Spot
spot_at l place = record {
  x = place / basis_of l.style % l.nx;
  y = place / basis_of l.style / l.nx % l.ny;
  z = place / basis_of l.style / l.nx / l.ny;
  basis = place % basis_of l.style;
}

abbrev pub spot_in : List ℕ → ℕ → Spot
spot_in cell basis = record { x = slice_index cell 0; y = slice_index cell 1; z = slice_index cell 2; basis = basis }

abbrev pub place_of : Spot → Place
place_of s = record { cell = s.x ∷ s.y ∷ s.z ∷ []; basis = s.basis }

-- where a site lies
abbrev pub spot_of : Layout → ℕ → Spot
spot_of l id = spot_at l (id - 1)

-- a basis point of a cell, in half units from the cell's corner
abbrev pub basis_point : Style → ℕ → Point
basis_point style basis = slice_index_or (row_of style).basis basis (point 0 0 0)

-- a site's point, in half units
abbrev pub point_of : Layout → ℕ → Point
point_of l id =
    let s = spot_of l id in
    let b = basis_point l.style s.basis in
    point (2 * s.x + b.x) (2 * s.y + b.y) (2 * s.z + b.z)

abbrev pub coordinates : Point → List ℤ
coordinates p = pos p.x ∷ pos p.y ∷ pos p.z ∷ []

-- How far two points are apart in one dimension, in half units, where their cells are d - 1 apart.
abbrev pub apart : ℕ → ℕ → ℕ → ℕ
apart d there here = (2 * d + there - (2 + here)) + ((2 + here) - (2 * d + there))

abbrev pub distance : Style → ℕ → Offset → Point
distance style basis o =
    let there = basis_point style o.basis in
    let here = basis_point style basis in
    point (apart o.dx there.x here.x) (apart o.dy there.y here.y) (apart o.dz there.z here.z)

abbrev pub same_point : Point → Point → Bool
same_point p q = (p.x == q.x) && (p.y == q.y) && (p.z == q.z)

-- whether an offset from a basis point leads to a neighbour
abbrev pub leads : Style → ℕ → Offset → Bool
leads style basis o = list_any (λ p. same_point p (distance style basis o)) (row_of style).distances

-- The offsets to all basis points of cells that touch, in rising order of (dz, dy, dx, basis)
abbrev pub offset_at : ℕ → ℕ → Offset
offset_at points k = record { dx = k / points % 3; dy = k / points / 3 % 3; dz = k / points / 3 / 3; basis = k % points }

abbrev pub touching : ℕ → List Offset
touching points = map (offset_at points) (range_with_len 0 (27 * points))

-- the offsets of a basis point's neighbours
unfoldable pub offsets : Style → ℕ → List Offset
offsets style basis = filter (leads style basis) (touching (basis_of style))

-- how many neighbours a site has
unfoldable pub degree_of : Style → ℕ
degree_of style = length (offsets style 0)

-- a coordinate after a move by d - 1, where the last cell touches the first
abbrev pub wrapped : ℕ → ℕ → ℕ → ℕ
wrapped x d n = (x + d + n - 1) % n

abbrev pub moved : Layout → Spot → Offset → Spot
moved l s o = record { x = wrapped s.x o.dx l.nx; y = wrapped s.y o.dy l.ny; z = wrapped s.z o.dz l.nz; basis = o.basis }

-- where the neighbours of a site lie
abbrev pub beside : Layout → Spot → List Spot
beside l s = map (moved l s) (offsets l.style s.basis)

-- the ids of a site's neighbours
unfoldable pub nb : Layout → ℕ → List ℕ
nb l id = map (id_of l) (beside l (spot_of l id))

-- the ids that are listed
abbrev pub ids_of : Neighbours → List ℕ
ids_of n = take n.count n.ids
