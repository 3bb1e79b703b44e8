-- Patches: the cells of a rank with a halo around them, after the report SAND2009-6226, and the values of their sites. The
-- places of a patch stand in raster order: through the basis points of a cell, and then the cells along x, y and z.
use Rattle.std.specs.Prelude.{ℕ, ◌+◌, ◌-◌, ◌*◌, ◌%◌, ◌≤◌, ◌≡◌, Bool, IsTrue, not, ◌&&◌, ◌||◌, nat_lt, if◌then◌else◌}
use Rattle.std.specs.Prelude.{List, [], ◌∷◌, ◌++◌, map, length, slice_index, slice_index_or}
use Rattle.std.specs.Prelude.{ℤ, pos, ◌+ℤ◌, ◌-ℤ◌, ◌≤ℤ◌, ◌<ℤ◌, unsigned_abs}
use Rattle.std.specs.List.{range_with_len}
use Rattle.spk_lattice.specs.Layout.{Layout, IsLattice, basis_of, dimensions_of, sites_of}
use Rattle.spk_lattice.specs.Neighbours.{spot_at}
use Rattle.spk_lattice.specs.Table.{is_between}
use Rattle.spk_lattice.specs.declared.cells.Cells.{Cells}
use Rattle.spk_lattice.specs.Boxes.{Interval, CellBox, layout_of, place_in, shown_at, hops_from}
use Rattle.spk_lattice.specs.Boxes.{whole_box, interval_at, box_of_cells, IsBoxOf}
use Rattle.spk_app.specs.Sights.{Sight}
use Rattle.spk_app.specs.PlainViews.{frame_of, places_beside}

-- A patch is of a lattice. It has a box of the lattice's cells and a halo of so many cells around it. Where it is wrapped, it
-- has all cells and no halo, and its last cells touch the first.
pub record PatchSites : Type 0 where
  pub lattice : Layout
  pub own : Cells
  pub halo : ℕ
  pub wrapped : Bool
  pub values : List ℕ

-- the halo lies along the dimensions that the lattice uses
abbrev pub halo_along : PatchSites → ℕ → ℕ
halo_along p dimension = if nat_lt dimension (dimensions_of p.lattice.style) then p.halo else 0

-- The cells along a dimension, the halo among them. They are counted from two lattices before the first here, so that none is
-- below 0.
abbrev pub around_along : PatchSites → ℕ → ℕ → Interval
around_along p dimension n = record {
  from = 2 * n + (interval_at p.own dimension).from - halo_along p dimension;
  to = 2 * n + (interval_at p.own dimension).to + halo_along p dimension;
}

abbrev pub around : PatchSites → CellBox
around p = record { x = around_along p 0 p.lattice.nx; y = around_along p 1 p.lattice.ny; z = around_along p 2 p.lattice.nz }

-- the cells of a patch, as those of a lattice of their own
abbrev pub size_of : PatchSites → Layout
size_of p = layout_of p.lattice (around p)

abbrev pub place_count : PatchSites → ℕ
place_count p = sites_of (size_of p)

-- the place, in the lattice, of the site that a place shows
abbrev pub shown_by : PatchSites → ℕ → ℕ
shown_by p place = shown_at p.lattice (around p) place

-- what a patch holds that shows these values of the lattice's sites
unfoldable pub showing : PatchSites → List ℕ → List ℕ
showing p values = map (λ place. slice_index values (shown_by p place)) (range_with_len 0 (place_count p))

-- where the cells begin along a dimension, counted from the lattice's first
abbrev pub first_along : PatchSites → ℕ → ℤ
first_along p dimension = pos (interval_at p.own dimension).from -ℤ pos (halo_along p dimension)

-- a cell of the patch, counted so
abbrev pub cell_shown : PatchSites → ℕ → List ℤ
cell_shown p place =
    let s = spot_at (size_of p) place in
    (first_along p 0 +ℤ pos s.x) ∷ (first_along p 1 +ℤ pos s.y) ∷ (first_along p 2 +ℤ pos s.z) ∷ []

abbrev pub basis_shown : PatchSites → ℕ → ℕ
basis_shown p place = place % basis_of p.lattice.style

abbrev pub coordinate : List ℤ → ℕ → ℤ
coordinate cell dimension = slice_index_or cell dimension (pos 0)

-- the patch has these cells along a dimension
pub record IsAlong (p : PatchSites) (cell : List ℤ) (dimension : ℕ) : Type 0 where
  pub low : first_along p dimension ≤ℤ coordinate cell dimension
  pub high : coordinate cell dimension <ℤ (pos (interval_at p.own dimension).to +ℤ pos (halo_along p dimension))

pub record IsCell (p : PatchSites) (cell : List ℤ) : Type 0 where
  pub x : IsAlong p cell 0
  pub y : IsAlong p cell 1
  pub z : IsAlong p cell 2

-- how many cells after the patch's first a cell lies
abbrev pub after_first : PatchSites → List ℤ → ℕ → ℕ
after_first p cell dimension = unsigned_abs (coordinate cell dimension -ℤ first_along p dimension)

-- the place of a basis point of a cell
abbrev pub place_at : PatchSites → List ℤ → ℕ → ℕ
place_at p cell basis = place_in (size_of p) (after_first p cell 0) (after_first p cell 1) (after_first p cell 2) basis

-- the places beside a place
abbrev pub near_of : PatchSites → ℕ → List ℕ
near_of p place = if p.wrapped then places_beside p.lattice place else hops_from (size_of p) place

-- the cells along a dimension reach to both sides of this one
abbrev pub is_inside_along : PatchSites → ℕ → ℕ → ℕ → Bool
is_inside_along p dimension x n = not (nat_lt dimension (dimensions_of p.lattice.style)) || is_between x n

-- all neighbours of a place are in the patch
abbrev pub is_whole : PatchSites → ℕ → Bool
is_whole p place =
    let s = spot_at (size_of p) place in
    p.wrapped
    || (is_inside_along p 0 s.x (size_of p).nx && is_inside_along p 1 s.y (size_of p).ny
    && is_inside_along p 2 s.z (size_of p).nz)

abbrev pub sight_of : PatchSites → Sight
sight_of p = record { values = p.values; near = near_of p }

abbrev pub number_of : Bool → ℕ
number_of b = if b then 1 else 0

-- what a patch was made with, as a list of numbers: the lattice, the box, the halo, and whether it is wrapped
abbrev pub patch_frame : PatchSites → List ℕ
patch_frame p =
    frame_of p.lattice ++ map unsigned_abs p.own.lo ++ map unsigned_abs p.own.hi ++ (p.halo ∷ number_of p.wrapped ∷ [])

pub record IsPatch (p : PatchSites) : Type 0 where
  pub on : IsLattice p.lattice
  pub own : IsBoxOf p.lattice p.own
  pub halo : p.halo ≤ 4
  pub all : IsTrue p.wrapped → box_of_cells p.own ≡ whole_box p.lattice
  pub no_halo : IsTrue p.wrapped → p.halo ≡ 0
  pub filled : length p.values ≡ place_count p
