-- How the cells of a lattice are given to ranks, and those of a rank to sectors, after the report SAND2009-6226. The order of
-- ranks and sectors is our own rule.
use Rattle.std.specs.Prelude.{◌≡◌, ℕ, ◌+◌, ◌*◌, ◌/◌, ◌%◌, ◌^◌, ◌<◌, ◌≤◌, ◌==◌, nat_lt, Bool, false, ◌&&◌, if◌then◌else◌, not, List, [], ◌∷◌, slice_index, slice_index_or, Result, Ok, Err}
use Rattle.spk_lattice.specs.Layout.{Layout, IsLattice, dimensions_of}
use Rattle.spk_lattice.specs.Boxes.{Interval, CellBox}
use Rattle.spk_sched.specs.declared.part.Part.{Part}
use Rattle.spk_sched.specs.declared.part.Part.TheVariants.{Whole, Lower, Upper}
use Rattle.spk_sched.specs.Rings.{cut, part_from, part_to, part, IsInWide, IsRing}
use Rattle.spk_sched.specs.declared.grid.GridFault.{GridFault}
use Rattle.spk_sched.specs.declared.grid.GridFault.TheVariants.{TooManyRanks, FlatDimension}

-- a number in each dimension
pub record Triple : Type 0 where
  pub x : ℕ
  pub y : ℕ
  pub z : ℕ

abbrev pub list_of : Triple → List ℕ
list_of t = t.x ∷ t.y ∷ t.z ∷ []

abbrev pub triple_of : List ℕ → Triple
triple_of xs = record { x = slice_index xs 0; y = slice_index xs 1; z = slice_index xs 2 }

-- a lattice, and how many ranks there are along each dimension
pub record RankGrid : Type 0 where
  pub lattice : Layout
  pub ranks : Triple

abbrev pub rank_count : Triple → ℕ
rank_count ranks = ranks.x * ranks.y * ranks.z

-- there is a rank in each dimension, there are 64 at most, and one in each dimension that isn't used
pub record IsGrid (grid : RankGrid) : Type 0 where
  pub on : IsLattice grid.lattice
  pub along_x : 1 ≤ grid.ranks.x
  pub along_y : 1 ≤ grid.ranks.y
  pub along_z : 1 ≤ grid.ranks.z
  pub limit : rank_count grid.ranks ≤ 64
  pub flat_y : dimensions_of grid.lattice.style ≤ 1 → grid.ranks.y ≡ 1
  pub flat_z : dimensions_of grid.lattice.style ≤ 2 → grid.ranks.z ≡ 1

-- a dimension, counted from 0, is one of those that a lattice uses
abbrev pub is_used : Layout → ℕ → Bool
is_used lattice dimension = nat_lt dimension (dimensions_of lattice.style)

-- several ranks stand along a dimension that isn't used
abbrev pub is_flat : Layout → ℕ → ℕ → Bool
is_flat lattice dimension ranks = not (is_used lattice dimension) && nat_lt 1 ranks

-- the grid of ranks on a lattice, or the first fault
abbrev pub grid_of : Layout → Triple → Result RankGrid GridFault
grid_of lattice ranks =
    if nat_lt 64 (rank_count ranks) then Err TooManyRanks
    else (if is_flat lattice 1 ranks.y then Err (FlatDimension 1)
    else (if is_flat lattice 2 ranks.z then Err (FlatDimension 2)
    else Ok (record { lattice = lattice; ranks = ranks })))

-- a grid of ranks, and whether each rank's box is halved along each used dimension
pub record Decomposition : Type 0 where
  pub grid : RankGrid
  pub halved : Bool

-- one rank that has all cells, and one sector that has them too
abbrev pub whole_of : RankGrid → Decomposition
whole_of grid = record { grid = grid; halved = false }

abbrev pub sector_count : Decomposition → ℕ
sector_count d = if d.halved then 2 ^ dimensions_of d.grid.lattice.style else 1

-- ranks are counted along x, y and z
abbrev pub rank_at : Triple → ℕ → Triple
rank_at ranks rank = record { x = rank % ranks.x; y = rank / ranks.x % ranks.y; z = rank / ranks.x / ranks.y }

-- A bit of the sector's number for each used dimension says which half the sector has.
abbrev pub half_of : ℕ → ℕ → Part
half_of sector dimension = if sector / 2 ^ dimension % 2 == 0 then Lower else Upper

abbrev pub part_of : Decomposition → ℕ → ℕ → Part
part_of d sector dimension = if d.halved && is_used d.grid.lattice dimension then half_of sector dimension else Whole

-- the box of a rank, by the parts of its intervals along x, y and z
abbrev pub box_of_parts : RankGrid → ℕ → List Part → CellBox
box_of_parts grid rank parts =
    let at = rank_at grid.ranks rank in
    record {
      x = part grid.lattice.nx grid.ranks.x (slice_index_or parts 0 Whole) at.x;
      y = part grid.lattice.ny grid.ranks.y (slice_index_or parts 1 Whole) at.y;
      z = part grid.lattice.nz grid.ranks.z (slice_index_or parts 2 Whole) at.z;
    }

abbrev pub rank_box : Decomposition → ℕ → CellBox
rank_box d rank = box_of_parts d.grid rank (Whole ∷ Whole ∷ Whole ∷ [])

abbrev pub sector_box : Decomposition → ℕ → ℕ → CellBox
sector_box d rank sector = box_of_parts d.grid rank (part_of d sector 0 ∷ part_of d sector 1 ∷ part_of d sector 2 ∷ [])

-- a dimension of n cells and p ranks, the part on which the ranks work, and how far a turn reads and writes beyond it
pub record Axis : Type 0 where
  pub n : ℕ
  pub p : ℕ
  pub part : Part
  pub prop : ℕ
  pub step : ℕ

pub record IsAxis (axis : Axis) : Type 0 where
  pub cells : 0 < axis.n
  pub ranks : 0 < axis.p
  pub ring : IsRing axis.n axis.p (axis.prop + axis.step) (cut axis.n axis.p) (part_from axis.n axis.p axis.part) (part_to axis.n axis.p axis.part)

pub record Axes : Type 0 where
  pub x : Axis
  pub y : Axis
  pub z : Axis

-- a turn reads and writes nothing beyond the sector along a dimension that isn't used
abbrev pub beyond : Decomposition → ℕ → ℕ → ℕ
beyond d dimension hops = if is_used d.grid.lattice dimension then hops else 0

abbrev pub axis_of : Decomposition → ℕ → ℕ → ℕ → ℕ → ℕ → ℕ → Axis
axis_of d prop step sector dimension n p = record { n = n; p = p; part = part_of d sector dimension; prop = beyond d dimension prop; step = beyond d dimension step }

-- the dimensions of a step in which all ranks work on this sector, for events that read and write so many hops far
abbrev pub axes_of : Decomposition → ℕ → ℕ → ℕ → Axes
axes_of d prop step sector = record {
  x = axis_of d prop step sector 0 d.grid.lattice.nx d.grid.ranks.x;
  y = axis_of d prop step sector 1 d.grid.lattice.ny d.grid.ranks.y;
  z = axis_of d prop step sector 2 d.grid.lattice.nz d.grid.ranks.z;
}

-- Cells and ranks are counted from two lattices before the first here, so that no box begins below 0.
abbrev pub interval_of : Axis → Part → ℕ → Interval
interval_of axis which rank = part axis.n axis.p which (axis.p + axis.p + rank)

abbrev pub ReadsAlong : Axis → ℕ → ℕ → Type 0
ReadsAlong axis rank cell = IsInWide axis.prop (interval_of axis axis.part rank) cell

abbrev pub WritesAlong : Axis → ℕ → ℕ → Type 0
WritesAlong axis rank cell = IsInWide axis.step (interval_of axis axis.part rank) cell

-- what a rank sees: its own interval and a halo
abbrev pub ViewsAlong : Axis → ℕ → ℕ → Type 0
ViewsAlong axis rank cell = IsInWide axis.prop (interval_of axis Whole rank) cell

-- what holds along each dimension, of a rank and a cell
pub record Each (Along : Axis → ℕ → ℕ → Type 0) (axes : Axes) (rank cell : Triple) : Type 0 where
  pub x : Along axes.x rank.x cell.x
  pub y : Along axes.y rank.y cell.y
  pub z : Along axes.z rank.z cell.z

abbrev pub Reads : Axes → Triple → Triple → Type 0
Reads axes rank cell = Each ReadsAlong axes rank cell

abbrev pub Writes : Axes → Triple → Triple → Type 0
Writes axes rank cell = Each WritesAlong axes rank cell

abbrev pub Views : Axes → Triple → Triple → Type 0
Views axes rank cell = Each ViewsAlong axes rank cell
