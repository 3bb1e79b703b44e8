-- The table by which a lattice finds neighbours.
use Rattle.std.specs.Prelude.{ℕ, ◌+◌, ◌-◌, ◌==◌, Bool, ◌&&◌, ◌||◌, nat_lt, List, [], ◌∷◌, ◌++◌, map, length, replicate, slice_set, pos, ◌-ℤ◌, if◌then◌else◌, filter}
use Rattle.std.specs.List.{range_with_len}
use Rattle.spk_lattice.specs.declared.grid.Spot.{Spot}
use Rattle.spk_lattice.specs.declared.table.Offset.{Offset}
use Rattle.spk_lattice.specs.declared.table.Row.{Row}
use Rattle.spk_lattice.specs.declared.table.Step.{Step}
use Rattle.spk_lattice.specs.Layout.{Layout, basis_of}
use Rattle.spk_lattice.specs.Neighbours.{id_of, offsets, leads, offset_at}

-- an offset as a spot, as seen from one cell before in each dimension
abbrev pub ahead : Offset → Spot
ahead o = record { x = o.dx; y = o.dy; z = o.dz; basis = o.basis }

abbrev pub own : ℕ → Spot
own basis = record { x = 1; y = 1; z = 1; basis = basis }

-- an offset with the neighbour's id minus the site's, where no cell wraps
abbrev pub step_of : Layout → ℕ → Offset → Step
step_of l basis o = record { offset = o; difference = pos (id_of l (ahead o)) -ℤ pos (id_of l (own basis)) }

abbrev pub no_step : Step
no_step = record { offset = record { dx = 0; dy = 0; dz = 0; basis = 0 }; difference = pos 0 }

-- a row with these steps
abbrev pub filled : List Step → Row
filled steps = record { count = length steps; steps = steps ++ replicate (26 - length steps) no_step }

-- a row with one step more
abbrev pub added : Row → Step → Row
added row step = record { count = row.count + 1; steps = slice_set row.steps row.count step }

-- the steps from a basis point to its neighbours, of which one past the last has none
abbrev pub steps_of : Layout → ℕ → List Step
steps_of l basis = if nat_lt basis (basis_of l.style) then map (step_of l basis) (offsets l.style basis) else []

-- the steps among the first offsets
unfoldable pub first_steps : Layout → ℕ → ℕ → ℕ → List Step
first_steps l basis points k = map (step_of l basis) (filter (leads l.style basis) (map (offset_at points) (range_with_len 0 k)))

unfoldable pub row_at : Layout → ℕ → Row
row_at l basis = filled (steps_of l basis)

abbrev pub table_of : Layout → List Row
table_of l = row_at l 0 ∷ row_at l 1 ∷ row_at l 2 ∷ row_at l 3 ∷ []

-- no neighbour of this spot lies across a rim
abbrev pub is_between : ℕ → ℕ → Bool
is_between x n = nat_lt 0 x && nat_lt (x + 1) n

abbrev pub is_inner : Layout → Spot → Bool
is_inner l s = is_between s.x l.nx && ((l.ny == 1) || is_between s.y l.ny) && ((l.nz == 1) || is_between s.z l.nz)
