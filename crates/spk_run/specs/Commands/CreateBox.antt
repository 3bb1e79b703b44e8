-- `create_box`: the box of a region that is a block, with its lattice and the streams of its rank.
use Rattle.std.specs.Prelude.{ℕ, ◌/◌, ◌%◌, Bool, not, ◌&&◌, ◌==◌, nat_lt, int_lt, unsigned_abs, pos, if◌then◌else◌, List, [], ◌∷◌, get_or, Option, Some, None, Result, Ok, Err}
use Rattle.spk_num.specs.declared.decimal.Dec.{Dec}
use Rattle.spk_num.specs.declared.shape.Bound.{Bound}
use Rattle.spk_num.specs.declared.shape.Bound.TheVariants.{At, Open}
use Rattle.spk_num.specs.declared.style.Style.{Style}
use Rattle.spk_lattice.specs.Layout.{Layout, lattice_of, dimensions_of}
use Rattle.spk_lattice.specs.declared.lattice.LatticeFault.{LatticeFault}
use Rattle.spk_run.specs.Causes.{lattice_cause}
use Rattle.spk_run.specs.declared.cause.Cause.{Cause}
use Rattle.spk_run.specs.declared.cause.Cause.TheVariants.{NoSeed, NoApp, NoLattice, NoSuchRegion, BoxNotBlock, BoxNotWhole}
use Rattle.spk_lattice.specs.declared.regions.block.Block.{Block}
use Rattle.spk_lattice.specs.Regions.{place_of, block_named}
use Rattle.spk_run.specs.declared.state.LatticeStyle.{LatticeStyle}
use Rattle.spk_run.specs.declared.domain.Domain.{Domain}
use Rattle.spk_run.specs.declared.state.SessionState.{SessionState}
use Rattle.spk_sched.specs.Turns.{no_counts}
use Rattle.spk_run.specs.States.{first_of, missing, already, error_of}
use Rattle.spk_run.specs.Streams.{streams_of}
use Rattle.spk_sched.specs.Globals.{streams_each}

-- the bounds of a dimension
abbrev pub low : Block → ℕ → Bound
low block dimension = get_or block.lo dimension Open

abbrev pub high : Block → ℕ → Bound
high block dimension = get_or block.hi dimension Open

-- how many cells a dimension of a box has that goes from 0 to a whole number
abbrev pub is_zero : Dec → Bool
is_zero dec = unsigned_abs dec.millionths == 0

abbrev pub is_whole : Dec → Bool
is_whole dec = not (int_lt dec.millionths (pos 0)) && (unsigned_abs dec.millionths % 1000000 == 0)

abbrev pub cells_between : Bound → Bound → Option ℕ
cells_between (At low) (At high) = if is_zero low && is_whole high then Some (unsigned_abs high.millionths / 1000000) else None
cells_between low high = None

abbrev pub lattice_made : Result Layout LatticeFault → Result Layout Cause
lattice_made (Ok layout) = Ok layout
lattice_made (Err fault) = Err (lattice_cause fault)

-- a number of cells in each dimension, or the first in which there is none
abbrev pub layout_by : Style → Option ℕ → Option ℕ → Option ℕ → Result Layout Cause
layout_by style None y z = Err (BoxNotWhole 0)
layout_by style (Some nx) None z = Err (BoxNotWhole 1)
layout_by style (Some nx) (Some ny) None = Err (BoxNotWhole 2)
layout_by style (Some nx) (Some ny) (Some nz) = lattice_made (lattice_of (record { style = style; nx = nx; ny = ny; nz = nz }))

-- a used dimension goes from 0 to a whole number of cells; one that isn't used has one cell, whatever its bounds are
abbrev pub cells_along : Style → Block → ℕ → Option ℕ
cells_along style block dimension =
    if nat_lt dimension (dimensions_of style) then cells_between (low block dimension) (high block dimension) else Some 1

abbrev pub layout_in : Style → Option Block → Result Layout Cause
layout_in style None = Err BoxNotBlock
layout_in style (Some block) = layout_by style (cells_along style block 0) (cells_along style block 1) (cells_along style block 2)

-- the lattice of the box that the region at this place is
abbrev pub box_by : List ℕ → Option LatticeStyle → Option ℕ → Option Block → Result Layout Cause
box_by name None place block = Err NoLattice
box_by name (Some lattice) None block = Err (NoSuchRegion name)
box_by name (Some lattice) (Some place) block = layout_in lattice.style block

unfoldable pub box_of : SessionState → List ℕ → Result Layout Cause
box_of state name = box_by name state.lattice (place_of state.regions name) (block_named state.regions name)

abbrev pub box_cause : SessionState → List ℕ → Option Cause
box_cause state region = first_of (
    missing state.seed NoSeed
    ∷ missing state.app NoApp
    ∷ missing state.lattice NoLattice
    ∷ already state.domain
    ∷ error_of (box_of state region)
    ∷ [])

-- a rank has a stream for each of its 2, 4 or 8 sectors; time and counts begin at 0
abbrev pub new_domain : ℕ → Layout → Domain
new_domain seed layout = record {
  lattice = layout;
  time = 0;
  values = [];
  streams = streams_of seed (streams_each layout) (streams_each layout);
  counts = no_counts;
  sweeps = 0;
}

abbrev pub with_box : SessionState → Option ℕ → Result Layout Cause → SessionState
with_box state (Some seed) (Ok layout) = record state { domain = Some (new_domain seed layout) }
with_box state seed layout = state
