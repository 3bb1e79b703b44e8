-- Which lattices there are: a style and its extents, modelled on SPPARKS's lattices. The limits are our own.
use Rattle.std.specs.Prelude.{◌≡◌, ℕ, ◌*◌, ◌≤◌, Bool, ◌&&◌, if◌then◌else◌, nat_lt, length, Result, Ok, Err}
use Rattle.spk_num.specs.declared.style.Style.{Style}
use Rattle.spk_lattice.specs.Styles.{row_of}
use Rattle.spk_lattice.specs.declared.lattice.LatticeFault.{LatticeFault}
use Rattle.spk_lattice.specs.declared.lattice.LatticeFault.TheVariants.{TooSmall, TooManySites}

-- a style, and how many cells there are in each dimension
pub record Layout : Type 0 where
  pub style : Style
  pub nx : ℕ
  pub ny : ℕ
  pub nz : ℕ

-- how many dimensions are used: x alone, x and y, or all three
abbrev pub dimensions_of : Style → ℕ
dimensions_of style = (row_of style).dimensions

-- how many sites a cell has
abbrev pub basis_of : Style → ℕ
basis_of style = length (row_of style).basis

abbrev pub sites_of : Layout → ℕ
sites_of layout = basis_of layout.style * (layout.nx * layout.ny * layout.nz)

-- used dimensions have at least 3 cells, the others one, and there are at most 4194304 sites
pub record IsLattice (layout : Layout) : Type 0 where
  pub along_x : 3 ≤ layout.nx
  pub along_y : 2 ≤ dimensions_of layout.style → 3 ≤ layout.ny
  pub along_z : 3 ≤ dimensions_of layout.style → 3 ≤ layout.nz
  pub flat_y : dimensions_of layout.style ≤ 1 → layout.ny ≡ 1
  pub flat_z : dimensions_of layout.style ≤ 2 → layout.nz ≡ 1
  pub limit : sites_of layout ≤ 4194304

-- a used dimension, counted from 0, has fewer than 3 cells
abbrev pub is_small : Layout → ℕ → ℕ → Bool
is_small layout dimension cells = nat_lt dimension (dimensions_of layout.style) && nat_lt cells 3

-- the lattice of a layout, or the first fault: a used dimension that is too small, and then too many sites
abbrev pub lattice_of : Layout → Result Layout LatticeFault
lattice_of layout =
    if is_small layout 0 layout.nx then Err (TooSmall 0)
    else (if is_small layout 1 layout.ny then Err (TooSmall 1)
    else (if is_small layout 2 layout.nz then Err (TooSmall 2)
    else (if nat_lt 4194304 (sites_of layout) then Err TooManySites
    else Ok layout)))
