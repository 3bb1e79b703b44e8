-- Sites by which neighbours are found one after another.
use Rattle.std.specs.Prelude.{◌≡◌}
pub use Rattle.spk_lattice.specs.declared.reach.Site.{Site}
use Rattle.spk_lattice.specs.Layout.{Layout}
use Rattle.spk_lattice.specs.Neighbours.{IsId, spot_of}
use Rattle.spk_lattice.specs.Table.{is_inner}

-- a site of the lattice, where it lies, and whether no neighbour lies across a rim
pub record IsSite (l : Layout) (s : Site) : Type 0 where
  pub exists : IsId l s.id
  pub spot : s.spot ≡ spot_of l s.id
  pub inner : s.inner ≡ is_inner l s.spot
