-- The sites of a sector of a patch that has all cells of its lattice.
use Rattle.std.proofs.Common.{◌≡◌, ℕ, ◌≤◌, IsTrue, sym, ap, arith}
use Rattle.std.specs.Prelude.{ℤ, pos, unsigned_abs, slice_index_or}
use Rattle.std.proofs.lemmas.Int.{ints}
use Rattle.spk_lattice.specs.declared.cells.Cells.{Cells}
use Rattle.spk_lattice.specs.Boxes.{box_of_cells, cells_of, interval_at}
use Rattle.spk_patch.specs.Patches.{PatchSites, IsPatch}
use Rattle.spk_patch.proofs.Whole.{IsWholeAlong, IsWhole, whole}
use Rattle.spk_patch.proofs.Coordinates.{IsSmall, small, stored}
use Rattle.spk_turn.specs.Sectors.{IsPart, IsOwn}

-- a coordinate of a sector, after it has been stored in 64 bits
pub record IsStored (v : ℤ) : Type 0 where
  pub is : unsigned_abs (stored v) ≡ unsigned_abs v
  pub few : unsigned_abs (stored v) ≤ 4194304

is_stored : (v : ℤ) → v ≡ pos (unsigned_abs v) → unsigned_abs v ≤ 4194304 → IsStored v
is_stored v is few = record { is = omega (arith, ints, is, few); few = omega (arith, ints, is, few) }

pub record AreStored (cells : Cells) (dimension : ℕ) : Type 0 where
  pub lo : IsStored (slice_index_or cells.lo dimension (pos 0))
  pub hi : IsStored (slice_index_or cells.hi dimension (pos 0))

are_stored : (p : PatchSites) (cells : Cells) (dimension n : ℕ)
    → IsWholeAlong p dimension n
    → n ≤ 4194304
    → IsPart (interval_at p.own dimension) (interval_at cells dimension)
    → slice_index_or cells.lo dimension (pos 0) ≡ pos (interval_at cells dimension).from
    → slice_index_or cells.hi dimension (pos 0) ≡ pos (interval_at cells dimension).to
    → AreStored cells dimension
are_stored p cells dimension n is few part lo hi =
    let high : (interval_at cells dimension).to ≤ 4194304 = omega (arith, is.to, few, part.high) in
    let low : (interval_at cells dimension).from ≤ 4194304 = omega (arith, high, part.ordered) in
    record { lo = is_stored (slice_index_or cells.lo dimension (pos 0)) lo low; hi = is_stored (slice_index_or cells.hi dimension (pos 0)) hi high }

pub record IsStoredBox (cells : Cells) : Type 0 where
  pub x : AreStored cells 0
  pub y : AreStored cells 1
  pub z : AreStored cells 2

pub stored_box : (p : PatchSites) (cells : Cells) → IsPatch p → IsTrue p.wrapped → IsOwn p cells → IsStoredBox cells
stored_box p cells patch wrapped own =
    let is : IsWhole p = whole p patch wrapped in
    let few : IsSmall p.lattice = small p.lattice patch.on in
    let at : cells ≡ cells_of (box_of_cells cells) = sym own.is in
    record {
      x = are_stored p cells 0 p.lattice.nx is.x few.x own.x (ap (λ (c : Cells). slice_index_or c.lo 0 (pos 0)) at) (ap (λ (c : Cells). slice_index_or c.hi 0 (pos 0)) at);
      y = are_stored p cells 1 p.lattice.ny is.y few.y own.y (ap (λ (c : Cells). slice_index_or c.lo 1 (pos 0)) at) (ap (λ (c : Cells). slice_index_or c.hi 1 (pos 0)) at);
      z = are_stored p cells 2 p.lattice.nz is.z few.z own.z (ap (λ (c : Cells). slice_index_or c.lo 2 (pos 0)) at) (ap (λ (c : Cells). slice_index_or c.hi 2 (pos 0)) at);
    }
