-- Cells of a patch that has all cells of a lattice, as programs see them and as the lattice counts them.
use Rattle.std.proofs.Common.{◌≡◌, ℕ, ◌+◌, ◌-◌, ◌*◌, ◌<◌, ◌≤◌, IsTrue, List, [], ◌∷◌, length, Fits, w32, w64, to_z, of_z}
use Rattle.std.proofs.Common.{sym, ap, subst, ◌∙◌, rules, arith}
use Rattle.std.specs.Prelude.{ℤ, pos, ◌≤ℤ◌, ◌<ℤ◌, unsigned_abs}
use lib.Dec.{T}
use lib.Signed.{non_neg}
use Rattle.std.proofs.Math.Nat.{mul-le-mul_right}
use Rattle.std.proofs.lemmas.Int.{ints}
use Rattle.spk_lattice.specs.Layout.{Layout, IsLattice, basis_of, sites_of}
use Rattle.spk_lattice.specs.Neighbours.{IsSpot, id_of, spot_at, spot_in}
use Rattle.spk_lattice.specs.Boxes.{place_in}
use Rattle.spk_lattice.proofs.Spots.{IsSized, sized, id_less}
use Rattle.spk_patch.specs.Patches.{PatchSites, IsPatch, IsCell, IsAlong, basis_shown, coordinate, after_first, place_at}
use Rattle.spk_patch.proofs.Whole.{IsWholeAlong, IsWhole, whole, same_ids, size_is, values_are, before, spot_exists, id_back}

-- ---- one dimension

-- a coordinate of one of n cells
pub record IsCoordinate (n : ℕ) (v : ℤ) : Type 0 where
  pub is : v ≡ pos (unsigned_abs v)
  pub less : unsigned_abs v < n

coordinate_is : (n : ℕ) (v : ℤ) → pos 0 ≤ℤ v → v <ℤ pos n → IsCoordinate n v
coordinate_is n v low high = record { is = omega (arith, ints); less = omega (arith, ints) }

along_is : (p : PatchSites) (cell : List ℤ) (dimension n : ℕ)
    → IsWholeAlong p dimension n
    → IsAlong p cell dimension
    → IsCoordinate n (coordinate cell dimension)
along_is p cell dimension n is along =
    let low : pos 0 ≤ℤ coordinate cell dimension = omega (arith, ints, is.from, is.halo, along.low) in
    let high : coordinate cell dimension <ℤ pos n = omega (arith, ints, is.to, is.halo, along.high) in
    coordinate_is n (coordinate cell dimension) low high

after_is : (p : PatchSites) (cell : List ℤ) (dimension n : ℕ)
    → IsWholeAlong p dimension n
    → IsCoordinate n (coordinate cell dimension)
    → after_first p cell dimension ≡ unsigned_abs (coordinate cell dimension)
after_is p cell dimension n is one = omega (arith, ints, is.from, is.halo, one.is)

is_along : (p : PatchSites) (cell : List ℤ) (dimension n x : ℕ)
    → IsWholeAlong p dimension n
    → coordinate cell dimension ≡ pos x
    → x < n
    → IsAlong p cell dimension
is_along p cell dimension n x is at less = record {
  low = omega (arith, ints, is.from, is.halo, at);
  high = omega (arith, ints, is.to, is.halo, at);
}

-- ---- cells

-- a cell of the lattice
pub record IsCellOf (l : Layout) (cell : List ℤ) : Type 0 where
  pub x : IsCoordinate l.nx (coordinate cell 0)
  pub y : IsCoordinate l.ny (coordinate cell 1)
  pub z : IsCoordinate l.nz (coordinate cell 2)

pub cell_is : (p : PatchSites) (cell : List ℤ) → IsWhole p → IsCell p cell → IsCellOf p.lattice cell
cell_is p cell is at = record {
  x = along_is p cell 0 p.lattice.nx is.x at.x;
  y = along_is p cell 1 p.lattice.ny is.y at.y;
  z = along_is p cell 2 p.lattice.nz is.z at.z;
}

-- such a cell, as the lattice counts it
abbrev pub counted : List ℤ → List ℕ
counted cell =
    unsigned_abs (coordinate cell 0) ∷ unsigned_abs (coordinate cell 1) ∷ unsigned_abs (coordinate cell 2) ∷ []

place_is : (p : PatchSites) (cell : List ℤ) (basis : ℕ)
    → IsWhole p
    → IsCellOf p.lattice cell
    → place_at p cell basis ≡ id_of p.lattice (spot_in (counted cell) basis) - 1
place_is p cell basis is at =
    let x : after_first p cell 0 ≡ unsigned_abs (coordinate cell 0) = after_is p cell 0 p.lattice.nx is.x at.x in
    let y : after_first p cell 1 ≡ unsigned_abs (coordinate cell 1) = after_is p cell 1 p.lattice.ny is.y at.y in
    let z : after_first p cell 2 ≡ unsigned_abs (coordinate cell 2) = after_is p cell 2 p.lattice.nz is.z at.z in
    let s = spot_in (counted cell) basis in
    ap (λ (l : Layout). place_in l (after_first p cell 0) (after_first p cell 1) (after_first p cell 2) basis) (size_is p is)
    ∙ ap (λ n. n - 1) (same_ids p.lattice _ _ _ s.x s.y s.z basis x y z)

-- ---- extents are small

grow : (a b : ℕ) → 0 < b → a ≤ b * a
grow a b some =
    let most : 1 * a ≤ b * a = mul-le-mul_right a (omega arith) in
    omega arith

other_order : (a b : ℕ) → a * b ≡ b * a
other_order a b = grind arith

pub record IsSmall (l : Layout) : Type 0 where
  pub x : l.nx ≤ 4194304
  pub y : l.ny ≤ 4194304
  pub z : l.nz ≤ 4194304

factors : (nx ny nz points most : ℕ)
    → 0 < nx
    → 0 < ny
    → 0 < nz
    → 0 < points
    → points * (nx * ny * nz) ≤ most
    → (nx ≤ most) × (ny ≤ most) × (nz ≤ most)
factors nx ny nz points most some_x some_y some_z some_points less =
    let all : nx * ny * nz ≤ most = omega (arith, grow (nx * ny * nz) points some_points) in
    let layer : nx * ny ≤ most = omega (arith, grow (nx * ny) nz some_z, other_order (nx * ny) nz) in
    let x : nx ≤ most = omega (arith, grow nx ny some_y, other_order nx ny) in
    let y : ny ≤ most = omega (arith, grow ny nx some_x) in
    let some_layer : 0 < nx * ny = omega (arith, grow ny nx some_x) in
    let z : nz ≤ most = omega (arith, grow nz (nx * ny) some_layer) in
    (x, y, z)

pub small : (l : Layout) → IsLattice l → IsSmall l
small l is =
    let some : IsSized l = sized l is in
    let most = factors l.nx l.ny l.nz (basis_of l.style) 4194304 some.x some.y some.z some.basis is.limit in
    record { x = most.0; y = most.1; z = most.2 }

-- ---- what programs see

-- a patch as a program holds it, which is a wrapped one
pub record IsHeld (p q : PatchSites) : Type 0 where
  pub same : p ≡ q
  pub patch : IsPatch q
  pub wrapped : IsTrue q.wrapped

whole_held : (p q : PatchSites) → IsHeld p q → IsWhole q
whole_held p q held = whole q held.patch held.wrapped

-- a number after it has been stored in 64 bits
abbrev pub stored : ℤ → ℤ
stored v = to_z w64 (of_z w64 v)

stored_is : (n : ℕ) (v : ℤ) → n ≤ 4194304 → IsCoordinate n v → stored v ≡ pos (unsigned_abs v)
stored_is n v most one = omega (arith, ints, one.is, one.less)

-- a coordinate is not below 0, and fits 32 bits
pub fits : (n : ℕ) (v : ℤ) → n ≤ 4194304 → IsCoordinate n v → T (non_neg (stored v)) × Fits w32 (unsigned_abs (stored v))
fits n v most one =
    let less = one.less in
    rw (stored_is n v most one) (search rules)

abbrev pub stored_cell : List ℤ → List ℤ
stored_cell cell = stored (coordinate cell 0) ∷ stored (coordinate cell 1) ∷ stored (coordinate cell 2) ∷ []

-- ---- the place of a cell

counted_is : (l : Layout) (cell : List ℤ) → IsLattice l → IsCellOf l cell → counted (stored_cell cell) ≡ counted cell
counted_is l cell is at =
    let most : IsSmall l = small l is in
    let x : stored (coordinate cell 0) ≡ pos (unsigned_abs (coordinate cell 0)) = stored_is l.nx _ most.x at.x in
    let y : stored (coordinate cell 1) ≡ pos (unsigned_abs (coordinate cell 1)) = stored_is l.ny _ most.y at.y in
    let z : stored (coordinate cell 2) ≡ pos (unsigned_abs (coordinate cell 2)) = stored_is l.nz _ most.z at.z in
    rw (x, y, z)

cell_exists : (l : Layout) (cell : List ℤ) (basis : ℕ)
    → IsLattice l
    → IsCellOf l cell
    → basis < basis_of l.style
    → IsSpot l (spot_in (counted (stored_cell cell)) basis)
cell_exists l cell basis is at less =
    subst (λ (c : List ℕ). IsSpot l (spot_in c basis)) (sym (counted_is l cell is at))
    (record { x = at.x.less; y = at.y.less; z = at.z.less; basis = less })

pub cell_is_site : (p q : PatchSites) (cell : List ℤ) (basis : ℕ)
    → IsHeld p q
    → IsCell q cell
    → basis < basis_of q.lattice.style
    → IsSpot p.lattice (spot_in (counted (stored_cell cell)) basis)
cell_is_site p q cell basis held at less =
    subst (λ (r : PatchSites). IsSpot r.lattice (spot_in (counted (stored_cell cell)) basis)) (sym held.same)
    (cell_exists q.lattice cell basis held.patch.on (cell_is q cell (whole_held p q held) at) less)

pub id_is_place : (p q : PatchSites) (cell : List ℤ) (basis id : ℕ)
    → IsHeld p q
    → IsCell q cell
    → id ≡ id_of p.lattice (spot_in (counted (stored_cell cell)) basis)
    → id - 1 ≡ place_at q cell basis
id_is_place p q cell basis id held at known =
    let here : IsCellOf q.lattice cell = cell_is q cell (whole_held p q held) at in
    let there : id_of p.lattice (spot_in (counted (stored_cell cell)) basis) ≡ id_of q.lattice (spot_in (counted cell) basis) =
    ap (λ (r : PatchSites). id_of r.lattice (spot_in (counted (stored_cell cell)) basis)) held.same
    ∙ ap (λ (c : List ℕ). id_of q.lattice (spot_in c basis)) (counted_is q.lattice cell held.patch.on here) in
    ap (λ n. n - 1) (known ∙ there) ∙ sym (place_is q cell basis (whole_held p q held) here)

pub place_exists : (p q : PatchSites) (cell : List ℤ) (basis id : ℕ)
    → IsHeld p q
    → IsCell q cell
    → basis < basis_of q.lattice.style
    → id ≡ id_of p.lattice (spot_in (counted (stored_cell cell)) basis)
    → id - 1 < length q.values
place_exists p q cell basis id held at less known =
    let s = spot_in (counted (stored_cell cell)) basis in
    let sites : sites_of q.lattice ≡ sites_of p.lattice = ap (λ (r : PatchSites). sites_of r.lattice) (sym held.same) in
    let count : length q.values ≡ sites_of q.lattice = values_are q held.patch (whole_held p q held) in
    let most : id_of p.lattice s ≤ sites_of p.lattice = id_less p.lattice s (cell_is_site p q cell basis held at less) in
    omega (arith, known, sites, count, most)

-- ---- the cell of a place

-- the cell of the site at a place
pub record IsCellAt (l : Layout) (i : ℕ) (cell : List ℤ) : Type 0 where
  pub x : coordinate cell 0 ≡ pos (spot_at l i).x
  pub y : coordinate cell 1 ≡ pos (spot_at l i).y
  pub z : coordinate cell 2 ≡ pos (spot_at l i).z

stored_at : (l : Layout) (i : ℕ) (cell : List ℤ)
    → IsLattice l
    → i < sites_of l
    → IsCellAt l i cell
    → IsCellAt l i (stored_cell cell)
stored_at l i cell is less at =
    let most : IsSmall l = small l is in
    let spot : IsSpot l (spot_at l i) = spot_exists l i is less in
    record {
      x = omega (arith, ints, at.x, most.x, spot.x);
      y = omega (arith, ints, at.y, most.y, spot.y);
      z = omega (arith, ints, at.z, most.z, spot.z);
    }

-- the id of a site, and where it lies
pub record IsSite (l : Layout) (i : ℕ) (cell : List ℤ) : Type 0 where
  pub exists : i < sites_of l
  pub spot : IsSpot l (spot_at l i)
  pub at : IsCellAt l i (stored_cell cell)

site_of : (p q : PatchSites) (i : ℕ) (cell : List ℤ)
    → IsHeld p q
    → i < length q.values
    → IsCellAt p.lattice (i + 1 - 1) cell
    → IsSite q.lattice i cell
site_of p q i cell held less at =
    let l : Layout = q.lattice in
    let exists : i < sites_of l = omega (arith, less, values_are q held.patch (whole_held p q held)) in
    let there : IsCellAt l (i + 1 - 1) cell = subst (λ (r : PatchSites). IsCellAt r.lattice (i + 1 - 1) cell) held.same at in
    let here : IsCellAt l i cell = subst (λ j. IsCellAt l j cell) (before i) there in
    record {
      exists = exists;
      spot = spot_exists l i held.patch.on exists;
      at = stored_at l i cell held.patch.on exists here;
    }

pub shows_cell : (p q : PatchSites) (i : ℕ) (cell : List ℤ)
    → IsHeld p q
    → i < length q.values
    → IsCellAt p.lattice (i + 1 - 1) cell
    → IsCell q (stored_cell cell)
shows_cell p q i cell held less at =
    let l : Layout = q.lattice in
    let all : IsWhole q = whole_held p q held in
    let site : IsSite l i cell = site_of p q i cell held less at in
    record {
      x = is_along q (stored_cell cell) 0 l.nx (spot_at l i).x all.x site.at.x site.spot.x;
      y = is_along q (stored_cell cell) 1 l.ny (spot_at l i).y all.y site.at.y site.spot.y;
      z = is_along q (stored_cell cell) 2 l.nz (spot_at l i).z all.z site.at.z site.spot.z;
    }

pub shows_place : (p q : PatchSites) (i : ℕ) (cell : List ℤ)
    → IsHeld p q
    → i < length q.values
    → IsCellAt p.lattice (i + 1 - 1) cell
    → place_at q (stored_cell cell) (basis_shown q i) ≡ i
shows_place p q i cell held less at =
    let l : Layout = q.lattice in
    let all : IsWhole q = whole_held p q held in
    let site : IsSite l i cell = site_of p q i cell held less at in
    let s = spot_at l i in
    let x : unsigned_abs (stored (coordinate cell 0)) ≡ s.x = ap unsigned_abs site.at.x in
    let y : unsigned_abs (stored (coordinate cell 1)) ≡ s.y = ap unsigned_abs site.at.y in
    let z : unsigned_abs (stored (coordinate cell 2)) ≡ s.z = ap unsigned_abs site.at.z in
    let id : id_of l (spot_in (counted (stored_cell cell)) (basis_shown q i)) ≡ id_of l s =
    same_ids l _ _ _ s.x s.y s.z (basis_shown q i) x y z in
    let known : IsCellOf l (stored_cell cell) = cell_is q (stored_cell cell) all (shows_cell p q i cell held less at) in
    place_is q (stored_cell cell) (basis_shown q i) all known ∙ omega (arith, id, id_back l i site.exists)
