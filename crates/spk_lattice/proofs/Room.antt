-- Ids and all parts of them are small.
use Rattle.std.proofs.Common.{◌≡◌, ℕ, zero, suc, ◌+◌, ◌-◌, ◌*◌, ◌<◌, ◌≤◌, sym, subst, arith}
use Rattle.spk_lattice.specs.Layout.{Layout, IsLattice, basis_of, sites_of}
use Rattle.spk_lattice.specs.Neighbours.{Spot, IsSpot, id_of}
use Rattle.spk_lattice.proofs.Spots.{IsSized, sized, id_less, basis_small}

grow : (a b : ℕ) → 0 < b → a ≤ a * b
grow a zero some = absurd (omega arith)
grow a (suc k) some = let e : a * suc k ≡ a * k + a = grind arith in omega (arith, e)

grow_left : (a b : ℕ) → 0 < b → a ≤ b * a
grow_left a b some = let e : b * a ≡ a * b = grind arith in omega (arith, e, grow a b some)

pub wide : (a b c : ℕ) → b ≤ c → a * b ≤ a * c
wide a b c less =
    let e : a * c ≡ a * b + a * (c - b) = (let split : c ≡ b + (c - b) = omega arith in subst (λ w. a * w ≡ a * b + a * (c - b)) (sym split) (grind arith)) in
    omega (arith, e)

-- an id, and what its formula takes together on the way
pub record IsSmall (points nx ny x y z b most : ℕ) : Type 0 where
  pub beside : ny * z ≤ most
  pub row : y + ny * z ≤ most
  pub rows : nx * (y + ny * z) ≤ most
  pub cell : x + nx * (y + ny * z) ≤ most
  pub cells : points * (x + nx * (y + ny * z)) ≤ most
  pub id : 1 + b + points * (x + nx * (y + ny * z)) ≤ most

pub small : (points nx ny x y z b most : ℕ) → 0 < points → 0 < nx → 1 + b + points * (x + nx * (y + ny * z)) ≤ most → IsSmall points nx ny x y z b most
small points nx ny x y z b most some_points some_x id =
    let cells : points * (x + nx * (y + ny * z)) ≤ most = omega arith in
    let cell : x + nx * (y + ny * z) ≤ most = omega (arith, grow_left (x + nx * (y + ny * z)) points some_points) in
    let rows : nx * (y + ny * z) ≤ most = omega arith in
    let row : y + ny * z ≤ most = omega (arith, grow_left (y + ny * z) nx some_x) in
    record {
      beside = omega arith;
      row = row;
      rows = rows;
      cell = cell;
      cells = cells;
      id = id;
    }

pub spot_small : (l : Layout) (points : ℕ) (s : Spot) → IsLattice l → basis_of l.style ≡ points → IsSpot l s → IsSmall points l.nx l.ny s.x s.y s.z s.basis 4194304
spot_small l points s lattice is spot =
    let fine : IsSized l = sized l lattice in
    let less : id_of l s ≤ sites_of l = id_less l s spot in
    subst (λ w. IsSmall w l.nx l.ny s.x s.y s.z s.basis 4194304) is
    (small (basis_of l.style) l.nx l.ny s.x s.y s.z s.basis 4194304 fine.basis fine.x (omega (arith, less, lattice.limit)))

-- how many sites stand in a cell, a row and a layer
levels : (points nx ny nz most : ℕ) → 0 < nz → 0 < ny → points * (nx * ny * nz) ≤ most → (points * (nx * ny) ≤ most) × (points * nx ≤ most)
levels points nx ny nz most some_z some_y less =
    let layer : points * (nx * ny) ≤ points * (nx * ny * nz) = wide points (nx * ny) (nx * ny * nz) (grow (nx * ny) nz some_z) in
    let row : points * nx ≤ points * (nx * ny) = wide points nx (nx * ny) (grow nx ny some_y) in
    (omega (arith, layer), omega (arith, layer, row))

pub ahead_small : (l : Layout) (points x y z b : ℕ) → IsLattice l → basis_of l.style ≡ points → x < 3 → y < 3 → z < 3 → b < 4 → IsSmall points l.nx l.ny x y z b 20000000
ahead_small l points x y z b lattice is x_less y_less z_less b_less =
    let fine : IsSized l = sized l lattice in
    let p : ℕ = basis_of l.style in
    let most = levels p l.nx l.ny l.nz 4194304 fine.z fine.y lattice.limit in
    let row : y + l.ny * z ≤ 2 + l.ny * 2 = omega (arith, wide l.ny z 2 (omega arith)) in
    let cell : x + l.nx * (y + l.ny * z) ≤ 2 + l.nx * (2 + l.ny * 2) = omega (arith, wide l.nx (y + l.ny * z) (2 + l.ny * 2) row) in
    let cells : p * (x + l.nx * (y + l.ny * z)) ≤ p * (2 + l.nx * (2 + l.ny * 2)) = wide p (x + l.nx * (y + l.ny * z)) (2 + l.nx * (2 + l.ny * 2)) cell in
    let split : p * (2 + l.nx * (2 + l.ny * 2)) ≡ 2 * p + 2 * (p * l.nx) + 2 * (p * (l.nx * l.ny)) = grind arith in
    subst (λ w. IsSmall w l.nx l.ny x y z b 20000000) is
    (small p l.nx l.ny x y z b 20000000 fine.basis fine.x (omega (arith, cells, split, most.0, most.1, basis_small l.style)))
