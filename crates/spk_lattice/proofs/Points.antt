-- The points of sites are near enough for regions.
use Rattle.std.proofs.Common.{◌≡◌, ℕ, zero, suc, ◌-◌, ◌/◌, ◌%◌, ◌≤◌, Bool, true, ◌&&◌, List, [], ◌∷◌, refl, arith}
use Rattle.std.specs.Prelude.{nat_le, slice_index_or}
use Rattle.std.specs.List.{list_all}
use Rattle.std.proofs.Math.Nat.{div-le_self, mod-le}
use Rattle.std.proofs.lemmas.Bool.{and_parts, leb-true}
use Rattle.spk_num.specs.declared.style.Style.{Style}
use Rattle.spk_num.specs.declared.style.Style.TheVariants.{Line2, Sq4, Sq8, Tri, Sc6, Sc26, Bcc, Fcc}
use Rattle.spk_lattice.specs.Styles.{Point, point, row_of}
use Rattle.spk_lattice.specs.Layout.{Layout, basis_of}
use Rattle.spk_lattice.specs.Neighbours.{spot_of, basis_point, point_of, coordinates}
use Rattle.spk_lattice.specs.Shapes.{IsPoint}

-- a basis point lies at most half a cell from its corner
abbrev is_small : Point → Bool
is_small p = nat_le p.x 1 && nat_le p.y 1 && nat_le p.z 1

small_at : (points : List Point) (b : ℕ) → list_all is_small points ≡ true → is_small (slice_index_or points b (point 0 0 0)) ≡ true
small_at [] b all = refl
small_at (p ∷ points) zero all = (and_parts (is_small p) (list_all is_small points) all).0
small_at (p ∷ points) (suc b) all = small_at points b (and_parts (is_small p) (list_all is_small points) all).1

small_rows : (style : Style) → list_all is_small (row_of style).basis ≡ true
small_rows Line2 = refl
small_rows Sq4 = refl
small_rows Sq8 = refl
small_rows Tri = refl
small_rows Sc6 = refl
small_rows Sc26 = refl
small_rows Bcc = refl
small_rows Fcc = refl

pub record IsSmall (p : Point) : Type 0 where
  pub x : p.x ≤ 1
  pub y : p.y ≤ 1
  pub z : p.z ≤ 1

small_by : (p : Point) → is_small p ≡ true → IsSmall p
small_by p is =
    let both = and_parts (nat_le p.x 1 && nat_le p.y 1) (nat_le p.z 1) is in
    let two = and_parts (nat_le p.x 1) (nat_le p.y 1) both.0 in
    record { x = leb-true p.x 1 two.0; y = leb-true p.y 1 two.1; z = leb-true p.z 1 both.1 }

pub small_basis : (style : Style) (b : ℕ) → IsSmall (basis_point style b)
small_basis style b = small_by (basis_point style b) (small_at (row_of style).basis b (small_rows style))

below : (n a b : ℕ) → n / a % b ≤ n
below n a b = omega (arith, mod-le (n / a) b, div-le_self n a)

pub point_near : (l : Layout) (id : ℕ) → id ≤ 4194304 → IsPoint (coordinates (point_of l id))
point_near l id few =
    let half = small_basis l.style (spot_of l id).basis in
    let n : ℕ = id - 1 in
    let points : ℕ = basis_of l.style in
    let x : n / points % l.nx ≤ n = below n points l.nx in
    let y : n / points / l.nx % l.ny ≤ n = omega (arith, mod-le (n / points / l.nx) l.ny, div-le_self (n / points) l.nx, div-le_self n points) in
    let z : n / points / l.nx / l.ny ≤ n = omega (arith, div-le_self (n / points / l.nx) l.ny, div-le_self (n / points) l.nx, div-le_self n points) in
    record { x = omega (arith, half.x); y = omega (arith, half.y); z = omega (arith, half.z) }
