-- Spots and ids, and cells that wrap.
use Rattle.std.proofs.Common.{◌≡◌, ℕ, zero, suc, ◌+◌, ◌-◌, ◌*◌, ◌/◌, ◌%◌, ◌<◌, ◌≤◌, ◌⊎◌, inl, inr, refl, ap, ◌∙◌, arith}
use Rattle.std.proofs.Math.Nat.{mod-eq_of_lt, mod_self, add-mod_right, mod-lt, div-add-mod', mul-le-mul_right, div-lt_iff_lt-mul}
use Rattle.std.proofs.lemmas.Nat.{mod-mul-add, div-mul-add}
use Rattle.spk_num.specs.declared.style.Style.{Style}
use Rattle.spk_num.specs.declared.style.Style.TheVariants.{Line2, Sq4, Sq8, Tri, Sc6, Sc26, Bcc, Fcc}
use Rattle.spk_lattice.specs.Layout.{Layout, IsLattice, basis_of, dimensions_of, sites_of}
use Rattle.spk_lattice.specs.Neighbours.{Spot, IsSpot, IsId, id_of, spot_at, spot_of, wrapped}

-- one step of the wrapping, by cases
pub back_inside : (n x : ℕ) → 0 < x → x < n → wrapped x 0 n ≡ x - 1
back_inside n x above less =
    let is : x + 0 + n - 1 ≡ (x - 1) + n = omega arith in
    rw (is, add-mod_right (x - 1) n) (mod-eq_of_lt (omega arith))

back_first : (n : ℕ) → 0 < n → wrapped 0 0 n ≡ n - 1
back_first n some =
    let is : 0 + 0 + n - 1 ≡ n - 1 = omega arith in
    let less : n - 1 < n = omega arith in
    rw is (mod-eq_of_lt less)

pub wrapped_stays : (n x : ℕ) → x < n → wrapped x 1 n ≡ x
wrapped_stays n x less =
    let is : x + 1 + n - 1 ≡ x + n = omega arith in
    rw (is, add-mod_right x n) (mod-eq_of_lt less)

pub on_inside : (n x : ℕ) → x + 1 < n → wrapped x 2 n ≡ x + 1
on_inside n x less =
    let is : x + 2 + n - 1 ≡ (x + 1) + n = omega arith in
    rw (is, add-mod_right (x + 1) n) (mod-eq_of_lt less)

on_last : (n x : ℕ) → x + 1 ≡ n → wrapped x 2 n ≡ 0
on_last n x last =
    let is : x + 2 + n - 1 ≡ n + n = omega arith in
    rw (is, add-mod_right n n) (mod_self n)

-- there and back
pub wrapped_back : (n x d : ℕ) → x < n → d < 3 → wrapped (wrapped x d n) (2 - d) n ≡ x
wrapped_back n zero zero less small =
    rw (back_first n less) (on_last n (n - 1) (omega arith))
wrapped_back n (suc x) zero less small =
    let is : suc x - 1 ≡ x = omega arith in
    rw (back_inside n (suc x) (omega arith) less, is) (on_inside n x (omega arith) ∙ (let e : x + 1 ≡ suc x = omega arith in e))
wrapped_back n x (suc zero) less small = rw (wrapped_stays n x less) (wrapped_stays n x less)
wrapped_back n x (suc (suc zero)) less small =
    let cases : (x + 1 < n) ⊎ (x + 1 ≡ n) = grind arith in
    elim cases [
      | inl inside ↦ rw (on_inside n x inside) (back_inside n (x + 1) (omega arith) inside ∙ (let e : x + 1 - 1 ≡ x = omega arith in e))
      | inr last ↦ rw (on_last n x last) (back_first n (omega arith) ∙ (let e : n - 1 ≡ x = omega arith in e))
    ]
wrapped_back n x (suc (suc (suc d))) less small = absurd (omega arith)

pub wrapped_less : (n x d : ℕ) → 0 < n → wrapped x d n < n
wrapped_less n x d some = mod-lt (x + d + n - 1) some

-- away from the rim nothing wraps
pub wrapped_inside : (n x d : ℕ) → 0 < x → x + 1 < n → d < 3 → wrapped x d n + 1 ≡ x + d
wrapped_inside n x zero above below small =
    let is : wrapped x 0 n ≡ x - 1 = back_inside n x above (omega arith) in
    omega (arith, is)
wrapped_inside n x (suc zero) above below small =
    let is : wrapped x 1 n ≡ x = wrapped_stays n x (omega arith) in
    omega (arith, is)
wrapped_inside n x (suc (suc zero)) above below small =
    let is : wrapped x 2 n ≡ x + 1 = on_inside n x below in
    omega (arith, is)
wrapped_inside n x (suc (suc (suc d))) above below small = absurd (omega arith)

-- a cell in each dimension
pub record IsSized (l : Layout) : Type 0 where
  pub x : 0 < l.nx
  pub y : 0 < l.ny
  pub z : 0 < l.nz
  pub basis : 0 < basis_of l.style

pub some_basis : (style : Style) → 0 < basis_of style
some_basis Line2 = omega arith
some_basis Sq4 = omega arith
some_basis Sq8 = omega arith
some_basis Tri = omega arith
some_basis Sc6 = omega arith
some_basis Sc26 = omega arith
some_basis Bcc = omega arith
some_basis Fcc = omega arith

pub basis_small : (style : Style) → basis_of style ≤ 4
basis_small Line2 = omega arith
basis_small Sq4 = omega arith
basis_small Sq8 = omega arith
basis_small Tri = omega arith
basis_small Sc6 = omega arith
basis_small Sc26 = omega arith
basis_small Bcc = omega arith
basis_small Fcc = omega arith

some_cells : (used least n : ℕ) → (used ≤ least → n ≡ 1) → (suc least ≤ used → 3 ≤ n) → 0 < n
some_cells used least n flat full =
    let cases : (used ≤ least) ⊎ (suc least ≤ used) = grind arith in
    elim cases [
      | inl one ↦ omega (arith, flat one)
      | inr more ↦ omega (arith, full more)
    ]

pub sized : (l : Layout) → IsLattice l → IsSized l
sized l is = record {
  x = omega (arith, is.along_x);
  y = some_cells (dimensions_of l.style) 1 l.ny is.flat_y is.along_y;
  z = some_cells (dimensions_of l.style) 2 l.nz is.flat_z is.along_z;
  basis = some_basis l.style;
}

-- ids in the shape that division takes
abbrev pub number_of : Layout → Spot → ℕ
number_of l s = ((s.z * l.ny + s.y) * l.nx + s.x) * basis_of l.style + s.basis

same_number : (nx ny points x y z b : ℕ) → 1 + b + points * (x + nx * (y + ny * z)) ≡ 1 + (((z * ny + y) * nx + x) * points + b)
same_number nx ny points x y z b = grind arith

pub id_is : (l : Layout) (s : Spot) → id_of l s ≡ 1 + number_of l s
id_is l s = same_number l.nx l.ny (basis_of l.style) s.x s.y s.z s.basis

number_spot : (l : Layout) (s : Spot) → IsSpot l s → spot_at l (number_of l s) ≡ s
number_spot l s is =
    let upper : number_of l s / basis_of l.style ≡ (s.z * l.ny + s.y) * l.nx + s.x = div-mul-add ((s.z * l.ny + s.y) * l.nx + s.x) (basis_of l.style) s.basis is.basis in
    let basis : number_of l s % basis_of l.style ≡ s.basis = mod-mul-add ((s.z * l.ny + s.y) * l.nx + s.x) (basis_of l.style) s.basis is.basis in
    rw (basis, upper, mod-mul-add (s.z * l.ny + s.y) l.nx s.x is.x, div-mul-add (s.z * l.ny + s.y) l.nx s.x is.x, mod-mul-add s.z l.ny s.y is.y, div-mul-add s.z l.ny s.y is.y) refl

spot_number : (l : Layout) (i : ℕ) → number_of l (spot_at l i) ≡ i
spot_number l i =
    rw (div-add-mod' (i / basis_of l.style / l.nx) l.ny, div-add-mod' (i / basis_of l.style) l.nx) (div-add-mod' i (basis_of l.style))

-- ids and spots undo each other
pub spot_id : (l : Layout) (s : Spot) → IsSpot l s → spot_of l (id_of l s) ≡ s
spot_id l s is =
    let less : id_of l s - 1 ≡ number_of l s = omega (arith, id_is l s) in
    ap (spot_at l) less ∙ number_spot l s is

pub id_spot : (l : Layout) (id : ℕ) → IsId l id → id_of l (spot_of l id) ≡ id
id_spot l id exists =
    let is : id_of l (spot_of l id) ≡ 1 + number_of l (spot_of l id) = id_is l (spot_of l id) in
    let back : number_of l (spot_of l id) ≡ id - 1 = spot_number l (id - 1) in
    omega (arith, is, back, exists.some)

-- so much room, level by level
room : (q m r n : ℕ) → q < m → r < n → q * n + r < m * n
room q m r n less small =
    let most : (q + 1) * n ≤ m * n = mul-le-mul_right n (omega arith) in
    let more : (q + 1) * n ≡ q * n + n = grind arith in
    omega arith

all_numbers : (points nx ny nz : ℕ) → points * (nx * ny * nz) ≡ ((nz * ny) * nx) * points
all_numbers points nx ny nz = grind arith

pub id_less : (l : Layout) (s : Spot) → IsSpot l s → id_of l s ≤ sites_of l
id_less l s is =
    let less : number_of l s < ((l.nz * l.ny) * l.nx) * basis_of l.style =
    room ((s.z * l.ny + s.y) * l.nx + s.x) ((l.nz * l.ny) * l.nx) s.basis (basis_of l.style)
    (room (s.z * l.ny + s.y) (l.nz * l.ny) s.x l.nx (room s.z l.nz s.y l.ny is.z is.y) is.x) is.basis in
    omega (arith, less, id_is l s, all_numbers (basis_of l.style) l.nx l.ny l.nz)

pub id_exists : (l : Layout) (s : Spot) → IsSpot l s → IsId l (id_of l s)
id_exists l s is = record { some = omega arith; exists = id_less l s is }

pub spot_is : (l : Layout) (id : ℕ) → IsSized l → IsId l id → IsSpot l (spot_of l id)
spot_is l id sized is =
    let i : ℕ = id - 1 in
    let less : i < ((l.nz * l.ny) * l.nx) * basis_of l.style = omega (arith, is.some, is.exists, all_numbers (basis_of l.style) l.nx l.ny l.nz) in
    let first : i / basis_of l.style < (l.nz * l.ny) * l.nx = (div-lt_iff_lt-mul sized.basis).1 less in
    let second : i / basis_of l.style / l.nx < l.nz * l.ny = (div-lt_iff_lt-mul sized.x).1 first in
    record {
      x = mod-lt (i / basis_of l.style) sized.x;
      y = mod-lt (i / basis_of l.style / l.nx) sized.y;
      z = (div-lt_iff_lt-mul sized.y).1 second;
      basis = mod-lt i sized.basis;
    }
