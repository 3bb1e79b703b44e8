-- The places of boxes of cells.
use Rattle.std.proofs.Common.{◌≡◌, ℕ, zero, suc, ◌+◌, ◌-◌, ◌*◌, ◌%◌, ◌<◌, ◌≤◌, refl, sym, ap, subst, ◌∙◌, arith, map, length, get_or}
use Rattle.std.specs.List.{All, range_with_len}
use Rattle.std.proofs.lemmas.List.FromFn.{length-map-range_with_len, get_or-map-range_with_len}
use Rattle.std.proofs.lemmas.List.Elements.{All-from_get_or}
use Rattle.std.proofs.Math.Nat.{mod-eq_of_lt, mul-zero, zero-mul, mul-le-mul, le_refl}
use Rattle.spk_lattice.specs.Layout.{Layout, IsLattice, basis_of, sites_of}
use Rattle.spk_lattice.specs.Neighbours.{Spot, IsSpot, IsId, id_of, spot_at, spot_of}
use Rattle.spk_lattice.specs.Boxes.{Interval, CellBox, IsBoxIn, width, place_in, layout_of, wrapped_spot, spot_from, shown_at, places_of, whole_box}
use Rattle.spk_lattice.proofs.Spots.{IsSized, sized, some_basis, spot_is, spot_id, id_spot, id_exists, id_less}

same_layouts : (l m : Layout) → l.style ≡ m.style → l.nx ≡ m.nx → l.ny ≡ m.ny → l.nz ≡ m.nz → l ≡ m
same_layouts l m style x y z = rw (style, x, y, z)

same_spots : (s t : Spot) → s.x ≡ t.x → s.y ≡ t.y → s.z ≡ t.z → s.basis ≡ t.basis → s ≡ t
same_spots s t x y z basis = rw (x, y, z, basis)

-- the cells of the whole box are the lattice
pub whole_layout : (l : Layout) → layout_of l (whole_box l) ≡ l
whole_layout l = same_layouts (layout_of l (whole_box l)) l refl (omega arith) (omega arith) (omega arith)

not_wrapped : (x n : ℕ) → x < n → (0 + x) % n ≡ x
not_wrapped x n less =
    let is : 0 + x ≡ x = omega arith in
    rw is (mod-eq_of_lt less)

whole_spot : (l : Layout) (s : Spot) → IsSpot l s → wrapped_spot l (spot_from (whole_box l) s) ≡ s
whole_spot l s is = same_spots (wrapped_spot l (spot_from (whole_box l) s)) s (not_wrapped s.x l.nx is.x) (not_wrapped s.y l.ny is.y) (not_wrapped s.z l.nz is.z) refl

spot_back : (i : ℕ) (l : Layout) → spot_of l (i + 1) ≡ spot_at l i
spot_back i l =
    let is : i + 1 - 1 ≡ i = omega arith in
    ap (spot_at l) is

id_back : (l : Layout) (i : ℕ) → IsId l (i + 1) → id_of l (spot_at l i) ≡ i + 1
id_back l i is = ap (id_of l) (sym (spot_back i l)) ∙ id_spot l (i + 1) is

exists : (l : Layout) (i : ℕ) → i < sites_of l → IsId l (i + 1)
exists l i less = record { some = omega arith; exists = omega arith }

-- a lattice or a box with a site has cells in each dimension
some_factors : (b x y z i : ℕ) → i < b * (x * y * z) → (0 < x) × (0 < y) × (0 < z)
some_factors b zero y z i less = absurd (omega (arith, less, ap (λ n. b * (n * z)) (zero-mul y) ∙ ap (λ n. b * n) (zero-mul z) ∙ mul-zero b))
some_factors b (suc x) zero z i less = absurd (omega (arith, less, ap (λ n. b * (n * z)) (mul-zero (suc x)) ∙ ap (λ n. b * n) (zero-mul z) ∙ mul-zero b))
some_factors b (suc x) (suc y) zero i less = absurd (omega (arith, less, ap (λ n. b * n) (mul-zero (suc x * suc y)) ∙ mul-zero b))
some_factors b (suc x) (suc y) (suc z) i less = (omega arith, omega arith, omega arith)

pub some_sized : (l : Layout) (i : ℕ) → i < sites_of l → IsSized l
some_sized l i less =
    let some = some_factors (basis_of l.style) l.nx l.ny l.nz i less in
    record { x = some.0; y = some.1; z = some.2; basis = some_basis l.style }

-- each place of the whole box shows itself
pub whole_shown : (l : Layout) (i : ℕ) → i < sites_of l → shown_at l (whole_box l) i ≡ i
whole_shown l i less =
    let spot : IsSpot l (spot_at l i) = subst (λ (s : Spot). IsSpot l s) (spot_back i l) (spot_is l (i + 1) (some_sized l i less) (exists l i less)) in
    let site : id_of l (wrapped_spot l (spot_from (whole_box l) (spot_at l i))) ≡ id_of l (spot_at l i) = ap (id_of l) (whole_spot l (spot_at l i) spot) in
    let id : id_of l (spot_at l i) ≡ i + 1 = id_back l i (exists l i less) in
    ap (λ (m : Layout). id_of l (wrapped_spot l (spot_from (whole_box l) (spot_at m i))) - 1) (whole_layout l) ∙ omega (arith, site, id)

map_range : (f : ℕ → ℕ) (from n : ℕ) → ((i : ℕ) → from ≤ i → i < from + n → f i ≡ i) → map f (range_with_len from n) ≡ range_with_len from n
map_range f from zero same = refl
map_range f from (suc n) same =
    let first : f from ≡ from = same from (omega arith) (omega arith) in
    let rest : map f (range_with_len (from + 1) n) ≡ range_with_len (from + 1) n = map_range f (from + 1) n (λ i low high. same i (omega arith) (omega arith)) in
    rw (first, rest)

-- the places of the whole box are all places of the lattice, in their order
pub whole_places : (l : Layout) → IsLattice l → places_of l (whole_box l) ≡ range_with_len 0 (sites_of l)
unfolding places_of
whole_places l is =
    ap (λ (m : Layout). map (shown_at l (whole_box l)) (range_with_len 0 (sites_of m))) (whole_layout l)
    ∙ map_range (shown_at l (whole_box l)) 0 (sites_of l) (λ i from less. whole_shown l i (omega arith))

-- A site of a box of the lattice's own cells, and its number among the box's sites, undo each other.

-- no box has more sites than the lattice
pub box_few : (l : Layout) (b : CellBox) → IsBoxIn l b → sites_of (layout_of l b) ≤ sites_of l
box_few l b is =
    let x : width b.x ≤ l.nx = omega (arith, is.x.within) in
    let y : width b.y ≤ l.ny = omega (arith, is.y.within) in
    let z : width b.z ≤ l.nz = omega (arith, is.z.within) in
    mul-le-mul (le_refl (basis_of l.style)) (mul-le-mul (mul-le-mul x y) z)

-- where the i-th site of a box lies in the lattice
abbrev pub lies_at : Layout → CellBox → ℕ → Spot
lies_at l b i = spot_from b (spot_at (layout_of l b) i)

box_spot : (l : Layout) (b : CellBox) → IsBoxIn l b → (i : ℕ) → i < sites_of (layout_of l b) → IsSpot (layout_of l b) (spot_at (layout_of l b) i)
box_spot l b is i less =
    subst (λ (s : Spot). IsSpot (layout_of l b) s) (spot_back i (layout_of l b)) (spot_is (layout_of l b) (i + 1) (some_sized (layout_of l b) i less) (exists (layout_of l b) i less))

from_spot : (l : Layout) (b : CellBox) → IsBoxIn l b → (s : Spot) → IsSpot (layout_of l b) s → IsSpot l (spot_from b s)
from_spot l b is s in_box = record {
  x = omega (arith, is.x.within, in_box.x);
  y = omega (arith, is.y.within, in_box.y);
  z = omega (arith, is.z.within, in_box.z);
  basis = in_box.basis;
}

stays_there : (l : Layout) (s : Spot) → IsSpot l s → wrapped_spot l s ≡ s
stays_there l s is = same_spots (wrapped_spot l s) s (mod-eq_of_lt is.x) (mod-eq_of_lt is.y) (mod-eq_of_lt is.z) refl

pub lies_in : (l : Layout) (b : CellBox) → IsBoxIn l b → (i : ℕ) → i < sites_of (layout_of l b) → IsSpot l (lies_at l b i)
lies_in l b is i less = from_spot l b is (spot_at (layout_of l b) i) (box_spot l b is i less)

-- no cell of the box wraps
pub shown_is : (l : Layout) (b : CellBox) → IsBoxIn l b → (i : ℕ) → i < sites_of (layout_of l b) → shown_at l b i ≡ id_of l (lies_at l b i) - 1
shown_is l b is i less = ap (λ (s : Spot). id_of l s - 1) (stays_there l (lies_at l b i) (lies_in l b is i less))

pub shown_below : (l : Layout) (b : CellBox) → IsBoxIn l b → (i : ℕ) → i < sites_of (layout_of l b) → shown_at l b i < sites_of l
shown_below l b is i less =
    let most : id_of l (lies_at l b i) ≤ sites_of l = id_less l (lies_at l b i) (lies_in l b is i less) in
    omega (arith, most, shown_is l b is i less)

-- the spot of the place that a site of the box shows
shown_spot : (l : Layout) (b : CellBox) → IsBoxIn l b → (i : ℕ) → i < sites_of (layout_of l b) → spot_at l (shown_at l b i) ≡ lies_at l b i
shown_spot l b is i less = ap (spot_at l) (shown_is l b is i less) ∙ spot_id l (lies_at l b i) (lies_in l b is i less)

same_from : (b : CellBox) (s t : Spot) → spot_from b s ≡ spot_from b t → s ≡ t
same_from b s t same =
    let x : b.x.from + s.x ≡ b.x.from + t.x = ap (λ (u : Spot). u.x) same in
    let y : b.y.from + s.y ≡ b.y.from + t.y = ap (λ (u : Spot). u.y) same in
    let z : b.z.from + s.z ≡ b.z.from + t.z = ap (λ (u : Spot). u.z) same in
    same_spots s t (omega (arith, x)) (omega (arith, y)) (omega (arith, z)) (ap (λ (u : Spot). u.basis) same)

-- no two sites of a box show one place
pub shown_apart : (l : Layout) (b : CellBox) → IsBoxIn l b → (i j : ℕ) → i < sites_of (layout_of l b) → j < sites_of (layout_of l b) → shown_at l b i ≡ shown_at l b j → i ≡ j
shown_apart l b is i j less less' same =
    let there : lies_at l b i ≡ lies_at l b j = sym (shown_spot l b is i less) ∙ ap (spot_at l) same ∙ shown_spot l b is j less' in
    let spots : spot_at (layout_of l b) i ≡ spot_at (layout_of l b) j = same_from b (spot_at (layout_of l b) i) (spot_at (layout_of l b) j) there in
    let ids : i + 1 ≡ j + 1 = sym (id_back (layout_of l b) i (exists (layout_of l b) i less)) ∙ ap (id_of (layout_of l b)) spots ∙ id_back (layout_of l b) j (exists (layout_of l b) j less') in
    omega (arith, ids)

-- a coordinate lies in the box
pub record IsAt (along : Interval) (x : ℕ) : Type 0 where
  pub low : along.from ≤ x
  pub high : x < along.to

abbrev number_in : Layout → CellBox → ℕ → ℕ
number_in l b place =
    let s = spot_at l place in
    place_in (layout_of l b) (s.x - b.x.from) (s.y - b.y.from) (s.z - b.z.from) s.basis

-- the number, among the sites of a box, of a place whose cell lies in it
pub number_shown : (l : Layout) (b : CellBox) → IsSized l → IsBoxIn l b → (place : ℕ) → place < sites_of l → IsAt b.x (spot_at l place).x → IsAt b.y (spot_at l place).y → IsAt b.z (spot_at l place).z →
    (number_in l b place < sites_of (layout_of l b)) × (shown_at l b (number_in l b place) ≡ place)
number_shown l b sized is place less x y z =
    let s : Spot = spot_at l place in
    let t : Spot = record { x = s.x - b.x.from; y = s.y - b.y.from; z = s.z - b.z.from; basis = s.basis } in
    let spot : IsSpot l s = subst (λ (s : Spot). IsSpot l s) (spot_back place l) (spot_is l (place + 1) sized (exists l place less)) in
    let in_box : IsSpot (layout_of l b) t = record { x = omega (arith, x.low, x.high); y = omega (arith, y.low, y.high); z = omega (arith, z.low, z.high); basis = spot.basis } in
    let some : 1 ≤ id_of (layout_of l b) t = (id_exists (layout_of l b) t in_box).some in
    let few : number_in l b place < sites_of (layout_of l b) = omega (arith, id_less (layout_of l b) t in_box, some) in
    let back : spot_at (layout_of l b) (number_in l b place) ≡ t = spot_id (layout_of l b) t in_box in
    let there : lies_at l b (number_in l b place) ≡ s = ap (spot_from b) back ∙ same_spots (spot_from b t) s (omega (arith, x.low)) (omega (arith, y.low)) (omega (arith, z.low)) refl in
    let id : id_of l (lies_at l b (number_in l b place)) ≡ place + 1 = ap (id_of l) there ∙ id_back l place (exists l place less) in
    (few, shown_is l b is (number_in l b place) few ∙ omega (arith, id))

-- a place that a site of the box shows has its cell there
pub shown_within : (l : Layout) (b : CellBox) → IsBoxIn l b → (i place : ℕ) → i < sites_of (layout_of l b) → shown_at l b i ≡ place →
    IsAt b.x (spot_at l place).x × IsAt b.y (spot_at l place).y × IsAt b.z (spot_at l place).z
shown_within l b is i place less shows =
    let s : Spot = spot_at (layout_of l b) i in
    let in_box : IsSpot (layout_of l b) s = box_spot l b is i less in
    let there : spot_at l place ≡ spot_from b s = ap (spot_at l) (sym shows) ∙ shown_spot l b is i less in
    let x : (spot_at l place).x ≡ b.x.from + s.x = ap (λ (u : Spot). u.x) there in
    let y : (spot_at l place).y ≡ b.y.from + s.y = ap (λ (u : Spot). u.y) there in
    let z : (spot_at l place).z ≡ b.z.from + s.z = ap (λ (u : Spot). u.z) there in
    (record { low = omega (arith, x); high = omega (arith, x, in_box.x) }, record { low = omega (arith, y); high = omega (arith, y, in_box.y) }, record { low = omega (arith, z); high = omega (arith, z, in_box.z) })

-- the list of the places of a box
pub length-places : (l : Layout) (b : CellBox) → length (places_of l b) ≡ sites_of (layout_of l b)
unfolding places_of
length-places l b = length-map-range_with_len (shown_at l b) 0 (sites_of (layout_of l b))

pub places_at : (l : Layout) (b : CellBox) (i : ℕ) → i < sites_of (layout_of l b) → get_or (places_of l b) i 0 ≡ shown_at l b i
unfolding places_of
places_at l b i less = get_or-map-range_with_len (shown_at l b) 0 (sites_of (layout_of l b)) i i 0 less (omega arith)

pub places_below : (l : Layout) (b : CellBox) → IsBoxIn l b → All (λ j. j < sites_of l) (places_of l b)
places_below l b is = All-from_get_or (λ j. j < sites_of l) (places_of l b) 0 (λ i less.
    let within : i < sites_of (layout_of l b) = omega (arith, less, length-places l b) in
    rw (places_at l b i within) (shown_below l b is i within))
