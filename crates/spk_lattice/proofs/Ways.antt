-- Neighbours are neighbours both ways.
use Rattle.std.proofs.Common.{◌≡◌, ℕ, ◌<◌, ◌≤◌, List, map, length, get_or, refl, sym, ap, ◌∙◌, subst, arith}
use Rattle.std.proofs.lemmas.List.{length-map, get_or-map}
use Rattle.std.proofs.lemmas.Simd.{map-map}
use Rattle.std.proofs.lemmas.List.Elements.{Contains-get_or, All-from_get_or}
use Rattle.std.specs.Prelude.{Contains, All}
use Rattle.spk_lattice.specs.Hops.{IsMutual, IsWithin}
use Rattle.spk_num.specs.declared.style.Style.{Style}
use Rattle.spk_num.specs.declared.style.Style.TheVariants.{Line2, Sq4, Sq8, Tri, Sc6, Sc26, Bcc, Fcc}
use Rattle.spk_lattice.specs.Layout.{Layout, IsLattice}
use Rattle.spk_lattice.specs.Neighbours.{Spot, IsSpot, IsId, Offset, id_of, spot_of, moved, offsets, nb, degree_of}
use Rattle.spk_lattice.proofs.Hops.{within_back}
use Rattle.spk_lattice.proofs.Tables.{IsGood, good, back_of, few, near_count, count_is}
use Rattle.spk_lattice.proofs.Spots.{IsSized, sized, some_basis, spot_id, id_spot, id_exists, spot_is, wrapped_back, wrapped_less}

contains_map : {A : Type 0} (f : A → ℕ) (xs : List A) (x : A) → Contains xs x → Contains (map f xs) (f x)
contains_map f xs x (k, less, is) = (k, rw (length-map xs f) less, get_or-map f xs k x (f x) less ∙ ap f is)

pub no_offset : Offset
no_offset = record { dx = 0; dy = 0; dz = 0; basis = 0 }

of_map : {A : Type 0} (f : A → ℕ) (xs : List A) (d : A) (j : ℕ) → Contains (map f xs) j → (x : A) × Contains xs x × (f x ≡ j)
of_map f xs d j (k, less, is) =
    let within : k < length xs = rw (length-map xs f) at less in
    (get_or xs k d, Contains-get_or xs k d within, sym (get_or-map f xs k d j within) ∙ is)

-- the ids of the neighbours of a spot's site, in one go
abbrev pub ids_beside : Layout → Spot → List ℕ
ids_beside l s = map (λ o. id_of l (moved l s o)) (offsets l.style s.basis)

pub nb_is : (l : Layout) (id : ℕ) → nb l id ≡ ids_beside l (spot_of l id)
unfolding nb
nb_is l id = map-map (id_of l) (moved l (spot_of l id)) (offsets l.style (spot_of l id).basis)

-- the offset that leads to a neighbour
pub next_of : (l : Layout) (id j : ℕ) → Contains (nb l id) j → (o : Offset) × Contains (offsets l.style (spot_of l id).basis) o × (id_of l (moved l (spot_of l id) o) ≡ j)
next_of l id j next =
    of_map (λ o. id_of l (moved l (spot_of l id) o)) (offsets l.style (spot_of l id).basis) no_offset j (subst (λ (xs : List ℕ). Contains xs j) (nb_is l id) next)

pub moved_is : (l : Layout) (s : Spot) (o : Offset) → IsSized l → IsGood l.style s.basis o → IsSpot l (moved l s o)
moved_is l s o sized is = record {
  x = wrapped_less l.nx s.x o.dx sized.x;
  y = wrapped_less l.ny s.y o.dy sized.y;
  z = wrapped_less l.nz s.z o.dz sized.z;
  basis = is.basis_less;
}

moved_back : (l : Layout) (s : Spot) (o : Offset) → IsSpot l s → IsGood l.style s.basis o → moved l (moved l s o) (back_of s.basis o) ≡ s
moved_back l s o spot is =
    rw (wrapped_back l.nx s.x o.dx spot.x is.dx_less, wrapped_back l.ny s.y o.dy spot.y is.dy_less, wrapped_back l.nz s.z o.dz spot.z is.dz_less) refl

inside : (l : Layout) → IsSized l → (i j : ℕ) → IsId l i → Contains (nb l i) j → IsId l j
inside l sized i j exists next =
    let s : Spot = spot_of l i in
    let spot : IsSpot l s = spot_is l i sized exists in
    let step = next_of l i j next in
    let is : IsGood l.style s.basis step.0 = good l.style s.basis step.0 spot.basis step.1 in
    subst (IsId l) step.2 (id_exists l (moved l s step.0) (moved_is l s step.0 sized is))

back : (l : Layout) → IsSized l → (i j : ℕ) → IsId l i → Contains (nb l i) j → Contains (nb l j) i
back l sized i j exists next =
    let s : Spot = spot_of l i in
    let spot : IsSpot l s = spot_is l i sized exists in
    let step = next_of l i j next in
    let o : Offset = step.0 in
    let is : IsGood l.style s.basis o = good l.style s.basis o spot.basis step.1 in
    let there : spot_of l j ≡ moved l s o = ap (spot_of l) (sym step.2) ∙ spot_id l (moved l s o) (moved_is l s o sized is) in
    let home : id_of l (moved l (moved l s o) (back_of s.basis o)) ≡ i = ap (id_of l) (moved_back l s o spot is) ∙ id_spot l i exists in
    let found : Contains (ids_beside l (moved l s o)) (id_of l (moved l (moved l s o) (back_of s.basis o))) =
    contains_map (λ p. id_of l (moved l (moved l s o) p)) (offsets l.style o.basis) (back_of s.basis o) is.back in
    subst (λ (xs : List ℕ). Contains xs i) (sym (nb_is l j)) (subst (λ (d : Spot). Contains (ids_beside l d) i) (sym there)
    (subst (λ k. Contains (ids_beside l (moved l s o)) k) home found))

-- each neighbour is a site, whose neighbour the first one is
pub both_ways : (l : Layout) → IsLattice l → IsMutual (nb l) (IsId l)
both_ways l lattice = record { inside = inside l (sized l lattice); back = back l (sized l lattice) }

pub all_exist : (l : Layout) (id : ℕ) → IsLattice l → IsId l id → All (IsId l) (nb l id)
all_exist l id lattice exists =
    All-from_get_or (IsId l) (nb l id) 0 (λ k within. inside l (sized l lattice) id (get_or (nb l id) k 0) exists (Contains-get_or (nb l id) k 0 within))

pub length_is : (l : Layout) (id : ℕ) → length (nb l id) ≡ length (offsets l.style (spot_of l id).basis)
length_is l id = ap length (nb_is l id) ∙ length-map (offsets l.style (spot_of l id).basis) (λ o. id_of l (moved l (spot_of l id) o))

-- how many neighbours a site has: what the style says, and at most 26
pub near_count_is : (l : Layout) (id : ℕ) → IsLattice l → IsId l id → length (nb l id) ≡ near_count l.style
near_count_is l id lattice exists = length_is l id ∙ count_is l.style (spot_of l id).basis (spot_is l id (sized l lattice) exists).basis

pub near_few : (l : Layout) (id : ℕ) → length (nb l id) ≤ 26
near_few l id = omega (arith, length_is l id, few l.style (spot_of l id).basis)

-- how far a cell is from one that it touches, before wrapping: 0, 1 or 2, one more than the difference
pub record IsStep (l : Layout) (s : Spot) (o : Offset) (j : ℕ) : Type 0 where
  pub dx_less : o.dx < 3
  pub dy_less : o.dy < 3
  pub dz_less : o.dz < 3
  pub is : spot_of l j ≡ moved l s o

-- the cell of a neighbour differs by at most one in each dimension before wrapping
pub near_step : (l : Layout) (id j : ℕ) → IsLattice l → IsId l id → Contains (nb l id) j → (o : Offset) × IsStep l (spot_of l id) o j
near_step l id j lattice exists next =
    let s : Spot = spot_of l id in
    let fine : IsSized l = sized l lattice in
    let spot : IsSpot l s = spot_is l id fine exists in
    let step = next_of l id j next in
    let o : Offset = step.0 in
    let is : IsGood l.style s.basis o = good l.style s.basis o spot.basis step.1 in (
      o,
      record {
        dx_less = is.dx_less;
        dy_less = is.dy_less;
        dz_less = is.dz_less;
        is = ap (spot_of l) (sym step.2) ∙ spot_id l (moved l s o) (moved_is l s o fine is);
      },
    )

-- as many hops lead back
pub within_both : (l : Layout) (d i j : ℕ) → IsLattice l → IsId l i → IsWithin (nb l) d i j → IsWithin (nb l) d j i
within_both l d i j lattice exists there = within_back (nb l) (IsId l) d i j (both_ways l lattice) exists there

-- a site of a lattice has as many neighbours as the style says, two at least
pub near_degree : (l : Layout) (id : ℕ) → IsLattice l → IsId l id → length (nb l id) ≡ degree_of l.style
unfolding degree_of
near_degree l id lattice exists = near_count_is l id lattice exists ∙ sym (count_is l.style 0 (sized l lattice).basis)

count_some : (style : Style) → 2 ≤ near_count style
count_some Line2 = omega arith
count_some Sq4 = omega arith
count_some Sq8 = omega arith
count_some Tri = omega arith
count_some Sc6 = omega arith
count_some Sc26 = omega arith
count_some Bcc = omega arith
count_some Fcc = omega arith

pub degree_some : (style : Style) → 2 ≤ degree_of style
unfolding degree_of
degree_some style = rw (count_is style 0 (some_basis style)) (count_some style)

pub degree_few : (style : Style) → degree_of style ≤ 26
unfolding degree_of
degree_few style = few style 0
