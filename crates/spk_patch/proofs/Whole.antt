-- Patches that have all cells of a lattice, and no halo.
use Rattle.std.proofs.Common.{◌≡◌, ℕ, ◌+◌, ◌-◌, ◌*◌, ◌%◌, ◌<◌, Bool, true, false, IsTrue, nat_lt, if◌then◌else◌}
use Rattle.std.proofs.Common.{List, length, All, refl, sym, ap, subst, ◌∙◌, rules, arith}
use Rattle.std.specs.Prelude.{slice_index}
use Rattle.std.proofs.Math.Nat.{mod-eq_of_lt, add-mod_left}
use Rattle.std.proofs.lemmas.List.FromFn.{fill_by_all}
use Rattle.spk_lattice.specs.Layout.{Layout, IsLattice, dimensions_of, sites_of}
use Rattle.spk_lattice.specs.Neighbours.{IsSpot, IsId, id_of, spot_at}
use Rattle.spk_lattice.specs.Boxes.{Interval, CellBox, all_of, wrapped_spot, spot_from, interval_at, box_of_cells, whole_box}
use Rattle.spk_lattice.proofs.Spots.{sized, spot_is, id_spot}
use Rattle.spk_app.specs.PlainViews.{places_beside}
use Rattle.spk_patch.specs.Patches.{PatchSites, IsPatch, halo_along, around_along, around, size_of, place_count}
use Rattle.spk_patch.specs.Patches.{shown_by, showing, near_of}

-- ---- one dimension

-- the patch has n cells along a dimension, from the first on, and no halo
pub record IsWholeAlong (p : PatchSites) (dimension n : ℕ) : Type 0 where
  pub from : (interval_at p.own dimension).from ≡ 0
  pub to : (interval_at p.own dimension).to ≡ n
  pub halo : halo_along p dimension ≡ 0

no_halo : (used : Bool) (halo : ℕ) → halo ≡ 0 → (if used then halo else 0) ≡ 0
no_halo true halo none = none
no_halo false halo none = refl

no_halo_along : (p : PatchSites) (dimension : ℕ) → p.halo ≡ 0 → halo_along p dimension ≡ 0
no_halo_along p dimension none = no_halo (nat_lt dimension (dimensions_of p.lattice.style)) p.halo none

whole_along : (p : PatchSites) (dimension n : ℕ)
    → interval_at p.own dimension ≡ all_of n
    → p.halo ≡ 0
    → IsWholeAlong p dimension n
whole_along p dimension n own none = record {
  from = ap (λ (i : Interval). i.from) own;
  to = ap (λ (i : Interval). i.to) own;
  halo = no_halo_along p dimension none;
}

pub record IsWhole (p : PatchSites) : Type 0 where
  pub x : IsWholeAlong p 0 p.lattice.nx
  pub y : IsWholeAlong p 1 p.lattice.ny
  pub z : IsWholeAlong p 2 p.lattice.nz

pub whole : (p : PatchSites) → IsPatch p → IsTrue p.wrapped → IsWhole p
whole p is wrapped =
    let own : box_of_cells p.own ≡ whole_box p.lattice = is.all wrapped in
    let none : p.halo ≡ 0 = is.no_halo wrapped in
    record {
      x = whole_along p 0 p.lattice.nx (ap (λ (b : CellBox). b.x) own) none;
      y = whole_along p 1 p.lattice.ny (ap (λ (b : CellBox). b.y) own) none;
      z = whole_along p 2 p.lattice.nz (ap (λ (b : CellBox). b.z) own) none;
    }

width_is : (p : PatchSites) (dimension n : ℕ)
    → IsWholeAlong p dimension n
    → (around_along p dimension n).to - (around_along p dimension n).from ≡ n
width_is p dimension n is = omega (arith, is.from, is.to, is.halo)

-- two lattices on, the same cell is shown
two_on : (n x from : ℕ) → from ≡ 2 * n → x < n → (from + x) % n ≡ x
two_on n x from is less =
    let twice : from + x ≡ n + (n + x) = omega arith in
    rw (twice, add-mod_left n (n + x), add-mod_left n x) (mod-eq_of_lt less)

wrapped_is : (p : PatchSites) (dimension n x : ℕ)
    → IsWholeAlong p dimension n
    → x < n
    → ((around_along p dimension n).from + x) % n ≡ x
wrapped_is p dimension n x is less = two_on n x (around_along p dimension n).from (omega (arith, is.from, is.halo)) less

-- ---- all of them

same_layouts : (l m : Layout) → l.style ≡ m.style → l.nx ≡ m.nx → l.ny ≡ m.ny → l.nz ≡ m.nz → l ≡ m
same_layouts l m style x y z = rw (style, x, y, z)

pub same_ids : (l : Layout) (x y z u v w basis : ℕ)
    → x ≡ u
    → y ≡ v
    → z ≡ w
    → id_of l (record { x = x; y = y; z = z; basis = basis }) ≡ id_of l (record { x = u; y = v; z = w; basis = basis })
same_ids l x y z u v w basis along_x along_y along_z = rw (along_x, along_y, along_z)

-- its cells are those of the lattice
pub size_is : (p : PatchSites) → IsWhole p → size_of p ≡ p.lattice
size_is p is =
    let x : (size_of p).nx ≡ p.lattice.nx = width_is p 0 p.lattice.nx is.x in
    let y : (size_of p).ny ≡ p.lattice.ny = width_is p 1 p.lattice.ny is.y in
    let z : (size_of p).nz ≡ p.lattice.nz = width_is p 2 p.lattice.nz is.z in
    same_layouts (size_of p) p.lattice refl x y z

count_is : (p : PatchSites) → IsWhole p → place_count p ≡ sites_of p.lattice
count_is p is = ap sites_of (size_is p is)

pub values_are : (p : PatchSites) → IsPatch p → IsWhole p → length p.values ≡ sites_of p.lattice
values_are p patch is = patch.filled ∙ count_is p is

-- ---- the places

pub before : (i : ℕ) → i + 1 - 1 ≡ i
before i = omega arith

is_id : (l : Layout) (i : ℕ) → i < sites_of l → IsId l (i + 1)
is_id l i less = record { some = omega arith; exists = omega arith }

pub spot_exists : (l : Layout) (i : ℕ) → IsLattice l → i < sites_of l → IsSpot l (spot_at l i)
spot_exists l i is less = subst (λ k. IsSpot l (spot_at l k)) (before i) (spot_is l (i + 1) (sized l is) (is_id l i less))

pub id_back : (l : Layout) (i : ℕ) → i < sites_of l → id_of l (spot_at l i) ≡ i + 1
id_back l i less = ap (λ k. id_of l (spot_at l k)) (sym (before i)) ∙ id_spot l (i + 1) (is_id l i less)

-- each place shows the site of the same place
pub shown_is : (p : PatchSites) → IsLattice p.lattice → IsWhole p → (i : ℕ) → i < sites_of p.lattice → shown_by p i ≡ i
shown_is p lattice is i less =
    let l : Layout = p.lattice in
    let s = spot_at l i in
    let spot : IsSpot l (spot_at l i) = spot_exists l i lattice less in
    let x : ((around p).x.from + s.x) % l.nx ≡ s.x = wrapped_is p 0 l.nx s.x is.x spot.x in
    let y : ((around p).y.from + s.y) % l.ny ≡ s.y = wrapped_is p 1 l.ny s.y is.y spot.y in
    let z : ((around p).z.from + s.z) % l.nz ≡ s.z = wrapped_is p 2 l.nz s.z is.z spot.z in
    let site : id_of l (wrapped_spot l (spot_from (around p) s)) ≡ id_of l s = same_ids l _ _ _ s.x s.y s.z s.basis x y z in
    let id : id_of l s ≡ i + 1 = id_back l i less in
    ap (λ (m : Layout). id_of l (wrapped_spot l (spot_from (around p) (spot_at m i))) - 1) (size_is p is)
    ∙ omega (arith, site, id)

-- all values of the sites, in their order
pub showing_is : (p : PatchSites)
    → IsLattice p.lattice
    → IsWhole p
    → (values : List ℕ)
    → length values ≡ sites_of p.lattice
    → showing p values ≡ values
unfolding showing
showing_is p lattice is values all =
    let known : length values ≡ place_count p = all ∙ sym (count_is p is) in
    sym (fill_by_all (λ place. slice_index values (shown_by p place)) values (place_count p) 0 known (λ k less.
    ap (slice_index values) (sym (shown_is p lattice is k (omega (arith, less, count_is p is))))))

-- ---- values and neighbours

-- a patch with other values
abbrev pub with_values : PatchSites → List ℕ → PatchSites
with_values p values = record { lattice = p.lattice; own = p.own; halo = p.halo; wrapped = p.wrapped; values = values }

pub filled : (p q : PatchSites) (items values : List ℕ)
    → p ≡ q
    → IsPatch p
    → IsTrue p.wrapped
    → items ≡ values
    → length values ≡ sites_of q.lattice
    → with_values p items ≡ with_values q (showing q values)
filled p q items values same is wrapped taken all =
    let known : length values ≡ sites_of p.lattice = all ∙ ap (λ (r : PatchSites). sites_of r.lattice) (sym same) in
    ap (with_values p) (taken ∙ sym (showing_is p is.on (whole p is wrapped) values known))
    ∙ ap (λ (r : PatchSites). with_values r (showing r values)) same

the_first : (b : Bool) (x y : List ℕ) → IsTrue b → (if b then x else y) ≡ x
the_first true x y is = refl
the_first false x y is = absurd (search (rules, is))

pub near_inside : (p q : PatchSites) (i : ℕ)
    → p ≡ q
    → IsPatch p
    → IsTrue p.wrapped
    → All (λ j. j < sites_of p.lattice) (places_beside p.lattice i)
    → All (λ j. j < length q.values) (near_of q i)
near_inside p q i same is wrapped inside =
    let near : near_of p i ≡ places_beside p.lattice i = the_first p.wrapped _ _ wrapped in
    let count : length p.values ≡ sites_of p.lattice = values_are p is (whole p is wrapped) in
    subst (λ (r : PatchSites). All (λ j. j < length r.values) (near_of r i)) same (rw (near, count) inside)
