-- The sites that few hops lead to on a lattice that wraps are no more than those where no cell wraps.
use Rattle.std.proofs.Common.{◌≡◌, ◌≢◌, ℕ, zero, suc, ◌+◌, ◌-◌, ◌*◌, ◌/◌, ◌%◌, ◌<◌, ◌≤◌, inl, inr, List, [], ◌∷◌, map, length, get_or, refl, sym, ap, ◌∙◌, subst, arith, true, false, ◌||◌}
use Rattle.std.proofs.Math.Nat.{mod-eq_of_lt, add-mod_right, mod-add-mod}
use Rattle.std.proofs.lemmas.Bool.Decides.{nat_tests}
use Rattle.std.proofs.lemmas.List.{length-map, get_or_default}
use Rattle.std.proofs.lemmas.List.Elements.{All-contains}
use Rattle.std.proofs.lemmas.List.Folds.{Any-from_list_any}
use Rattle.std.proofs.lemmas.Map.Keys.{IsDistinct-from_apart}
use Rattle.std.proofs.lemmas.Map.Made.{length-le_from_is_member}
use Rattle.std.proofs.lemmas.Cmp.{nat_eq_equiv}
use Rattle.std.specs.Prelude.{Bool, Contains, AllPairs, nat_eq}
use Rattle.std.specs.List.{list_any}
use Rattle.spk_lattice.specs.Hops.{IsWithin, ReachesAtMost}
use Rattle.spk_lattice.specs.Layout.{Layout, IsLattice, basis_of}
use Rattle.spk_lattice.specs.Neighbours.{Spot, IsSpot, IsId, Offset, id_of, spot_of, wrapped, moved, offsets, nb}
use Rattle.spk_lattice.specs.Spread.{code, hopped, hops, widened, ball, spread}
use Rattle.spk_lattice.proofs.Tables.{IsGood, good}
use Rattle.spk_lattice.proofs.Spots.{IsSized, sized, basis_small, spot_id, id_spot, spot_is}
use Rattle.spk_lattice.proofs.Ways.{next_of, moved_is, both_ways}
use Rattle.spk_lattice.proofs.Merges.{Mem, mem_map, mem_widened, most_of}
use Rattle.spk_lattice.proofs.Hops.{within_inside, within_last}

-- where a coordinate comes to, that was counted from d cells before
abbrev pub shifted : ℕ → ℕ → ℕ → ℕ → ℕ
shifted n x d a = (x + a + d * (n - 1)) % n

one_more : (a b : ℕ) → suc a * b ≡ a * b + b
one_more a b = grind arith

shifted_hop : (n x d a o : ℕ) → 0 < n → wrapped (shifted n x d a) o n ≡ shifted n x (suc d) (a + o)
shifted_hop n x d a o some =
    let y : ℕ = x + a + d * (n - 1) in
    let split : shifted n x d a + o + n - 1 ≡ shifted n x d a + (o + (n - 1)) = omega arith in
    let whole : y + (o + (n - 1)) ≡ x + (a + o) + suc d * (n - 1) = omega (arith, one_more d (n - 1)) in
    ap (λ w. w % n) split ∙ mod-add-mod y n (o + (n - 1)) ∙ ap (λ w. w % n) whole

shifted_stay : (n x d a : ℕ) → 0 < n → shifted n x (suc d) (a + 1) ≡ shifted n x d a
shifted_stay n x d a some =
    let whole : x + (a + 1) + suc d * (n - 1) ≡ (x + a + d * (n - 1)) + n = omega (arith, one_more d (n - 1)) in
    ap (λ w. w % n) whole ∙ add-mod_right (x + a + d * (n - 1)) n

-- a site, by a code of the ball
pub record At (l : Layout) (start : Spot) (d j : ℕ) (cells : List ℕ) : Type 0 where
  pub x : ℕ
  pub y : ℕ
  pub z : ℕ
  pub p : ℕ
  pub x_small : x ≤ 2 * d
  pub y_small : y ≤ 2 * d
  pub z_small : z ≤ 2 * d
  pub p_small : p < basis_of l.style
  pub there : Mem (code x y z p) cells
  pub is : spot_of l j ≡ record { x = shifted l.nx start.x d x; y = shifted l.ny start.y d y; z = shifted l.nz start.z d z; basis = p }

mem_of : (xs : List Offset) (o : Offset) → Contains xs o → Mem o xs
mem_of [] o (k, less, is) = absurd (omega arith)
mem_of (x ∷ xs) o (zero, less, is) = inl (sym is)
mem_of (x ∷ xs) o (suc k, less, is) = inr (mem_of xs o (k, omega arith, is))

hopped_is : (x y z p : ℕ) (o : Offset) → hopped p o (code x y z p) ≡ code (x + o.dx) (y + o.dy) (z + o.dz) o.basis
hopped_is x y z p o = omega arith

code_basis : (x y z p : ℕ) → p < 4 → code x y z p % 4 ≡ p
code_basis x y z p less = omega arith

points_small : (l : Layout) (p : ℕ) → p < basis_of l.style → p < 4
points_small l p less = omega (arith, basis_small l.style)

hop_to : (l : Layout) (start : Spot) (d j : ℕ) (cells : List ℕ) (from : ℕ) (at : At l start d from cells) (o : Offset)
    → IsSized l
    → o.dx < 3
    → o.dy < 3
    → o.dz < 3
    → o.basis < basis_of l.style
    → Mem o (hops l.style at.p)
    → spot_of l j ≡ record { x = shifted l.nx start.x (suc d) (at.x + o.dx); y = shifted l.ny start.y (suc d) (at.y + o.dy); z = shifted l.nz start.z (suc d) (at.z + o.dz); basis = o.basis }
    → At l start (suc d) j (widened l.style (basis_of l.style) cells)
hop_to l start d j cells from at o sized dx dy dz b hop is = record {
  x = at.x + o.dx;
  y = at.y + o.dy;
  z = at.z + o.dz;
  p = o.basis;
  x_small = omega (arith, at.x_small);
  y_small = omega (arith, at.y_small);
  z_small = omega (arith, at.z_small);
  p_small = b;
  there = subst (λ c. Mem c (widened l.style (basis_of l.style) cells)) (hopped_is at.x at.y at.z at.p o)
      (mem_widened l.style (basis_of l.style) at.p cells o (code at.x at.y at.z at.p) at.p_small (code_basis at.x at.y at.z at.p (points_small l at.p at.p_small)) hop at.there);
  is = is;
}

pub covers : (l : Layout) (i d j : ℕ) → IsLattice l → IsId l i → IsWithin (nb l) d i j → At l (spot_of l i) d j (ball l.style (spot_of l i).basis d)
unfolding ball IsWithin
covers l i zero j lattice less near =
    let sized : IsSized l = sized l lattice in
    let cell : IsSpot l (spot_of l i) = spot_is l i sized less in
    let c : Spot = spot_of l i in
    let start_x : c.x + 0 + 0 * (l.nx - 1) ≡ c.x = omega arith in
    let start_y : c.y + 0 + 0 * (l.ny - 1) ≡ c.y = omega arith in
    let start_z : c.z + 0 + 0 * (l.nz - 1) ≡ c.z = omega arith in
    let at_x : shifted l.nx c.x 0 0 ≡ c.x = rw start_x (mod-eq_of_lt cell.x) in
    let at_y : shifted l.ny c.y 0 0 ≡ c.y = rw start_y (mod-eq_of_lt cell.y) in
    let at_z : shifted l.nz c.z 0 0 ≡ c.z = rw start_z (mod-eq_of_lt cell.z) in
    record {
      x = 0;
      y = 0;
      z = 0;
      p = c.basis;
      x_small = omega arith;
      y_small = omega arith;
      z_small = omega arith;
      p_small = cell.basis;
      there = inl (omega arith);
      is = ap (spot_of l) (sym near) ∙ ap (λ v. record { x = v; y = c.y; z = c.z; basis = c.basis }) (sym at_x)
          ∙ ap (λ v. record { x = shifted l.nx c.x 0 0; y = v; z = c.z; basis = c.basis }) (sym at_y)
          ∙ ap (λ v. record { x = shifted l.nx c.x 0 0; y = shifted l.ny c.y 0 0; z = v; basis = c.basis }) (sym at_z);
    }
covers l i (suc d) j lattice less near =
    let sized : IsSized l = sized l lattice in
    let c : Spot = spot_of l i in
    elim (within_last (nb l) d i j near) [
      | inl before ↦
          let at : At l c d j (ball l.style c.basis d) = covers l i d j lattice less before in
          let is : spot_of l j ≡ record { x = shifted l.nx c.x (suc d) (at.x + 1); y = shifted l.ny c.y (suc d) (at.y + 1); z = shifted l.nz c.z (suc d) (at.z + 1); basis = at.p } =
          at.is ∙ ap (λ v. record { x = v; y = shifted l.ny c.y d at.y; z = shifted l.nz c.z d at.z; basis = at.p }) (sym (shifted_stay l.nx c.x d at.x sized.x))
          ∙ ap (λ v. record { x = shifted l.nx c.x (suc d) (at.x + 1); y = v; z = shifted l.nz c.z d at.z; basis = at.p }) (sym (shifted_stay l.ny c.y d at.y sized.y))
          ∙ ap (λ v. record { x = shifted l.nx c.x (suc d) (at.x + 1); y = shifted l.ny c.y (suc d) (at.y + 1); z = v; basis = at.p }) (sym (shifted_stay l.nz c.z d at.z sized.z)) in
          hop_to l c d j (ball l.style c.basis d) j at (record { dx = 1; dy = 1; dz = 1; basis = at.p }) sized (omega arith) (omega arith) (omega arith) at.p_small (inl refl) is
      | inr after ↦
          let m : ℕ = after.0 in
          let at : At l c d m (ball l.style c.basis d) = covers l i d m lattice less after.1 in
          let m_in : IsId l m = within_inside (nb l) (IsId l) d i m (both_ways l lattice) less after.1 in
          let k : Spot = spot_of l m in
          let cell : IsSpot l k = spot_is l m sized m_in in
          let step = next_of l m j after.2 in
          let o : Offset = step.0 in
          let fine : IsGood l.style k.basis o = good l.style k.basis o cell.basis step.1 in
          let at_j : spot_of l j ≡ moved l k o = ap (spot_of l) (sym step.2) ∙ spot_id l (moved l k o) (moved_is l k o sized fine) in
          let basis : k.basis ≡ at.p = ap (λ (w : Spot). w.basis) at.is in
          let is : spot_of l j ≡ record { x = shifted l.nx c.x (suc d) (at.x + o.dx); y = shifted l.ny c.y (suc d) (at.y + o.dy); z = shifted l.nz c.z (suc d) (at.z + o.dz); basis = o.basis } =
          at_j ∙ ap (λ (w : Spot). moved l w o) at.is
          ∙ ap (λ v. record { x = v; y = wrapped (shifted l.ny c.y d at.y) o.dy l.ny; z = wrapped (shifted l.nz c.z d at.z) o.dz l.nz; basis = o.basis }) (shifted_hop l.nx c.x d at.x o.dx sized.x)
          ∙ ap (λ v. record { x = shifted l.nx c.x (suc d) (at.x + o.dx); y = v; z = wrapped (shifted l.nz c.z d at.z) o.dz l.nz; basis = o.basis }) (shifted_hop l.ny c.y d at.y o.dy sized.y)
          ∙ ap (λ v. record { x = shifted l.nx c.x (suc d) (at.x + o.dx); y = shifted l.ny c.y (suc d) (at.y + o.dy); z = v; basis = o.basis }) (shifted_hop l.nz c.z d at.z o.dz sized.z) in
          let hop : Mem o (hops l.style at.p) = inr (subst (λ b. Mem o (offsets l.style b)) basis (mem_of (offsets l.style k.basis) o step.1)) in
          hop_to l c d j (ball l.style c.basis d) m at o sized fine.dx_less fine.dy_less fine.dz_less fine.basis_less hop is
    ]

or_left : (a b : Bool) → a ≡ true → (a || b) ≡ true
or_left true b is = refl
or_left false b is = absurd cc

or_right : (a b : Bool) → b ≡ true → (a || b) ≡ true
or_right true b is = refl
or_right false b is = is

any_of_mem : (q : ℕ) (xs : List ℕ) → Mem q xs → list_any (nat_eq q) xs ≡ true
any_of_mem q [] there = absurd there
any_of_mem q (x ∷ xs) (inl same) = or_left (nat_eq q x) (list_any (nat_eq q) xs) (grind (arith, nat_tests))
any_of_mem q (x ∷ xs) (inr there) = or_right (nat_eq q x) (list_any (nat_eq q) xs) (any_of_mem q xs there)

equal_of : (a b : ℕ) → nat_eq a b ≡ true → a ≡ b
equal_of a b is = grind (arith, nat_tests)

apart_of : (a b : ℕ) → a ≢ b → nat_eq a b ≡ false
apart_of a b is = grind (arith, nat_tests)

-- distinct numbers of a list are no more than the list has
no_more_than : (xs ys : List ℕ) → AllPairs (λ a b. a ≢ b) xs → ((q : ℕ) → Contains xs q → Mem q ys) → length xs ≤ length ys
no_more_than xs ys once within =
    length-le_from_is_member nat_eq_equiv xs ys
    (IsDistinct-from_apart nat_eq xs (λ i j d less inside. apart_of (get_or xs i d) (get_or xs j d) (once i j d less inside)))
    (λ q is.
    let there = Any-from_list_any (nat_eq q) xs is in
    let same : q ≡ there.1 = equal_of q there.1 there.4 in
    any_of_mem q ys (within q (there.0, there.2, get_or_default xs there.0 q there.1 there.2 ∙ there.3 ∙ sym same)))

-- the site of a code of the ball
abbrev site_by : Layout → Spot → ℕ → ℕ → ℕ
site_by l start d c = id_of l (record { x = shifted l.nx start.x d (c / 4 % 16); y = shifted l.ny start.y d (c / 64 % 16); z = shifted l.nz start.z d (c / 1024); basis = c % 4 })

decoded : (x y z p : ℕ) → x < 16 → y < 16 → p < 4 → (code x y z p / 4 % 16 ≡ x) × (code x y z p / 64 % 16 ≡ y) × (code x y z p / 1024 ≡ z) × (code x y z p % 4 ≡ p)
decoded x y z p x_less y_less p_less = (omega arith, omega arith, omega arith, omega arith)

pub at_most_spread : (l : Layout) (i d : ℕ) → IsLattice l → IsId l i → d ≤ 7 → ReachesAtMost (nb l) d i (spread l.style d)
unfolding ReachesAtMost spread
at_most_spread l i d lattice less few = λ xs once near.
    let sized : IsSized l = sized l lattice in
    let c : Spot = spot_of l i in
    let cells : List ℕ = ball l.style c.basis d in
    let cell : IsSpot l c = spot_is l i sized less in
    let within : (q : ℕ) → Contains xs q → Mem q (map (site_by l c d) cells) = λ q there.
    let reached : IsWithin (nb l) d i q = All-contains (λ j. IsWithin (nb l) d i j) xs q near there in
    let exists : IsId l q = within_inside (nb l) (IsId l) d i q (both_ways l lattice) less reached in
    let at : At l c d q cells = covers l i d q lattice less reached in
    let read = decoded at.x at.y at.z at.p (omega (arith, at.x_small)) (omega (arith, at.y_small)) (points_small l at.p at.p_small) in
    let site : site_by l c d (code at.x at.y at.z at.p) ≡ q =
    ap (λ v. id_of l (record { x = shifted l.nx c.x d v; y = shifted l.ny c.y d (code at.x at.y at.z at.p / 64 % 16); z = shifted l.nz c.z d (code at.x at.y at.z at.p / 1024); basis = code at.x at.y at.z at.p % 4 })) read.0
    ∙ ap (λ v. id_of l (record { x = shifted l.nx c.x d at.x; y = shifted l.ny c.y d v; z = shifted l.nz c.z d (code at.x at.y at.z at.p / 1024); basis = code at.x at.y at.z at.p % 4 })) read.1
    ∙ ap (λ v. id_of l (record { x = shifted l.nx c.x d at.x; y = shifted l.ny c.y d at.y; z = shifted l.nz c.z d v; basis = code at.x at.y at.z at.p % 4 })) read.2
    ∙ ap (λ v. id_of l (record { x = shifted l.nx c.x d at.x; y = shifted l.ny c.y d at.y; z = shifted l.nz c.z d at.z; basis = v })) read.3
    ∙ ap (id_of l) (sym at.is) ∙ id_spot l q exists in
    subst (λ k. Mem k (map (site_by l c d) cells)) site (mem_map (site_by l c d) cells (code at.x at.y at.z at.p) at.there) in
    let most : length xs ≤ length (map (site_by l c d) cells) = no_more_than xs (map (site_by l c d) cells) once within in
    omega (arith, most, length-map cells (site_by l c d), most_of l.style d c.basis (basis_of l.style) cell.basis)
