-- Neighbours read off the table.
use Rattle.std.proofs.Common.{◌≡◌, ℕ, zero, suc, ◌+◌, ◌-◌, ◌*◌, ◌<◌, ◌≤◌, ◌⊎◌, inl, inr, ◌++◌, List, [], ◌∷◌, map, length, get_or, refl, sym, ap, ◌∙◌, subst, arith, true, false, take, set, replicate}
use Rattle.std.proofs.lemmas.List.{length-map, get_or-map, get_or_append_left, take_more, take_more_set, take_all}
use Rattle.std.proofs.lemmas.List.Elements.{Contains-get_or}
use Rattle.std.proofs.lemmas.Bool.Decides.{nat_tests}
use Rattle.std.proofs.lemmas.Int.{ints}
use Rattle.std.specs.Prelude.{Contains, Bool, ◌&&◌, ◌||◌, ◌==◌, nat_lt, ℤ, pos, ◌+ℤ◌, ◌-ℤ◌}
use Rattle.spk_lattice.specs.declared.table.Row.{Row}
use Rattle.spk_lattice.specs.declared.table.Step.{Step}
use Rattle.spk_lattice.specs.Layout.{Layout, IsLattice, basis_of, dimensions_of}
use Rattle.spk_lattice.specs.Neighbours.{Spot, IsSpot, IsId, Offset, id_of, spot_of, wrapped, moved, offsets, degree_of, nb}
use Rattle.spk_lattice.specs.Table.{is_between, is_inner, ahead, own, step_of, no_step, filled, table_of}
use Rattle.spk_lattice.proofs.Tables.{IsGood, good, few}
use Rattle.spk_lattice.proofs.Spots.{sized, basis_small, spot_is, id_spot, id_less, wrapped_inside, wrapped_stays}
use Rattle.spk_lattice.proofs.Rows.{row_is}
use Rattle.spk_lattice.proofs.Ways.{nb_is, no_offset, moved_is, length_is, near_degree}

and_both : (a b : Bool) → (a && b) ≡ true → (a ≡ true) × (b ≡ true)
and_both true b is = (refl, is)
and_both false b is = absurd cc

or_either : (a b : Bool) → (a || b) ≡ true → (a ≡ true) ⊎ (b ≡ true)
or_either true b is = inl refl
or_either false b is = inr is

less_of : (a b : ℕ) → nat_lt a b ≡ true → a < b
less_of a b is = grind (arith, nat_tests)

equal_of : (a b : ℕ) → (a == b) ≡ true → a ≡ b
equal_of a b is = grind (arith, nat_tests)

straight_inside : (n x d : ℕ) → is_between x n ≡ true → d < 3 → wrapped x d n + 1 ≡ x + d
straight_inside n x d is less =
    let both = and_both (nat_lt 0 x) (nat_lt (x + 1) n) is in
    wrapped_inside n x d (less_of 0 x both.0) (less_of (x + 1) n both.1) less

straight_along : (n x d used least : ℕ) → ((n == 1) || is_between x n) ≡ true → x < n → d < 3 → (used ≤ least → d ≡ 1) → (suc least ≤ used → 3 ≤ n) → wrapped x d n + 1 ≡ x + d
straight_along n x d used least is there less stays full =
    elim (or_either (n == 1) (is_between x n) is) [
      | inl one ↦
          let single : n ≡ 1 = equal_of n 1 one in
          let cases : (used ≤ least) ⊎ (suc least ≤ used) = grind arith in
          elim cases [
            | inl flat ↦
                let is_one : d ≡ 1 = stays flat in
                let same : wrapped x 1 n ≡ x = wrapped_stays n x there in
                subst (λ w. wrapped x w n + 1 ≡ x + w) (sym is_one) (ap (λ w. w + 1) same)
            | inr more ↦ let big : 3 ≤ n = full more in absurd (omega arith)
          ]
      | inr between ↦ straight_inside n x d between less
    ]

sums : (p nx ny mx my mz b c : ℕ)
    → (1 + c + p * (mx + nx * (my + ny * mz))) + (1 + b + p * (1 + nx * (1 + ny * 1))) ≡ 2 + b + c + p * ((mx + 1) + nx * ((my + 1) + ny * (mz + 1)))
sums p nx ny mx my mz b c = grind arith

also : (p nx ny x y z dx dy dz b c : ℕ)
    → (1 + b + p * (x + nx * (y + ny * z))) + (1 + c + p * (dx + nx * (dy + ny * dz))) ≡ 2 + b + c + p * ((x + dx) + nx * ((y + dy) + ny * (z + dz)))
also p nx ny x y z dx dy dz b c = grind arith

-- away from the rim an id changes by the step's difference
straight : (l : Layout) (s : Spot) (o : Offset) → IsLattice l → IsSpot l s → IsGood l.style s.basis o → is_inner l s ≡ true
    → id_of l (moved l s o) + id_of l (own s.basis) ≡ id_of l s + id_of l (ahead o)
straight l s o lattice spot is inner =
    let last = and_both (is_between s.x l.nx && ((l.ny == 1) || is_between s.y l.ny)) ((l.nz == 1) || is_between s.z l.nz) inner in
    let first = and_both (is_between s.x l.nx) ((l.ny == 1) || is_between s.y l.ny) last.0 in
    let p : ℕ = basis_of l.style in
    let x : wrapped s.x o.dx l.nx + 1 ≡ s.x + o.dx = straight_inside l.nx s.x o.dx first.0 is.dx_less in
    let y : wrapped s.y o.dy l.ny + 1 ≡ s.y + o.dy = straight_along l.ny s.y o.dy (dimensions_of l.style) 1 first.1 spot.y is.dy_less is.dy_stays lattice.along_y in
    let z : wrapped s.z o.dz l.nz + 1 ≡ s.z + o.dz = straight_along l.nz s.z o.dz (dimensions_of l.style) 2 last.1 spot.z is.dz_less is.dz_stays lattice.along_z in
    sums p l.nx l.ny (wrapped s.x o.dx l.nx) (wrapped s.y o.dy l.ny) (wrapped s.z o.dz l.nz) s.basis o.basis
    ∙ ap (λ w. 2 + s.basis + o.basis + p * (w + l.nx * ((wrapped s.y o.dy l.ny + 1) + l.ny * (wrapped s.z o.dz l.nz + 1)))) x
    ∙ ap (λ w. 2 + s.basis + o.basis + p * ((s.x + o.dx) + l.nx * (w + l.ny * (wrapped s.z o.dz l.nz + 1)))) y
    ∙ ap (λ w. 2 + s.basis + o.basis + p * ((s.x + o.dx) + l.nx * ((s.y + o.dy) + l.ny * w))) z
    ∙ sym (also p l.nx l.ny s.x s.y s.z o.dx o.dy o.dz s.basis o.basis)

pub straight_id : (l : Layout) (id : ℕ) (s : Spot) (o : Offset) → IsLattice l → IsId l id → s ≡ spot_of l id → Contains (offsets l.style s.basis) o → is_inner l s ≡ true
    → id_of l (moved l s o) + id_of l (own s.basis) ≡ id + id_of l (ahead o)
straight_id l id s o lattice exists s_is there inner =
    let spot : IsSpot l s = subst (IsSpot l) (sym s_is) (spot_is l id (sized l lattice) exists) in
    let same : id_of l s ≡ id = ap (id_of l) s_is ∙ id_spot l id exists in
    straight l s o lattice spot (good l.style s.basis o spot.basis there) inner ∙ ap (λ w. w + id_of l (ahead o)) same

pub spot_exists : (l : Layout) (id : ℕ) (s : Spot) → IsLattice l → IsId l id → s ≡ spot_of l id → IsSpot l s
spot_exists l id s lattice exists s_is = subst (IsSpot l) (sym s_is) (spot_is l id (sized l lattice) exists)

pub step_good : (l : Layout) (id : ℕ) (s : Spot) (o : Offset) → IsLattice l → IsId l id → s ≡ spot_of l id → Contains (offsets l.style s.basis) o → IsGood l.style s.basis o
step_good l id s o lattice exists s_is there = good l.style s.basis o (spot_exists l id s lattice exists s_is).basis there

pub moved_exists : (l : Layout) (id : ℕ) (s : Spot) (o : Offset) → IsLattice l → IsId l id → s ≡ spot_of l id → Contains (offsets l.style s.basis) o → IsSpot l (moved l s o)
moved_exists l id s o lattice exists s_is there = moved_is l s o (sized l lattice) (step_good l id s o lattice exists s_is there)

pub moved_id : (l : Layout) (id : ℕ) (s : Spot) (o : Offset) → IsLattice l → IsId l id → s ≡ spot_of l id → Contains (offsets l.style s.basis) o → id_of l (moved l s o) ≤ 4194304
moved_id l id s o lattice exists s_is there = omega (arith, id_less l (moved l s o) (moved_exists l id s o lattice exists s_is there), lattice.limit)

from_sum : (id a b n : ℕ) (d : ℤ) → d ≡ pos a -ℤ pos b → n + b ≡ id + a → pos id +ℤ d ≡ pos n
from_sum id a b n d is sum = omega (arith, ints)

-- the difference of a step leads to the neighbour
pub difference_is : (l : Layout) (id : ℕ) (s : Spot) (step : Step) → IsLattice l → IsId l id → s ≡ spot_of l id → Contains (offsets l.style s.basis) step.offset → step ≡ step_of l s.basis step.offset → is_inner l s ≡ true
    → pos id +ℤ step.difference ≡ pos (id_of l (moved l s step.offset))
difference_is l id s step lattice exists s_is there step_is inner =
    let o : Offset = step.offset in
    let difference : step.difference ≡ pos (id_of l (ahead o)) -ℤ pos (id_of l (own s.basis)) = ap (λ (w : Step). w.difference) step_is in
    from_sum id (id_of l (ahead o)) (id_of l (own s.basis)) (id_of l (moved l s o)) step.difference difference (straight_id l id s o lattice exists s_is there inner)

pub table_row : (l : Layout) (b : ℕ) (table : List Row) (d : Row) → table ≡ table_of l → b < basis_of l.style → get_or table b d ≡ filled (map (step_of l b) (offsets l.style b))
table_row l zero table d is less = rw is (row_is l 0 less)
table_row l (suc zero) table d is less = rw is (row_is l 1 less)
table_row l (suc (suc zero)) table d is less = rw is (row_is l 2 less)
table_row l (suc (suc (suc zero))) table d is less = rw is (row_is l 3 less)
table_row l (suc (suc (suc (suc b)))) table d is less = absurd (omega (arith, basis_small l.style))

pub row_count : (l : Layout) (b : ℕ) (row : Row) → row ≡ filled (map (step_of l b) (offsets l.style b)) → row.count ≡ length (offsets l.style b)
row_count l b row is = ap (λ (r : Row). r.count) is ∙ length-map (offsets l.style b) (step_of l b)

pub row_step : (l : Layout) (b k : ℕ) (row : Row) (d : Step) → row ≡ filled (map (step_of l b) (offsets l.style b)) → k < row.count
    → get_or row.steps k d ≡ step_of l b (get_or (offsets l.style b) k no_offset)
row_step l b k row d is less =
    let os : List Offset = offsets l.style b in
    let steps : List Step = map (step_of l b) os in
    let count : row.count ≡ length os = row_count l b row is in
    let mapped : length steps ≡ length os = length-map os (step_of l b) in
    let within : k < length steps = omega arith in
    let inside : k < length os = omega arith in
    ap (λ (r : Row). get_or r.steps k d) is
    ∙ get_or_append_left steps (replicate (26 - length steps) no_step) d k within
    ∙ get_or-map (step_of l b) os k no_offset d inside

pub nb_at : (l : Layout) (id k : ℕ) → k < length (offsets l.style (spot_of l id).basis)
    → get_or (nb l id) k 0 ≡ id_of l (moved l (spot_of l id) (get_or (offsets l.style (spot_of l id).basis) k no_offset))
nb_at l id k less =
    ap (λ (xs : List ℕ). get_or xs k 0) (nb_is l id) ∙ get_or-map (λ o. id_of l (moved l (spot_of l id) o)) (offsets l.style (spot_of l id).basis) k no_offset 0 less

pub next_id : (near ids : List ℕ) (k v : ℕ) → k < length ids → k < length near → take k ids ≡ take k near → v ≡ get_or near k 0 → take (k + 1) (set ids k v) ≡ take (k + 1) near
next_id near ids k v less within so_far is =
    take_more_set ids k v less ∙ ap (λ (xs : List ℕ). xs ++ v ∷ []) so_far ∙ ap (λ w. take k near ++ w ∷ []) is ∙ sym (take_more near k 0 within)

pub read_few : (l : Layout) (b : ℕ) (row : Row) → row ≡ filled (map (step_of l b) (offsets l.style b)) → row.count ≤ 26
read_few l b row is = omega (arith, row_count l b row is, few l.style b)

pub read_leads : (l : Layout) (b k : ℕ) (row : Row) (d : Step) → row ≡ filled (map (step_of l b) (offsets l.style b)) → k < row.count
    → Contains (offsets l.style b) (get_or row.steps k d).offset
read_leads l b k row d is less =
    let os : List Offset = offsets l.style b in
    let within : k < length os = omega (arith, row_count l b row is) in
    let offset : (get_or row.steps k d).offset ≡ get_or os k no_offset = ap (λ (w : Step). w.offset) (row_step l b k row d is less) in
    subst (λ (o : Offset). Contains os o) (sym offset) (Contains-get_or os k no_offset within)

pub read_step : (l : Layout) (b k : ℕ) (row : Row) (d : Step) → row ≡ filled (map (step_of l b) (offsets l.style b)) → k < row.count
    → get_or row.steps k d ≡ step_of l b (get_or row.steps k d).offset
read_step l b k row d is less =
    let step = row_step l b k row d is less in
    step ∙ ap (λ (w : Step). step_of l b w.offset) (sym step)

-- how many there are is the same for each site
pub read_count : (l : Layout) (id k : ℕ) (s : Spot) (row : Row) → IsLattice l → IsId l id
    → row ≡ filled (map (step_of l s.basis) (offsets l.style s.basis))
    → s ≡ spot_of l id
    → k < degree_of l.style
    → k < row.count
read_count l id k s row lattice exists is s_is less =
    let count : row.count ≡ length (offsets l.style (spot_of l id).basis) = row_count l s.basis row is ∙ ap (λ (w : Spot). length (offsets l.style w.basis)) s_is in
    omega (arith, less, count, length_is l id, near_degree l id lattice exists)

pub read_one : (l : Layout) (id k v : ℕ) (s : Spot) (row : Row) (d : Step)
    → row ≡ filled (map (step_of l s.basis) (offsets l.style s.basis))
    → k < row.count
    → s ≡ spot_of l id
    → v ≡ id_of l (moved l s (get_or row.steps k d).offset)
    → v ≡ get_or (nb l id) k 0
read_one l id k v s row d is less s_is v_is =
    let count : row.count ≡ length (offsets l.style (spot_of l id).basis) = row_count l s.basis row is ∙ ap (λ (w : Spot). length (offsets l.style w.basis)) s_is in
    let within : k < length (offsets l.style (spot_of l id).basis) = omega (arith, count) in
    let offset : (get_or row.steps k d).offset ≡ get_or (offsets l.style s.basis) k no_offset = ap (λ (w : Step). w.offset) (row_step l s.basis k row d is less) in
    v_is ∙ ap (λ (o : Offset). id_of l (moved l s o)) offset ∙ ap (λ (w : Spot). id_of l (moved l w (get_or (offsets l.style w.basis) k no_offset))) s_is ∙ sym (nb_at l id k within)

pub read_next : (l : Layout) (id k v : ℕ) (s : Spot) (row : Row) (d : Step) (ids : List ℕ)
    → row ≡ filled (map (step_of l s.basis) (offsets l.style s.basis))
    → k < row.count
    → s ≡ spot_of l id
    → length ids ≡ 26
    → take k ids ≡ take k (nb l id)
    → v ≡ id_of l (moved l s (get_or row.steps k d).offset)
    → take (k + 1) (set ids k v) ≡ take (k + 1) (nb l id)
read_next l id k v s row d ids is less s_is all so_far v_is =
    let count : row.count ≡ length (offsets l.style (spot_of l id).basis) = row_count l s.basis row is ∙ ap (λ (w : Spot). length (offsets l.style w.basis)) s_is in
    let room : k < length ids = omega (arith, read_few l s.basis row is) in
    let near : k < length (nb l id) = omega (arith, count, length_is l id) in
    let there : v ≡ get_or (nb l id) k 0 = read_one l id k v s row d is less s_is v_is in
    next_id (nb l id) ids k v room near so_far there

pub read_all : (l : Layout) (id k : ℕ) (s : Spot) (row : Row) (ids : List ℕ)
    → row ≡ filled (map (step_of l s.basis) (offsets l.style s.basis))
    → k ≡ row.count
    → s ≡ spot_of l id
    → take k ids ≡ take k (nb l id)
    → take row.count ids ≡ nb l id
read_all l id k s row ids is all s_is so_far =
    let count : row.count ≡ length (offsets l.style (spot_of l id).basis) = row_count l s.basis row is ∙ ap (λ (w : Spot). length (offsets l.style w.basis)) s_is in
    let enough : length (nb l id) ≤ row.count = omega (arith, length_is l id, count) in
    subst (λ n. take n ids ≡ take n (nb l id)) all so_far ∙ take_all row.count (nb l id) enough
