-- The row of a basis point, step by step.
use Rattle.std.proofs.Common.{◌≡◌, ℕ, suc, ◌+◌, ◌-◌, ◌*◌, ◌<◌, ◌≤◌, ◌++◌, List, [], ◌∷◌, map, length, get_or, refl, sym, ap, ◌∙◌, subst, arith, true, false, cond, take, drop, set, replicate, append_assoc}
use Rattle.std.proofs.Math.Seq.{set-append_seam}
use Rattle.std.proofs.lemmas.List.{length-map, map-append, length-append, take-append-drop, append-nil}
use Rattle.std.proofs.lemmas.List.FromFn.{filter_of_map_range_with_len_more, take-map-range_with_len}
use Rattle.std.proofs.lemmas.List.Elements.{filter-append}
use Rattle.std.proofs.lemmas.Bool.Decides.{nat_tests}
use Rattle.std.specs.Prelude.{filter, Bool, IsTrue, nat_lt}
use Rattle.std.specs.List.{range_with_len}
use Rattle.spk_lattice.specs.declared.table.Row.{Row}
use Rattle.spk_lattice.specs.declared.table.Step.{Step}
use Rattle.spk_lattice.specs.declared.table.Offset.{Offset}
use Rattle.spk_lattice.specs.Layout.{Layout, basis_of}
use Rattle.spk_lattice.specs.Neighbours.{offsets, leads, offset_at, degree_of}
use Rattle.spk_lattice.specs.Table.{step_of, no_step, filled, added, steps_of, first_steps, row_at, table_of}
use Rattle.spk_lattice.proofs.Spots.{some_basis}
use Rattle.spk_lattice.proofs.Tables.{few}

added_steps : (xs : List Step) (s : Step) (n : ℕ) → length xs + suc n ≡ 26 → set (xs ++ replicate (26 - length xs) no_step) (length xs) s ≡ (xs ++ s ∷ []) ++ replicate (26 - (length xs + 1)) no_step
added_steps xs s n is =
    let before : 26 - length xs ≡ suc n = omega arith in
    let after : 26 - (length xs + 1) ≡ n = omega arith in
    rw (before, after) (set-append_seam xs no_step (replicate n no_step) s ∙ sym (append_assoc xs (s ∷ []) (replicate n no_step)))

pub added_filled : (xs : List Step) (s : Step) → length xs < 26 → added (filled xs) s ≡ filled (xs ++ s ∷ [])
added_filled xs s less =
    let longer : length (xs ++ s ∷ []) ≡ length xs + 1 = length-append xs (s ∷ []) in
    let steps = added_steps xs s (25 - length xs) (omega arith) in
    rw longer (ap (λ (w : List Step). record { count = length xs + 1; steps = w }) steps)

map_cond : (f : Offset → Step) (b : Bool) (o : Offset) → map f (cond b (o ∷ []) []) ≡ cond b (f o ∷ []) []
map_cond f true o = refl
map_cond f false o = refl

first_more : (l : Layout) (b points k : ℕ) (o : Offset)
    → o ≡ offset_at points k
    → first_steps l b points (k + 1) ≡ first_steps l b points k ++ cond (leads l.style b o) (step_of l b o ∷ []) []
unfolding first_steps
first_more l b points k o is =
    let f : Offset → Step = step_of l b in
    let before : List Offset = filter (leads l.style b) (map (offset_at points) (range_with_len 0 k)) in
    ap (map f) (filter_of_map_range_with_len_more (leads l.style b) (offset_at points) 0 k k (omega arith))
    ∙ map-append f before (cond (leads l.style b (offset_at points k)) (offset_at points k ∷ []) [])
    ∙ ap (λ ys. map f before ++ ys) (map_cond f (leads l.style b (offset_at points k)) (offset_at points k))
    ∙ ap (λ (x : Offset). map f before ++ cond (leads l.style b x) (f x ∷ []) []) (sym is)

-- no prefix has more than all
first_few : (l : Layout) (b points k : ℕ) → points ≡ basis_of l.style → k ≤ 27 * points → length (first_steps l b points k) ≤ 26
unfolding first_steps offsets
first_few l b points k is within =
    let p : Offset → Bool = leads l.style b in
    let whole : List Offset = map (offset_at points) (range_with_len 0 (27 * points)) in
    let front : take k whole ≡ map (offset_at points) (range_with_len 0 k) = take-map-range_with_len (offset_at points) 0 (27 * points) k within in
    let split : filter p whole ≡ filter p (take k whole) ++ filter p (drop k whole) = ap (filter p) (sym (take-append-drop k whole)) ∙ filter-append p (take k whole) (drop k whole) in
    let sum : length (filter p whole) ≡ length (filter p (take k whole)) + length (filter p (drop k whole)) = ap length split ∙ length-append (filter p (take k whole)) (filter p (drop k whole)) in
    let most : length (offsets l.style b) ≤ 26 = few l.style b in
    let table : offsets l.style b ≡ filter p whole = rw is refl in
    let small : length (filter p whole) ≤ 26 = subst (λ (xs : List Offset). length xs ≤ 26) table most in
    let mapped = length-map (filter p (map (offset_at points) (range_with_len 0 k))) (step_of l b) in
    let same : length (filter p (take k whole)) ≡ length (filter p (map (offset_at points) (range_with_len 0 k))) = ap (λ (xs : List Offset). length (filter p xs)) front in
    omega (arith, mapped, same, sum, small)

pub first_none : (l : Layout) (b points : ℕ) → filled [] ≡ filled (first_steps l b points 0)
unfolding first_steps
first_none l b points = refl

-- where one more leads to a neighbour, there is room for it
pub first_room : (l : Layout) (b points k : ℕ) (o : Offset) (row : Row)
    → points ≡ basis_of l.style
    → k < 27 * points
    → o ≡ offset_at points k
    → row ≡ filled (first_steps l b points k)
    → IsTrue (leads l.style b o)
    → row.count < 26
first_room l b points k o row is within at row_is does =
    let more : List Step = step_of l b o ∷ [] in
    let chosen : cond (leads l.style b o) more [] ≡ more = rw does refl in
    let longer : first_steps l b points (k + 1) ≡ first_steps l b points k ++ more = first_more l b points k o at ∙ ap (λ (ys : List Step). first_steps l b points k ++ ys) chosen in
    let one : length (first_steps l b points (k + 1)) ≡ length (first_steps l b points k) + length more = ap length longer ∙ length-append (first_steps l b points k) more in
    let count : row.count ≡ length (first_steps l b points k) = ap (λ (r : Row). r.count) row_is in
    omega (arith, one, count, first_few l b points (k + 1) is (omega arith))

one_step : (test : Bool) (xs : List Step) (s : Step) → (test ≡ true → length xs < 26) → cond test (added (filled xs) s) (filled xs) ≡ filled (xs ++ cond test (s ∷ []) [])
one_step true xs s room = added_filled xs s (room refl)
one_step false xs s room = ap filled (sym (append-nil xs))

pub first_step : (l : Layout) (b points k : ℕ) (o : Offset) (row new : Row)
    → points ≡ basis_of l.style
    → k < 27 * points
    → o ≡ offset_at points k
    → row ≡ filled (first_steps l b points k)
    → new ≡ cond (leads l.style b o) (added row (step_of l b o)) row
    → new ≡ filled (first_steps l b points (k + 1))
first_step l b points k o row new is within at row_is new_is =
    let xs : List Step = first_steps l b points k in
    let s : Step = step_of l b o in
    let test : Bool = leads l.style b o in
    new_is
    ∙ ap (λ (r : Row). cond test (added r s) r) row_is
    ∙ one_step test xs s (λ does. first_room l b points k o (filled xs) is within at refl does)
    ∙ ap filled (sym (first_more l b points k o at))

steps_are : (l : Layout) (b : ℕ) → b < basis_of l.style → steps_of l b ≡ map (step_of l b) (offsets l.style b)
steps_are l b less = let is : nat_lt b (basis_of l.style) ≡ true = grind (arith, nat_tests) in rw is refl

pub first_all : (l : Layout) (b points k : ℕ) (row : Row)
    → points ≡ basis_of l.style
    → b < points
    → k ≡ 27 * points
    → row ≡ filled (first_steps l b points k)
    → row ≡ row_at l b
unfolding first_steps offsets row_at
first_all l b points k row is less all row_is =
    row_is ∙ ap filled (rw (all, is) (sym (steps_are l b (omega arith))))

pub first_past : (l : Layout) (b points : ℕ) → points ≡ basis_of l.style → points ≤ b → filled [] ≡ row_at l b
unfolding row_at
first_past l b points is past = let less : nat_lt b (basis_of l.style) ≡ false = grind (arith, nat_tests) in rw less refl

-- what a row holds
pub row_is : (l : Layout) (b : ℕ) → b < basis_of l.style → row_at l b ≡ filled (map (step_of l b) (offsets l.style b))
unfolding row_at
row_is l b less = ap filled (steps_are l b less)

-- the table's first row counts the neighbours of a site
pub degree_is : (l : Layout) (table : List Row) (row : Row) → table_of l ≡ table → (get_or table 0 row).count ≡ degree_of l.style
unfolding degree_of
degree_is l table row are =
    let first : get_or table 0 row ≡ row_at l 0 = ap (λ (rows : List Row). get_or rows 0 row) (sym are) in
    ap (λ (r : Row). r.count) (first ∙ row_is l 0 (some_basis l.style)) ∙ length-map (offsets l.style 0) (step_of l 0)
