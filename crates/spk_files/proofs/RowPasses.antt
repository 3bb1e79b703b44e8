-- The lines of a text of sites have no fault.
use Rattle.std.proofs.Common.{◌≡◌, ℕ, ◌+◌, ◌^◌, ◌<◌, ◌≤◌, ◌==◌, true, false, cond, List, [], ◌∷◌, ◌++◌, length, decimal, Some, None, refl, sym, ap, ◌∙◌, subst, arith, append_assoc}
use Rattle.std.proofs.lemmas.Bool.Decides.{nat_tests}
use Rattle.std.proofs.lemmas.List.Elements.{All-head, All-tail, filter_map-append}
use Rattle.std.specs.List.{All, filter_map, cons_option}
use Rattle.std.specs.Prelude.{nat_le}
use Rattle.spk_files.specs.Lines.{Line}
use Rattle.spk_files.specs.SiteFiles.{Wanted, Row, row_of, row_on, value_in, or_else, row_fault, line_fault, end_fault, first_fault}
use Rattle.spk_files.proofs.Printed.{whole_of_decimal}
use Rattle.spk_files.proofs.TextLines.{row_lines, whole_file}

-- no row has this id or a greater one
abbrev pub IsFreeFrom : ℕ → List Row → Type 0
IsFreeFrom id rows = (k : ℕ) → id ≤ k → value_in rows k ≡ None

-- rows after those that don't have an id
pub value_after : (rows more : List Row) (id : ℕ) → value_in rows id ≡ None → value_in (rows ++ more) id ≡ value_in more id
value_after [] more id none = refl
value_after (row ∷ rows) more id none =
    elim (row.id == id) as (λ b. cond b (Some row.value) (value_in rows id) ≡ None → cond b (Some row.value) (value_in (rows ++ more) id) ≡ value_in more id) [
      | true ↦ λ is. absurd cc
      | false ↦ λ is. value_after rows more id is
    ] none

-- one row more
pub free_after : (rows : List Row) (id value : ℕ) → IsFreeFrom id rows → IsFreeFrom (id + 1) (rows ++ row_of id value ∷ [])
free_after rows id value free k above =
    let other : (id == k) ≡ false = grind (arith, nat_tests) in
    value_after rows (row_of id value ∷ []) k (free k (omega arith)) ∙ rw other refl

-- the line of a row
pub row_on_line : (id value : ℕ) → id < 2 ^ 32 → value < 2 ^ 32 → row_on (decimal id ∷ decimal value ∷ []) ≡ Some (row_of id value)
row_on_line id value id_fits value_fits = rw (whole_of_decimal id id_fits, whole_of_decimal value value_fits) refl

-- a row with an id and a value in their ranges, where no row before has the id
pub row_passes : (wanted : Wanted) (rows : List Row) (number id value : ℕ) → 1 ≤ id → id ≤ wanted.sites → 1 ≤ value → value ≤ wanted.largest → value_in rows id ≡ None →
    row_fault wanted rows number (Some (row_of id value)) ≡ None
row_passes wanted rows number id value id_low id_high value_low value_high free =
    let id_above : nat_le 1 id ≡ true = grind (arith, nat_tests) in
    let id_below : nat_le id wanted.sites ≡ true = grind (arith, nat_tests) in
    let value_above : nat_le 1 value ≡ true = grind (arith, nat_tests) in
    let value_below : nat_le value wanted.largest ≡ true = grind (arith, nat_tests) in
    rw (id_above, id_below, free, value_above, value_below) refl

-- what is so of the values in a file
pub record AreWanted (wanted : Wanted) (values : List ℕ) : Type 0 where
  pub positive : All (λ value. 1 ≤ value) values
  pub small : All (λ value. value ≤ wanted.largest) values
  pub fit : All (λ value. value < 2 ^ 32) values

-- from an id on, all lines of rows pass
pub rows_pass : (wanted : Wanted) (first : Line) (sites : ℕ) (lines : List Line) (id : ℕ) (values : List ℕ) → wanted.sites < 2 ^ 32 → 1 ≤ id → id + length values ≤ wanted.sites + 1 →
    AreWanted wanted values → IsFreeFrom id (filter_map row_on lines) →
    first_fault wanted (whole_file first sites lines) (row_lines id values) ≡ end_fault wanted (whole_file first sites (lines ++ row_lines id values))
rows_pass wanted first sites lines id [] few low high are free = refl
rows_pass wanted first sites lines id (value ∷ values) few low high are free =
    let line : Line = decimal id ∷ decimal value ∷ [] in
    let on : row_on line ≡ Some (row_of id value) = row_on_line id value (omega arith) (All-head (λ v. v < 2 ^ 32) value values are.fit) in
    let positive : 1 ≤ value = All-head (λ v. 1 ≤ v) value values are.positive in
    let small : value ≤ wanted.largest = All-head (λ v. v ≤ wanted.largest) value values are.small in
    let passes : line_fault wanted (whole_file first sites lines) line ≡ None =
    ap (row_fault wanted (filter_map row_on lines) (length (whole_file first sites lines) + 1)) on
    ∙ row_passes wanted (filter_map row_on lines) (length (whole_file first sites lines) + 1) id value low (omega arith) positive small (free id (omega arith)) in
    let others : AreWanted wanted values = record {
      positive = All-tail (λ v. 1 ≤ v) value values are.positive;
      small = All-tail (λ v. v ≤ wanted.largest) value values are.small;
      fit = All-tail (λ v. v < 2 ^ 32) value values are.fit;
    } in
    let rows_are : filter_map row_on (lines ++ line ∷ []) ≡ filter_map row_on lines ++ row_of id value ∷ [] =
    filter_map-append row_on lines (line ∷ []) ∙ ap (λ row. filter_map row_on lines ++ cons_option row []) on in
    ap (λ fault. or_else fault (first_fault wanted (whole_file first sites (lines ++ line ∷ [])) (row_lines (id + 1) values))) passes
    ∙ rows_pass wanted first sites (lines ++ line ∷ []) (id + 1) values few (omega arith) (omega arith) others
    (subst (IsFreeFrom (id + 1)) (sym rows_are) (free_after (filter_map row_on lines) id value free))
    ∙ ap (λ all. end_fault wanted (whole_file first sites all)) (append_assoc lines (line ∷ []) (row_lines (id + 1) values))
