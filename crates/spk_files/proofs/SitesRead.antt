-- A site file with a heading and one row for each site is read.
use Rattle.std.proofs.Common.{◌≡◌, ℕ, ◌+◌, ◌-◌, ◌<◌, ◌≤◌, ◌==◌, Bool, true, false, ◌||◌, cond, List, [], ◌∷◌, ◌++◌, length, get_or, Option, Some, None, Result, Ok, Vec, inl, inr, refl, sym, ap, ◌∙◌, subst, arith, append_assoc, append-nil, length-append}
use Rattle.std.proofs.lemmas.Bool.{cases_Bool, cond-false, cond-true}
use Rattle.std.proofs.lemmas.Bool.Decides.{nat_tests}
use Rattle.std.proofs.lemmas.List.{get_or_at, get_or_default, nil_from_length, same_lists}
use Rattle.std.proofs.lemmas.List.Elements.{All-from_get_or, All-head, All-same, All-tail, filter-append, filter_map-append}
use Rattle.std.proofs.lemmas.List.Folds.{list_any-from_Any}
use Rattle.std.proofs.lemmas.List.FromFn.{get_or-map-range_with_len, get_or-range_with_len, length-map-range_with_len, length-range_with_len}
use Rattle.std.proofs.lemmas.Slice.Eq.{bytes_eq-Decides}
use Rattle.std.specs.List.{All, Any, after_first as lines_after, before_first, cons_option, filter_map, find, list_any}
use Rattle.std.specs.Option.{IfSome, IsSome, is_none, is_some, option_map}
use Rattle.std.specs.Prelude.{codes, slice_index, unwrap_or}
use Rattle.std.specs.declared.alloc.Global.{Global}
use Rattle.spk_files.specs.Lines.{Line, lines_of}
use Rattle.spk_files.specs.SiteFiles.{IsReadOrMemory, Wanted, Row, row_of, row_on, begins_other, begins_values, count_on, count_fault, has_count, has_values, heading_fault, ids, line_fault, end_fault, first_fault, or_else, row_fault, rows_in, rows_of, site_file, value_fault, value_in, values_of, values_or_fault}
use Rattle.spk_files.specs.SiteRows.{HasHeading, HasSites}
use Rattle.spk_files.specs.declared.site_fault.SiteFault.{SiteFault}
use Rattle.spk_files.specs.declared.site_fault.SiteFault.TheVariants.{MissingId, NoHeader}
use Rattle.spk_files.proofs.RowPasses.{row_passes}
use Rattle.spk_files.proofs.SiteParts.{after_more, before_cons, before_none}
use Rattle.spk_files.proofs.SiteRows.{CountsAs, IsRow, rows_with}

-- what is so of each element is so of one between others
all_middle : {X : Type 0} (P : X → Type 0) (xs : List X) (x : X) (ys : List X) → All P (xs ++ x ∷ ys) → P x
all_middle P xs x ys all = subst P (get_or_at xs x ys x (length xs) refl) (all (length xs) x (omega (arith, length-append xs (x ∷ ys))))

-- no row has an id
value_none : (rows : List Row) (id : ℕ) → rows_with id rows ≡ [] → value_in rows id ≡ None
value_none [] id none = refl
value_none (row ∷ rows) id none =
    elim (row.id == id) as (λ b. cond b (row ∷ rows_with id rows) (rows_with id rows) ≡ [] → cond b (Some row.value) (value_in rows id) ≡ None) [
      | true ↦ λ here. absurd cc
      | false ↦ λ later. value_none rows id later
    ] none

-- one row has it
value_one : (rows : List Row) (id value : ℕ) → rows_with id rows ≡ row_of id value ∷ [] → value_in rows id ≡ Some value
value_one [] id value one = absurd cc
value_one (row ∷ rows) id value one =
    elim (row.id == id) as (λ b. cond b (row ∷ rows_with id rows) (rows_with id rows) ≡ row_of id value ∷ [] → cond b (Some row.value) (value_in rows id) ≡ Some value) [
      | true ↦ λ here. let same : row ≡ row_of id value = cc in ap (λ r. Some r.value) same
      | false ↦ λ later. value_one rows id value later
    ] one

-- a row with the id of one row only
record IsAlone (before : List Row) (row : Row) (value : ℕ) : Type 0 where
  free : value_in before row.id ≡ None
  same : row.value ≡ value

is_alone : (before after : List Row) (row : Row) (value : ℕ) → rows_with row.id (before ++ row ∷ after) ≡ row_of row.id value ∷ [] → IsAlone before row value
is_alone before after row value one =
    let id : ℕ = row.id in
    let here : (row.id == row.id) ≡ true = grind (arith, nat_tests) in
    let parts : rows_with id before ++ row ∷ rows_with id after ≡ row_of id value ∷ [] =
    sym (filter-append (λ r. r.id == id) before (row ∷ after) ∙ ap (λ b. rows_with id before ++ cond b (row ∷ rows_with id after) (rows_with id after)) here) ∙ one in
    let none : rows_with id before ≡ [] = nil_from_length (rows_with id before) (omega (arith, length-append (rows_with id before) (row ∷ rows_with id after), ap length parts)) in
    let only : row ∷ rows_with id after ≡ row_of id value ∷ [] = ap (λ l. l ++ row ∷ rows_with id after) (sym none) ∙ parts in
    let is : row ≡ row_of id value = cc in record {
      free = value_none before id none;
      same = ap (λ r. r.value) is;
    }

-- a row among those of the sites has no fault
row_has_none : (wanted : Wanted) (lines : List Line) (values : List ℕ) (before after : List Row) (row : Row) (number : ℕ) → HasSites wanted lines values → rows_of lines ≡ before ++ row ∷ after →
    row_fault wanted before number (Some row) ≡ None
row_has_none wanted lines values before after row number has are =
    let IsKnown : Row → Type 0 = λ r. (1 ≤ r.id) × (r.id ≤ wanted.sites) in
    let id : (1 ≤ row.id) × (row.id ≤ wanted.sites) = all_middle IsKnown before row after (All-same IsKnown (before ++ row ∷ after) (rows_of lines) (sym are) has.known) in
    let alone : IsAlone before row (slice_index values (row.id - 1)) =
    is_alone before after row (slice_index values (row.id - 1)) (ap (rows_with row.id) (sym are) ∙ has.once row.id id.0 id.1) in
    let value : (1 ≤ slice_index values (row.id - 1)) × (slice_index values (row.id - 1) ≤ wanted.largest) = has.in_range (row.id - 1) 0 (omega (arith, id.0, id.1, has.all)) in
    row_passes wanted before number row.id row.value id.0 id.1 (omega (arith, alone.same, value.0)) (omega (arith, alone.same, value.1)) alone.free

-- rows after the line `Values`
rows_after : (before more : List Line) → list_any begins_values before ≡ true → rows_in (before ++ more) ≡ rows_in before ++ filter_map row_on more
rows_after [] more begun = absurd cc
rows_after (first ∷ before) more begun =
    elim (begins_values first) as (λ b. (b || list_any begins_values before) ≡ true →
    cond b (filter_map row_on (before ++ more)) (rows_in (before ++ more)) ≡ cond b (filter_map row_on before) (rows_in before) ++ filter_map row_on more) [
      | true ↦ λ is. filter_map-append row_on before more
      | false ↦ λ is. rows_after before more is
    ] begun

-- a line after the line `Values` has no fault
row_line_has_none : (wanted : Wanted) (first line : Line) (before after : List Line) (values : List ℕ) (number : ℕ) → HasSites wanted (first ∷ (before ++ line ∷ after)) values → list_any begins_values before ≡ true →
    value_fault wanted (rows_in before) number line ≡ None
row_line_has_none wanted first [] before after values number has begun = refl
row_line_has_none wanted first (word ∷ words) before after values number has begun =
    let line : Line = word ∷ words in
    let lines : List Line = first ∷ (before ++ line ∷ after) in
    let is_row : IsRow line =
    all_middle IsRow (lines_after begins_values before) line after (subst (All IsRow) (after_more begins_values before (line ∷ after) begun) has.rows) in
    elim (row_on line) as (λ o. IsSome o → rows_of lines ≡ rows_in before ++ cons_option o (filter_map row_on after) → row_fault wanted (rows_in before) number o ≡ None) [
      | None ↦ λ some are. absurd cc
      | Some row ↦ λ some are. row_has_none wanted lines values (rows_in before) (filter_map row_on after) row number has are
    ] (is_row (λ empty. absurd cc)) (rows_after before (line ∷ after) begun)

-- the line `Values` begins no other section
values_alone : (line : Line) → begins_values line ≡ true → begins_other line ≡ false
values_alone [] is = absurd cc
values_alone (word ∷ []) is =
    let same : word ≡ codes "Values" = (bytes_eq-Decides word (codes "Values")).0 is in
    ap (λ w. begins_other (w ∷ [])) same
values_alone (word ∷ other ∷ words) is = absurd cc

-- a line that gives this number of sites, or none, has no fault
same_count : (sites : ℕ) (o : Option ℕ) → IfSome o (λ count. count ≡ sites) → count_fault sites o ≡ None
same_count sites None same = refl
same_count sites (Some count) same = let is : (count == sites) ≡ true = grind (arith, nat_tests) in rw is refl

-- a line before the line `Values`, or that line
heading_line_has_none : (wanted : Wanted) (first line : Line) (before after : List Line) (values : List ℕ) (number : ℕ) → HasHeading wanted (first ∷ (before ++ line ∷ after)) →
    HasSites wanted (first ∷ (before ++ line ∷ after)) values → list_any begins_values before ≡ false → heading_fault wanted (has_count (first ∷ before)) number line ≡ None
heading_line_has_none wanted first line before after values number heading has none =
    let lines_are : before_first begins_values (before ++ line ∷ after) ≡ before ++ cond (begins_values line) [] (line ∷ before_first begins_values after) =
    before_none begins_values before (line ∷ after) none ∙ ap (λ l. before ++ l) (before_cons begins_values line after) in
    elim (cases_Bool (begins_values line)) [
      | inl begins ↦
          let are : before_first begins_values (before ++ line ∷ after) ≡ before =
          lines_are ∙ ap (λ b. before ++ cond b [] (line ∷ before_first begins_values after)) begins ∙ append-nil before in
          let found : Any (λ l. count_on l ≡ Some wanted.sites) before = subst (Any (λ l. count_on l ≡ Some wanted.sites)) are has.counted in
          let counted : has_count (first ∷ before) ≡ true = list_any-from_Any (λ l. is_some (count_on l)) before (found.0, found.1, found.2, found.3, ap is_some found.4) in
          rw (values_alone line begins, begins, counted) refl
      | inr other ↦
          let are : before_first begins_values (before ++ line ∷ after) ≡ before ++ line ∷ before_first begins_values after =
          lines_are ∙ ap (λ b. before ++ cond b [] (line ∷ before_first begins_values after)) other in
          let title : begins_other line ≡ false =
          all_middle (λ l. begins_other l ≡ false) before line (before_first begins_values after) (subst (All (λ l. begins_other l ≡ false)) are heading.titles) in
          let count : CountsAs wanted.sites line = all_middle (CountsAs wanted.sites) before line (before_first begins_values after) (subst (All (CountsAs wanted.sites)) are heading.counts) in
          rw (title, other) (same_count wanted.sites (count_on line) count)
    ]

-- no line has a fault
line_has_none : (wanted : Wanted) (before after : List Line) (line : Line) (values : List ℕ) → HasHeading wanted (before ++ line ∷ after) → HasSites wanted (before ++ line ∷ after) values →
    line_fault wanted before line ≡ None
line_has_none wanted [] after line values heading has = refl
line_has_none wanted (first ∷ before) after line values heading has =
    let number : ℕ = length (first ∷ before) + 1 in
    let row : Option SiteFault = value_fault wanted (rows_in before) number line in
    let title : Option SiteFault = heading_fault wanted (has_count (first ∷ before)) number line in
    elim (cases_Bool (list_any begins_values before)) [
      | inl begun ↦ cond-true (list_any begins_values before) row title begun ∙ row_line_has_none wanted first line before after values number has begun
      | inr none ↦ cond-false (list_any begins_values before) row title none ∙ heading_line_has_none wanted first line before after values number heading has none
    ]

-- where no element passes, none is found
find_fails : (test : ℕ → Bool) (xs : List ℕ) → All (λ x. test x ≡ false) xs → find test xs ≡ None
find_fails test [] fails = refl
find_fails test (x ∷ xs) fails =
    cond-false (test x) (Some x) (find test xs) (All-head (λ y. test y ≡ false) x xs fails) ∙ find_fails test xs (All-tail (λ y. test y ≡ false) x xs fails)

-- each site has its value
value_is : (wanted : Wanted) (lines : List Line) (values : List ℕ) (id : ℕ) → HasSites wanted lines values → 1 ≤ id → id ≤ wanted.sites → value_in (rows_of lines) id ≡ Some (slice_index values (id - 1))
value_is wanted lines values id has low high = value_one (rows_of lines) id (slice_index values (id - 1)) (has.once id low high)

-- so none lacks one at the end
end_has_none : (wanted : Wanted) (lines : List Line) (values : List ℕ) → HasHeading wanted lines → HasSites wanted lines values → end_fault wanted lines ≡ None
end_has_none wanted lines values heading has =
    let lacks : ℕ → Bool = λ id. is_none (value_in (rows_of lines) id) in
    let all : All (λ id. lacks id ≡ false) (ids wanted.sites) = All-from_get_or (λ id. lacks id ≡ false) (ids wanted.sites) 0
    (λ k within.
    let less : k < wanted.sites = omega (arith, length-range_with_len 1 wanted.sites) in
    let id : get_or (ids wanted.sites) k 0 ≡ k + 1 = get_or-range_with_len 1 wanted.sites k 0 less ∙ omega arith in
    ap lacks id ∙ ap is_none (value_is wanted lines values (k + 1) has (omega arith) (omega arith))) in
    cond-true (has_values lines) (option_map MissingId (find lacks (ids wanted.sites))) (Some NoHeader) heading.ends
    ∙ ap (option_map MissingId) (find_fails lacks (ids wanted.sites) all)

-- the lines from one on have no fault
lines_have_none : (wanted : Wanted) (before lines : List Line) (values : List ℕ) → HasHeading wanted (before ++ lines) → HasSites wanted (before ++ lines) values → first_fault wanted before lines ≡ None
lines_have_none wanted before [] values heading has =
    end_has_none wanted before values (subst (HasHeading wanted) (append-nil before) heading) (subst (λ l. HasSites wanted l values) (append-nil before) has)
lines_have_none wanted before (line ∷ lines) values heading has =
    let all : before ++ line ∷ lines ≡ (before ++ line ∷ []) ++ lines = sym (append_assoc before (line ∷ []) lines) in
    ap (λ fault. or_else fault (first_fault wanted (before ++ line ∷ []) lines)) (line_has_none wanted before lines line values heading has)
    ∙ lines_have_none wanted (before ++ line ∷ []) lines values (subst (HasHeading wanted) all heading) (subst (λ l. HasSites wanted l values) all has)

-- the values of the rows are these
values_are : (wanted : Wanted) (lines : List Line) (values : List ℕ) → HasSites wanted lines values → values_of wanted.sites (rows_of lines) ≡ values
values_are wanted lines values has =
    let value_of : ℕ → ℕ = λ id. unwrap_or (value_in (rows_of lines) id) 0 in
    let count : length (values_of wanted.sites (rows_of lines)) ≡ wanted.sites = length-map-range_with_len value_of 1 wanted.sites in
    same_lists (values_of wanted.sites (rows_of lines)) values (count ∙ sym has.all)
    (λ k d within.
    let less : k < wanted.sites = omega arith in
    let place : (k + 1) - 1 ≡ k = omega arith in
    get_or-map-range_with_len value_of 1 wanted.sites k (k + 1) d less (omega arith)
    ∙ ap (λ o. unwrap_or o 0) (value_is wanted lines values (k + 1) has (omega arith) (omega arith))
    ∙ ap (λ i. get_or values i 0) place ∙ get_or_default values k 0 d (omega (arith, has.all)))

-- a file with a heading and one row for each site is read
pub file_of_sites : (wanted : Wanted) (bytes values : List ℕ) → HasHeading wanted (lines_of bytes) → HasSites wanted (lines_of bytes) values → site_file wanted bytes ≡ Ok values
unfolding site_file
file_of_sites wanted bytes values heading has =
    ap (values_or_fault (values_of wanted.sites (rows_of (lines_of bytes)))) (lines_have_none wanted [] (lines_of bytes) values heading has)
    ∙ ap (λ items. Ok items) (values_are wanted (lines_of bytes) values has)

-- the same of what a function gives
pub result_of_sites : (wanted : Wanted) (bytes values : List ℕ) (result : Result (Vec ℕ Global) SiteFault) → IsReadOrMemory (site_file wanted bytes) result →
    HasHeading wanted (lines_of bytes) → HasSites wanted (lines_of bytes) values → IsReadOrMemory (Ok values) result
result_of_sites wanted bytes values result read heading has = subst (λ plain. IsReadOrMemory plain result) (file_of_sites wanted bytes values heading has) read
