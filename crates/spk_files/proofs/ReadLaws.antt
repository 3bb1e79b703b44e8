-- What one line more does to what was read of a site file.
use Rattle.std.proofs.Common.{◌≡◌, ℕ, ◌+◌, ◌-◌, ◌≤◌, ◌==◌, Bool, true, false, ◌||◌, cond, List, [], ◌∷◌, ◌++◌, length, map, get_or, set, Some, None, Vec, refl, sym, ap, ◌∙◌, subst, arith, append-nil, inl, inr, suc, zero}
use Rattle.std.proofs.lemmas.Bool.{cases_eq}
use Rattle.std.proofs.lemmas.Bool.Decides.{nat_tests}
use Rattle.std.proofs.lemmas.List.{same_lists, length_push, length-set, get_or-set_same, get_or-set_other}
use Rattle.std.proofs.lemmas.List.Elements.{All-nil, All-push, filter_map-append}
use Rattle.std.proofs.lemmas.List.Folds.{list_any-append}
use Rattle.std.proofs.lemmas.List.FromFn.{get_or-map-range_with_len, length-map-range_with_len}
use Rattle.std.specs.List.{All, cons_option, filter_map, list_any, range_with_len}
use Rattle.std.specs.Option.{is_some}
use Rattle.std.specs.Prelude.{replicate, unwrap_or}
use Rattle.std.specs.declared.alloc.Global.{Global}
use Rattle.spk_files.specs.Lines.{Line}
use Rattle.spk_files.specs.Readers.{HasRead, next}
use Rattle.spk_files.specs.SiteFiles.{Wanted, Row, row_of, row_on, begins_values, count_on, rows_in, value_in, values_of}
use Rattle.spk_files.specs.declared.reader.Reader.{Reader}
use Rattle.spk_files.proofs.RowPasses.{value_after}

-- nothing is added to a test by false
pub or_false : (b : Bool) → (b || false) ≡ b
or_false true = refl
or_false false = refl

-- a test of any line, with one line more
pub any_more : (test : Line → Bool) (lines : List Line) (line : Line) → list_any test (lines ++ line ∷ []) ≡ (list_any test lines || test line)
any_more test lines line = list_any-append test lines (line ∷ []) ∙ ap (λ b. list_any test lines || b) (or_false (test line))

-- a row more, where the values have begun
pub rows_begun : (lines : List Line) (line : Line) → list_any begins_values lines ≡ true → rows_in (lines ++ line ∷ []) ≡ rows_in lines ++ cons_option (row_on line) []
rows_begun [] line begun = absurd cc
rows_begun (first ∷ lines) line begun =
    elim (begins_values first) as (λ b. (b || list_any begins_values lines) ≡ true →
    cond b (filter_map row_on (lines ++ line ∷ [])) (rows_in (lines ++ line ∷ [])) ≡ cond b (filter_map row_on lines) (rows_in lines) ++ cons_option (row_on line) []) [
      | true ↦ λ is. filter_map-append row_on lines (line ∷ [])
      | false ↦ λ is. rows_begun lines line is
    ] begun

-- lines before the values have no rows
pub rows_later : (lines more : List Line) → list_any begins_values lines ≡ false → rows_in (lines ++ more) ≡ rows_in more
rows_later [] more none = refl
rows_later (first ∷ lines) more none =
    elim (begins_values first) as (λ b. (b || list_any begins_values lines) ≡ false → cond b (filter_map row_on (lines ++ more)) (rows_in (lines ++ more)) ≡ rows_in more) [
      | true ↦ λ is. absurd cc
      | false ↦ λ is. rows_later lines more is
    ] none

-- nor has one line
pub rows_alone : (line : Line) → rows_in (line ∷ []) ≡ []
rows_alone line = elim (begins_values line) as (λ b. cond {A = List Row} b [] [] ≡ []) [ true ↦ refl | false ↦ refl ]

-- with no row the values are all 0
zeros : (start sites : ℕ) → replicate sites 0 ≡ map (λ id. unwrap_or (value_in [] id) 0) (range_with_len start sites)
zeros start zero = refl
zeros start (suc sites) = ap (λ values. 0 ∷ values) (zeros (start + 1) sites)

-- a reader that has read no line
pub none_read : (wanted : Wanted) (reader : Reader) → reader.sites ≡ wanted.sites → reader.largest ≡ wanted.largest → reader.lines ≡ 0 → reader.begun ≡ false → reader.counted ≡ false →
    reader.values.items ≡ replicate wanted.sites 0 → HasRead wanted [] reader
none_read wanted reader sites largest lines begun counted values = record {
  sites = sites;
  largest = largest;
  lines = lines;
  begun = begun;
  counted = λ no. counted;
  values = values ∙ zeros 1 wanted.sites;
  positive = All-nil (λ row. 1 ≤ row.value);
}

-- the first line is passed over
pub first_read : (wanted : Wanted) (line : Line) (reader : Reader) → HasRead wanted [] reader → HasRead wanted (line ∷ []) (next reader)
first_read wanted line reader has = record {
  sites = has.sites;
  largest = has.largest;
  lines = omega (arith, has.lines);
  begun = has.begun;
  counted = has.counted;
  values = has.values;
  positive = has.positive;
}

-- a line before the values was read
pub heading_read : (wanted : Wanted) (first line : Line) (before : List Line) (reader : Reader) (begun counted : Bool) → HasRead wanted (first ∷ before) reader → reader.begun ≡ false →
    begun ≡ begins_values line → (begun ≡ false → counted ≡ (reader.counted || is_some (count_on line))) →
    HasRead wanted (first ∷ (before ++ line ∷ [])) (next (record reader { begun = begun; counted = counted }))
heading_read wanted first line before reader begun counted has none is_begun is_counted =
    let not_begun : list_any begins_values before ≡ false = sym has.begun ∙ none in
    let rows_are : rows_in before ≡ rows_in (before ++ line ∷ []) =
    ap rows_in (sym (append-nil before)) ∙ rows_later before [] not_begun ∙ sym (rows_later before (line ∷ []) not_begun ∙ rows_alone line) in
    record {
      sites = has.sites;
      largest = has.largest;
      lines = omega (arith, has.lines, length_push before line);
      begun = is_begun ∙ sym (any_more begins_values before line ∙ ap (λ b. b || begins_values line) not_begun);
      counted = λ no. is_counted no ∙ ap (λ b. b || is_some (count_on line)) (has.counted none) ∙ sym (any_more (λ l. is_some (count_on l)) before line);
      values = has.values ∙ ap (values_of wanted.sites) rows_are;
      positive = subst (All (λ row. 1 ≤ row.value)) rows_are has.positive;
    }

-- the value of another id stays
pub value_kept : (rows : List Row) (row : Row) (id : ℕ) → (row.id == id) ≡ false → value_in (rows ++ row ∷ []) id ≡ value_in rows id
value_kept [] row id other = rw other refl
value_kept (r ∷ rows) row id other = ap (cond (r.id == id) (Some r.value)) (value_kept rows row id other)

-- the value at an id's place
pub value_at : (sites : ℕ) (rows : List Row) (id : ℕ) → 1 ≤ id → id ≤ sites → get_or (values_of sites rows) (id - 1) 0 ≡ unwrap_or (value_in rows id) 0
value_at sites rows id low high = get_or-map-range_with_len (λ k. unwrap_or (value_in rows k) 0) 1 sites (id - 1) id 0 (omega arith) (omega arith)

-- a new row sets the value at its id's place
values_more : (sites : ℕ) (rows : List Row) (id value : ℕ) → 1 ≤ id → id ≤ sites → value_in rows id ≡ None →
    values_of sites (rows ++ row_of id value ∷ []) ≡ set (values_of sites rows) (id - 1) value
values_more sites rows id value low high free =
    let old : List ℕ = values_of sites rows in
    let count : length old ≡ sites = length-map-range_with_len (λ k. unwrap_or (value_in rows k) 0) 1 sites in
    let also : length (values_of sites (rows ++ row_of id value ∷ [])) ≡ sites = length-map-range_with_len (λ k. unwrap_or (value_in (rows ++ row_of id value ∷ []) k) 0) 1 sites in
    let same : (id == id) ≡ true = grind (arith, nat_tests) in
    let new : value_in (rows ++ row_of id value ∷ []) id ≡ Some value = value_after rows (row_of id value ∷ []) id free ∙ rw same refl in
    same_lists (values_of sites (rows ++ row_of id value ∷ [])) (set old (id - 1) value) (omega (arith, length-set old (id - 1) value))
    (λ k d within.
    let read : get_or (values_of sites (rows ++ row_of id value ∷ [])) k d ≡ unwrap_or (value_in (rows ++ row_of id value ∷ []) (k + 1)) 0 =
    get_or-map-range_with_len (λ j. unwrap_or (value_in (rows ++ row_of id value ∷ []) j) 0) 1 sites k (k + 1) d (omega arith) (omega arith) in
    elim (cases_eq k (id - 1)) [
      | inl here ↦
          let is : k + 1 ≡ id = omega arith in
          read ∙ ap (λ j. unwrap_or (value_in (rows ++ row_of id value ∷ []) j) 0) is ∙ ap (λ o. unwrap_or o 0) new
          ∙ sym (ap (λ j. get_or (set old (id - 1) value) j d) here ∙ get_or-set_same old (id - 1) value d (omega arith))
      | inr apart ↦
          let other : (id == (k + 1)) ≡ false = grind (arith, nat_tests) in
          read ∙ ap (λ o. unwrap_or o 0) (value_kept rows (row_of id value) (k + 1) other)
          ∙ sym (get_or-set_other old (id - 1) k value d apart ∙ get_or-map-range_with_len (λ j. unwrap_or (value_in rows j) 0) 1 sites k (k + 1) d (omega arith) (omega arith))
    ])

-- a row was read
pub row_read : (wanted : Wanted) (first line : Line) (before : List Line) (reader : Reader) (id value : ℕ) (values : Vec ℕ Global) → HasRead wanted (first ∷ before) reader → reader.begun ≡ true →
    row_on line ≡ Some (row_of id value) → 1 ≤ id → id ≤ wanted.sites → 1 ≤ value → value_in (rows_in before) id ≡ None → values.items ≡ set reader.values.items (id - 1) value →
    HasRead wanted (first ∷ (before ++ line ∷ [])) (next (record reader { values = values }))
row_read wanted first line before reader id value values has begun on low high positive free is_set =
    let row : Row = row_of id value in
    let has_begun : list_any begins_values before ≡ true = sym has.begun ∙ begun in
    let rows_are : rows_in (before ++ line ∷ []) ≡ rows_in before ++ row ∷ [] = rows_begun before line has_begun ∙ ap (λ r. rows_in before ++ cons_option r []) on in
    record {
      sites = has.sites;
      largest = has.largest;
      lines = omega (arith, has.lines, length_push before line);
      begun = begun ∙ sym (any_more begins_values before line ∙ ap (λ b. b || begins_values line) has_begun);
      counted = λ no. absurd cc;
      values = is_set ∙ ap (λ vs. set vs (id - 1) value) has.values ∙ sym (ap (values_of wanted.sites) rows_are ∙ values_more wanted.sites (rows_in before) id value low high free);
      positive = subst (All (λ r. 1 ≤ r.value)) (sym rows_are) (All-push (λ r. 1 ≤ r.value) (rows_in before) row has.positive positive);
    }

-- a line with no word was read, among the values
pub blank_row_read : (wanted : Wanted) (first : Line) (before : List Line) (reader : Reader) → HasRead wanted (first ∷ before) reader → reader.begun ≡ true →
    HasRead wanted (first ∷ (before ++ [] ∷ [])) (next reader)
blank_row_read wanted first before reader has begun =
    let has_begun : list_any begins_values before ≡ true = sym has.begun ∙ begun in
    let rows_are : rows_in before ≡ rows_in (before ++ [] ∷ []) = sym (rows_begun before [] has_begun ∙ append-nil (rows_in before)) in
    record {
      sites = has.sites;
      largest = has.largest;
      lines = omega (arith, has.lines, length_push before []);
      begun = begun ∙ sym (any_more begins_values before [] ∙ or_false (list_any begins_values before) ∙ has_begun);
      counted = λ no. absurd cc;
      values = has.values ∙ ap (values_of wanted.sites) rows_are;
      positive = subst (All (λ row. 1 ≤ row.value)) rows_are has.positive;
    }
