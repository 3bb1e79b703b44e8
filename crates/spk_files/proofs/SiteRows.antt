-- The values that are read from a site file are those of its rows, with one for each site.
use Rattle.std.proofs.Common.{◌≡◌, ◌≢◌, ℕ, ◌+◌, ◌-◌, ◌≤◌, ◌==◌, Bool, true, false, not, ◌&&◌, ◌||◌, cond, List, [], ◌∷◌, ◌++◌, length, get_or, Option, Some, None, Result, Ok, Err, Vec, inl, inr, refl, sym, ap, ◌∙◌, subst, arith, append_assoc, append-nil}
use Rattle.std.proofs.lemmas.Bool.{and_parts, cases_Bool, cond-false, cond-true, eqb-true, leb-true, not-false}
use Rattle.std.proofs.lemmas.List.Elements.{All-cons, All-head, All-map, All-nil, All-push, All-same, All-tail, All-weaker, filter-append}
use Rattle.std.proofs.lemmas.List.Folds.{Any-from_list_any}
use Rattle.std.proofs.lemmas.List.FromFn.{get_or-range_with_len, length-map-range_with_len, length-range_with_len}
use Rattle.std.specs.List.{All, Any, after_first as lines_after, before_first, cons_option, filter, find, list_any}
use Rattle.std.specs.Option.{IfSome, IsSome, is_none, is_some, option_map}
use Rattle.std.specs.Prelude.{nat_le, slice_index, unwrap_or}
use Rattle.std.specs.Result.{IfOk}
use Rattle.std.specs.declared.alloc.Global.{Global}
use Rattle.spk_files.specs.Lines.{Line, lines_of}
use Rattle.spk_files.specs.SiteFiles.{IsReadOrMemory, Wanted, Row, row_of, row_on, begins_other, begins_values, count_on, count_fault, has_count, has_values, heading_fault, ids, line_fault, end_fault, first_fault, or_else, row_fault, rows_in, rows_of, site_file, value_fault, value_in, values_of, values_or_fault}
use Rattle.spk_files.specs.SiteRows.{HasHeading, HasSites, body_of, heading_of}
use Rattle.spk_files.specs.declared.site_fault.SiteFault.{SiteFault}
use Rattle.spk_files.specs.declared.site_fault.SiteFault.TheVariants.{MissingId, NoHeader, SitesCount}
use Rattle.spk_files.proofs.ReadLaws.{any_more, rows_alone, rows_begun, rows_later, value_at, value_kept}
use Rattle.spk_files.proofs.RowPasses.{value_after}
use Rattle.spk_files.proofs.SiteParts.{after_alone, after_more, after_none, before_alone, before_kept, before_none}

-- a row that has no fault, but perhaps an id that has come before
abbrev pub IsFit : Wanted → Row → Type 0
IsFit wanted row = ((1 ≤ row.id) × (row.id ≤ wanted.sites)) × ((1 ≤ row.value) × (row.value ≤ wanted.largest))

-- a row that has no fault after these
abbrev pub IsNew : Wanted → List Row → Row → Type 0
IsNew wanted rows row = IsFit wanted row × (value_in rows row.id ≡ None)

-- a line that has a row, if it has a word
abbrev pub IsRow : Line → Type 0
IsRow line = line ≢ [] → IsSome (row_on line)

-- a line that gives no other number of sites
abbrev pub CountsAs : ℕ → Line → Type 0
CountsAs sites line = IfSome (count_on line) (λ count. count ≡ sites)

-- the rows with an id
abbrev pub rows_with : ℕ → List Row → List Row
rows_with id rows = filter (λ row. row.id == id) rows

-- what is so of lines that were read without a fault
pub record HasPassed (wanted : Wanted) (read : List Line) : Type 0 where
  pub fit : All (IsFit wanted) (rows_of read)
  pub once : (id : ℕ) → rows_with id (rows_of read) ≡ cons_option (option_map (row_of id) (value_in (rows_of read) id)) []
  pub rows : All IsRow (body_of read)
  pub titles : All (λ line. begins_other line ≡ false) (heading_of read)
  pub counts : All (CountsAs wanted.sites) (heading_of read)
  pub counted : has_values read ≡ true → list_any (λ line. is_some (count_on line)) (heading_of read) ≡ true

-- a choice that gives no fault
no_fault : (b : Bool) (fault : SiteFault) (other : Option SiteFault) → cond b (Some fault) other ≡ None → (b ≡ false) × (other ≡ None)
no_fault true fault other none = absurd cc
no_fault false fault other none = (refl, none)

no_other_fault : (b : Bool) (fault : SiteFault) → cond b None (Some fault) ≡ None → b ≡ true
no_other_fault true fault none = refl
no_other_fault false fault none = absurd cc

-- a number that passes the tests of a range is in it
in_range : (low n high : ℕ) → not (nat_le low n && nat_le n high) ≡ false → (low ≤ n) × (n ≤ high)
in_range low n high passes =
    let both = and_parts (nat_le low n) (nat_le n high) (not-false (nat_le low n && nat_le n high) passes) in (
      leb-true low n both.0,
      leb-true n high both.1,
    )

-- what isn't there
is_missing : (o : Option ℕ) → is_some o ≡ false → o ≡ None
is_missing None none = refl
is_missing (Some value) none = absurd cc

-- a row without a fault
row_fits : (wanted : Wanted) (rows : List Row) (number : ℕ) (row : Row) → row_fault wanted rows number (Some row) ≡ None → IsNew wanted rows row
row_fits wanted rows number row none =
    let id = no_fault _ _ _ none in
    let once = no_fault _ _ _ id.1 in
    let value = no_fault _ _ _ once.1 in (
      (in_range 1 row.id wanted.sites id.0, in_range 1 row.value wanted.largest value.0),
      is_missing (value_in rows row.id) once.0,
    )

-- a line of the values without a fault
line_fits : (wanted : Wanted) (rows : List Row) (number : ℕ) (line : Line) → value_fault wanted rows number line ≡ None → IsRow line × IfSome (row_on line) (IsNew wanted rows)
line_fits wanted rows number [] none = (λ some. absurd (some refl), tt)
line_fits wanted rows number (word ∷ words) none =
    elim (row_on (word ∷ words)) as (λ o. row_fault wanted rows number o ≡ None → ((word ∷ words) ≢ [] → IsSome o) × IfSome o (IsNew wanted rows)) [
      | None ↦ λ bad. absurd cc
      | Some row ↦ λ good. (λ some. refl, row_fits wanted rows number row good)
    ] none

-- the rows, with that of such a line
fit_more : (wanted : Wanted) (rows : List Row) (o : Option Row) → All (IsFit wanted) rows → IfSome o (IsNew wanted rows) → All (IsFit wanted) (rows ++ cons_option o [])
fit_more wanted rows None fit new = All-same (IsFit wanted) _ rows (append-nil rows) fit
fit_more wanted rows (Some row) fit new = All-push (IsFit wanted) rows row fit new.0

-- the rows with an id, with one row more
once_push : (rows : List Row) (row : Row) (id : ℕ) → value_in rows row.id ≡ None → rows_with id rows ≡ cons_option (option_map (row_of id) (value_in rows id)) [] →
    rows_with id (rows ++ row ∷ []) ≡ cons_option (option_map (row_of id) (value_in (rows ++ row ∷ []) id)) []
once_push rows row id free once = elim (cases_Bool (row.id == id)) [
  | inl here ↦
      let same : row.id ≡ id = eqb-true row.id id here in
      let none : value_in rows id ≡ None = ap (value_in rows) (sym same) ∙ free in
      filter-append (λ r. r.id == id) rows (row ∷ [])
      ∙ ap (λ l. l ++ cond (row.id == id) (row ∷ []) []) (once ∙ ap (λ o. cons_option (option_map (row_of id) o) []) none)
      ∙ ap (λ b. cond b (row ∷ []) []) here ∙ ap (λ i. row_of i row.value ∷ []) same
      ∙ sym (ap (λ o. cons_option (option_map (row_of id) o) []) (value_after rows (row ∷ []) id none ∙ ap (λ b. cond b (Some row.value) None) here))
  | inr apart ↦
      filter-append (λ r. r.id == id) rows (row ∷ []) ∙ ap (λ b. rows_with id rows ++ cond b (row ∷ []) []) apart ∙ append-nil (rows_with id rows) ∙ once
      ∙ sym (ap (λ o. cons_option (option_map (row_of id) o) []) (value_kept rows row id apart))
]

once_more : (wanted : Wanted) (rows : List Row) (o : Option Row) (id : ℕ) → rows_with id rows ≡ cons_option (option_map (row_of id) (value_in rows id)) [] → IfSome o (IsNew wanted rows) →
    rows_with id (rows ++ cons_option o []) ≡ cons_option (option_map (row_of id) (value_in (rows ++ cons_option o []) id)) []
once_more wanted rows None id once new =
    ap (rows_with id) (append-nil rows) ∙ once ∙ ap (λ l. cons_option (option_map (row_of id) (value_in l id)) []) (sym (append-nil rows))
once_more wanted rows (Some row) id once new = once_push rows row id new.1 once

-- a line before the values gives the number of sites, or none
counts_as : (sites : ℕ) (o : Option ℕ) → count_fault sites o ≡ None → IfSome o (λ count. count ≡ sites)
counts_as sites None none = tt
counts_as sites (Some n) none = eqb-true n sites (no_other_fault (n == sites) (SitesCount n) none)

-- a line before the values without a fault
record IsHeading (wanted : Wanted) (counted : Bool) (line : Line) : Type 0 where
  title : begins_other line ≡ false
  has_count : begins_values line ≡ true → counted ≡ true
  count : begins_values line ≡ false → CountsAs wanted.sites line

heading_fits : (wanted : Wanted) (counted : Bool) (number : ℕ) (line : Line) → heading_fault wanted counted number line ≡ None → IsHeading wanted counted line
heading_fits wanted counted number line none =
    let title = no_fault _ _ _ none in record {
      title = title.0;
      has_count = λ is. no_other_fault counted NoHeader (sym (cond-true (begins_values line) (cond counted None (Some NoHeader)) (count_fault wanted.sites (count_on line)) is) ∙ title.1);
      count = λ is. counts_as wanted.sites (count_on line) (sym (cond-false (begins_values line) (cond counted None (Some NoHeader)) (count_fault wanted.sites (count_on line)) is) ∙ title.1);
    }

-- what is so of each line of a heading is so with one line more
all_more : (P : Line → Type 0) (lines : List Line) (line : Line) → All P lines → (begins_values line ≡ false → P line) → All P (lines ++ cond (begins_values line) [] (line ∷ []))
all_more P lines line all has = elim (cases_Bool (begins_values line)) [
  | inl is ↦ All-same P _ lines (ap (λ b. lines ++ cond b [] (line ∷ [])) is ∙ append-nil lines) all
  | inr is ↦ All-same P _ (lines ++ line ∷ []) (ap (λ b. lines ++ cond b [] (line ∷ [])) is) (All-push P lines line all (has is))
]

-- no line was read
none_passed : (wanted : Wanted) → HasPassed wanted []
none_passed wanted = record {
  fit = All-nil (IsFit wanted);
  once = λ id. refl;
  rows = All-nil IsRow;
  titles = All-nil (λ line. begins_other line ≡ false);
  counts = All-nil (CountsAs wanted.sites);
  counted = λ begun. absurd cc;
}

-- the first line
first_passed : (wanted : Wanted) (line : Line) → HasPassed wanted (line ∷ [])
first_passed wanted line = record {
  fit = All-nil (IsFit wanted);
  once = λ id. refl;
  rows = All-nil IsRow;
  titles = All-nil (λ line. begins_other line ≡ false);
  counts = All-nil (CountsAs wanted.sites);
  counted = λ begun. absurd cc;
}

-- a line after the line `Values`
row_passed : (wanted : Wanted) (first line : Line) (before : List Line) (number : ℕ) → list_any begins_values before ≡ true → HasPassed wanted (first ∷ before) →
    value_fault wanted (rows_in before) number line ≡ None → HasPassed wanted (first ∷ (before ++ line ∷ []))
row_passed wanted first line before number begun passed none =
    let line_is = line_fits wanted (rows_in before) number line none in
    let rows_are : rows_in (before ++ line ∷ []) ≡ rows_in before ++ cons_option (row_on line) [] = rows_begun before line begun in
    let heading_is : before_first begins_values (before ++ line ∷ []) ≡ before_first begins_values before = before_kept begins_values before (line ∷ []) begun in
    record {
      fit = All-same (IsFit wanted) _ _ rows_are (fit_more wanted (rows_in before) (row_on line) passed.fit line_is.1);
      once = λ id. subst (λ rows. rows_with id rows ≡ cons_option (option_map (row_of id) (value_in rows id)) []) (sym rows_are) (once_more wanted (rows_in before) (row_on line) id (passed.once id) line_is.1);
      rows = All-same IsRow _ _ (after_more begins_values before (line ∷ []) begun) (All-push IsRow (lines_after begins_values before) line passed.rows line_is.0);
      titles = All-same (λ l. begins_other l ≡ false) _ _ heading_is passed.titles;
      counts = All-same (CountsAs wanted.sites) _ _ heading_is passed.counts;
      counted = λ has. ap (list_any (λ l. is_some (count_on l))) heading_is ∙ passed.counted begun;
    }

-- a line before it, or that line
heading_passed : (wanted : Wanted) (first line : Line) (before : List Line) (number : ℕ) → list_any begins_values before ≡ false → HasPassed wanted (first ∷ before) →
    heading_fault wanted (has_count (first ∷ before)) number line ≡ None → HasPassed wanted (first ∷ (before ++ line ∷ []))
heading_passed wanted first line before number none passed fits =
    let line_is = heading_fits wanted (has_count (first ∷ before)) number line fits in
    let rows_are : rows_in (before ++ line ∷ []) ≡ rows_in before =
    rows_later before (line ∷ []) none ∙ rows_alone line ∙ sym (rows_later before [] none) ∙ ap rows_in (append-nil before) in
    let old : before_first begins_values before ≡ before = ap (before_first begins_values) (sym (append-nil before)) ∙ before_none begins_values before [] none ∙ append-nil before in
    let heading_is : before_first begins_values (before ++ line ∷ []) ≡ before ++ cond (begins_values line) [] (line ∷ []) =
    before_none begins_values before (line ∷ []) none ∙ ap (λ l. before ++ l) (before_alone begins_values line) in
    let body_is : lines_after begins_values (before ++ line ∷ []) ≡ [] = after_none begins_values before (line ∷ []) none ∙ after_alone begins_values line in
    record {
      fit = All-same (IsFit wanted) _ _ rows_are passed.fit;
      once = λ id. subst (λ rows. rows_with id rows ≡ cons_option (option_map (row_of id) (value_in rows id)) []) (sym rows_are) (passed.once id);
      rows = All-same IsRow _ [] body_is (All-nil IsRow);
      titles = All-same (λ l. begins_other l ≡ false) _ _ heading_is
          (all_more (λ l. begins_other l ≡ false) before line (subst (All (λ l. begins_other l ≡ false)) old passed.titles) (λ is. line_is.title));
      counts = All-same (CountsAs wanted.sites) _ _ heading_is (all_more (CountsAs wanted.sites) before line (subst (All (CountsAs wanted.sites)) old passed.counts) line_is.count);
      counted = λ has.
          let is : begins_values line ≡ true = sym (any_more begins_values before line ∙ ap (λ b. b || begins_values line) none) ∙ has in
          ap (list_any (λ l. is_some (count_on l))) (heading_is ∙ ap (λ b. before ++ cond b [] (line ∷ [])) is ∙ append-nil before) ∙ line_is.has_count is;
    }

-- one line more
line_passed : (wanted : Wanted) (before : List Line) (line : Line) → HasPassed wanted before → line_fault wanted before line ≡ None → HasPassed wanted (before ++ line ∷ [])
line_passed wanted [] line passed none = first_passed wanted line
line_passed wanted (first ∷ before) line passed none =
    let number : ℕ = length (first ∷ before) + 1 in
    let values : Option SiteFault = value_fault wanted (rows_in before) number line in
    let heading : Option SiteFault = heading_fault wanted (has_count (first ∷ before)) number line in
    elim (cases_Bool (list_any begins_values before)) [
      | inl begun ↦ row_passed wanted first line before number begun passed (sym (cond-true (list_any begins_values before) values heading begun) ∙ none)
      | inr not_begun ↦ heading_passed wanted first line before number not_begun passed (sym (cond-false (list_any begins_values before) values heading not_begun) ∙ none)
    ]

-- where neither is there
neither : (one other : Option SiteFault) → or_else one other ≡ None → (one ≡ None) × (other ≡ None)
neither None other none = (refl, none)
neither (Some fault) other none = absurd cc

-- all lines
all_passed : (wanted : Wanted) (before lines : List Line) → HasPassed wanted before → first_fault wanted before lines ≡ None →
    HasPassed wanted (before ++ lines) × (end_fault wanted (before ++ lines) ≡ None)
all_passed wanted before [] passed none = subst (λ all. HasPassed wanted all × (end_fault wanted all ≡ None)) (sym (append-nil before)) (passed, none)
all_passed wanted before (line ∷ lines) passed none =
    let parts = neither (line_fault wanted before line) (first_fault wanted (before ++ line ∷ []) lines) none in
    subst (λ all. HasPassed wanted all × (end_fault wanted all ≡ None)) (append_assoc before (line ∷ []) lines)
    (all_passed wanted (before ++ line ∷ []) lines (line_passed wanted before line passed parts.0) parts.1)

-- where nothing is found, no element passes
find_none : (test : ℕ → Bool) (xs : List ℕ) → find test xs ≡ None → All (λ x. test x ≡ false) xs
find_none test [] none = All-nil (λ x. test x ≡ false)
find_none test (x ∷ xs) none =
    elim (cases_Bool (test x)) [
      | inl is ↦ let found : Some x ≡ None = sym (cond-true (test x) (Some x) (find test xs) is) ∙ none in absurd cc
      | inr is ↦ All-cons (λ y. test y ≡ false) x xs is (find_none test xs (sym (cond-false (test x) (Some x) (find test xs) is) ∙ none))
    ]

-- what is there
pub is_there : (o : Option ℕ) → is_none o ≡ false → o ≡ Some (unwrap_or o 0)
is_there None some = absurd cc
is_there (Some value) some = refl

-- no fault at the end
record HasEnded (wanted : Wanted) (lines : List Line) : Type 0 where
  begun : has_values lines ≡ true
  there : All (λ id. is_none (value_in (rows_of lines) id) ≡ false) (ids wanted.sites)

no_missing : (o : Option ℕ) → option_map MissingId o ≡ None → o ≡ None
no_missing None none = refl
no_missing (Some id) none = absurd cc

has_ended : (wanted : Wanted) (lines : List Line) → end_fault wanted lines ≡ None → HasEnded wanted lines
has_ended wanted lines none =
    let missing : Option SiteFault = option_map MissingId (find (λ id. is_none (value_in (rows_of lines) id)) (ids wanted.sites)) in
    elim (cases_Bool (has_values lines)) [
      | inl begun ↦ record {
        begun = begun;
        there = find_none (λ id. is_none (value_in (rows_of lines) id)) (ids wanted.sites) (no_missing _ (sym (cond-true (has_values lines) missing (Some NoHeader) begun) ∙ none));
      }
      | inr none_begun ↦ let fault : Some NoHeader ≡ None = sym (cond-false (has_values lines) missing (Some NoHeader) none_begun) ∙ none in absurd cc
    ]

-- the value of an id is that of a row
value_fits : (wanted : Wanted) (rows : List Row) (id : ℕ) → All (IsFit wanted) rows → is_none (value_in rows id) ≡ false → (1 ≤ unwrap_or (value_in rows id) 0) × (unwrap_or (value_in rows id) 0 ≤ wanted.largest)
value_fits wanted [] id fit some = absurd cc
value_fits wanted (row ∷ rows) id fit some =
    elim (row.id == id) as (λ b. is_none (cond b (Some row.value) (value_in rows id)) ≡ false →
    (1 ≤ unwrap_or (cond b (Some row.value) (value_in rows id)) 0) × (unwrap_or (cond b (Some row.value) (value_in rows id)) 0 ≤ wanted.largest)) [
      | true ↦ λ here. (All-head (IsFit wanted) row rows fit).1
      | false ↦ λ later. value_fits wanted rows id (All-tail (IsFit wanted) row rows fit) later
    ] some

-- the one row of an id
one_row : (wanted : Wanted) (lines : List Line) (id : ℕ) → HasPassed wanted lines → HasEnded wanted lines → 1 ≤ id → id ≤ wanted.sites →
    rows_with id (rows_of lines) ≡ row_of id (slice_index (values_of wanted.sites (rows_of lines)) (id - 1)) ∷ []
one_row wanted lines id passed ended low high =
    let place : get_or (ids wanted.sites) (id - 1) 0 ≡ id = get_or-range_with_len 1 wanted.sites (id - 1) 0 (omega arith) ∙ omega arith in
    let some : is_none (value_in (rows_of lines) id) ≡ false =
    subst (λ k. is_none (value_in (rows_of lines) k) ≡ false) place (ended.there (id - 1) 0 (omega (arith, length-range_with_len 1 wanted.sites))) in
    passed.once id ∙ ap (λ o. cons_option (option_map (row_of id) o) []) (is_there (value_in (rows_of lines) id) some)
    ∙ ap (λ value. row_of id value ∷ []) (sym (value_at wanted.sites (rows_of lines) id low high))

-- a line of the heading that gives a number gives that of the sites
gives_count : (sites : ℕ) (o : Option ℕ) → is_some o ≡ true → IfSome o (λ count. count ≡ sites) → o ≡ Some sites
gives_count sites None some same = absurd cc
gives_count sites (Some count) some same = ap (λ n. Some n) same

has_line : (wanted : Wanted) (lines : List Line) → HasPassed wanted lines → has_values lines ≡ true → Any (λ line. count_on line ≡ Some wanted.sites) (heading_of lines)
has_line wanted lines passed begun =
    let found = Any-from_list_any (λ line. is_some (count_on line)) (heading_of lines) (passed.counted begun) in
    let same : CountsAs wanted.sites found.1 = subst (CountsAs wanted.sites) found.3 (passed.counts found.0 found.1 found.2) in
    (found.0, found.1, found.2, found.3, gives_count wanted.sites (count_on found.1) found.4 same)

-- lines without a fault have a heading
heading_of_lines : (wanted : Wanted) (lines : List Line) → HasPassed wanted lines → HasEnded wanted lines → HasHeading wanted lines
heading_of_lines wanted lines passed ended = record { ends = ended.begun; titles = passed.titles; counts = passed.counts }

-- and the sites
sites_of_lines : (wanted : Wanted) (lines : List Line) → HasPassed wanted lines → HasEnded wanted lines → HasSites wanted lines (values_of wanted.sites (rows_of lines))
sites_of_lines wanted lines passed ended = record {
  all = length-map-range_with_len (λ id. unwrap_or (value_in (rows_of lines) id) 0) 1 wanted.sites;
  in_range = All-map (λ value. (1 ≤ value) × (value ≤ wanted.largest)) (λ id. unwrap_or (value_in (rows_of lines) id) 0) (ids wanted.sites)
      (All-weaker (λ id. is_none (value_in (rows_of lines) id) ≡ false) (λ id. (1 ≤ unwrap_or (value_in (rows_of lines) id) 0) × (unwrap_or (value_in (rows_of lines) id) 0 ≤ wanted.largest))
      (λ id some. value_fits wanted (rows_of lines) id passed.fit some) (ids wanted.sites) ended.there);
  known = All-weaker (IsFit wanted) (λ row. (1 ≤ row.id) × (row.id ≤ wanted.sites)) (λ row fit. fit.0) (rows_of lines) passed.fit;
  once = λ id low high. one_row wanted lines id passed ended low high;
  rows = passed.rows;
  counted = has_line wanted lines passed ended.begun;
}

-- what a file is that is read
is_read : (values got : List ℕ) (fault : Option SiteFault) → values_or_fault values fault ≡ Ok got → (fault ≡ None) × (values ≡ got)
is_read values got None is = (refl, cc)
is_read values got (Some fault) is = absurd cc

-- a file whose values are read has a heading and the sites
parts_of_file : (wanted : Wanted) (bytes values : List ℕ) → site_file wanted bytes ≡ Ok values → HasHeading wanted (lines_of bytes) × HasSites wanted (lines_of bytes) values
unfolding site_file
parts_of_file wanted bytes values is =
    let lines : List Line = lines_of bytes in
    let read = is_read (values_of wanted.sites (rows_of lines)) values (first_fault wanted [] lines) is in
    let passed = all_passed wanted [] lines (none_passed wanted) read.0 in
    let ended : HasEnded wanted lines = has_ended wanted lines passed.1 in
    (heading_of_lines wanted lines passed.0 ended, subst (HasSites wanted lines) read.1 (sites_of_lines wanted lines passed.0 ended))

pub sites_of_file : (wanted : Wanted) (bytes values : List ℕ) → site_file wanted bytes ≡ Ok values → HasSites wanted (lines_of bytes) values
sites_of_file wanted bytes values is = (parts_of_file wanted bytes values is).1

-- the same of what a function gives
pub sites_of_result : (wanted : Wanted) (bytes : List ℕ) (result : Result (Vec ℕ Global) SiteFault) → IsReadOrMemory (site_file wanted bytes) result →
    IfOk result (λ values. HasSites wanted (lines_of bytes) values.items)
sites_of_result wanted bytes (Ok values) read = sites_of_file wanted bytes values.items read
sites_of_result wanted bytes (Err fault) read = tt

pub heading_of_result : (wanted : Wanted) (bytes : List ℕ) (result : Result (Vec ℕ Global) SiteFault) → IsReadOrMemory (site_file wanted bytes) result →
    IfOk result (λ _. HasHeading wanted (lines_of bytes))
heading_of_result wanted bytes (Ok values) read = (parts_of_file wanted bytes values.items read).0
heading_of_result wanted bytes (Err fault) read = tt
