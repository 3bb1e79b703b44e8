-- A text of sites is read back as the values that it was made of.
use Rattle.std.proofs.Common.{◌≡◌, ℕ, ◌+◌, ◌^◌, ◌<◌, ◌≤◌, ◌==◌, true, List, [], ◌∷◌, ◌++◌, length, map, decimal, Some, None, Ok, refl, sym, ap, ◌∙◌, arith, append_assoc}
use Rattle.std.proofs.lemmas.Bool.Decides.{nat_tests}
use Rattle.std.proofs.lemmas.List.Elements.{All-head, All-tail}
use Rattle.std.specs.List.{All, filter_map, cons_option, find, range_with_len}
use Rattle.std.specs.Option.{is_none}
use Rattle.std.specs.Prelude.{codes, unwrap_or}
use Rattle.spk_num.specs.Decimal.{ticks_text}
use Rattle.spk_num.specs.Whole.{whole_of}
use Rattle.spk_files.specs.Lines.{Line, words_of}
use Rattle.spk_files.specs.SiteFiles.{Wanted, Row, row_of, row_on, rows_of, value_in, values_of, values_or_fault, end_fault, first_fault, site_file}
use Rattle.spk_sched.specs.SiteTexts.{sites_text}
use Rattle.spk_files.proofs.Printed.{whole_of_decimal}
use Rattle.spk_files.proofs.RowPasses.{IsFreeFrom, AreWanted, value_after, free_after, row_on_line, rows_pass}
use Rattle.spk_files.proofs.TextLines.{row_lines, whole_file, lines_of_text}

-- the rows of values from an id on
abbrev rows_from : ℕ → List ℕ → List Row
rows_from id [] = []
rows_from id (value ∷ values) = row_of id value ∷ rows_from (id + 1) values

-- the lines of the sites hold these rows
rows_on_lines : (id : ℕ) (values : List ℕ) → id + length values ≤ 2 ^ 32 → All (λ v. v < 2 ^ 32) values → filter_map row_on (row_lines id values) ≡ rows_from id values
rows_on_lines id [] few fit = refl
rows_on_lines id (value ∷ values) few fit =
    ap (λ row. cons_option row (filter_map row_on (row_lines (id + 1) values))) (row_on_line id value (omega arith) (All-head (λ v. v < 2 ^ 32) value values fit))
    ∙ ap (λ rows. row_of id value ∷ rows) (rows_on_lines (id + 1) values (omega arith) (All-tail (λ v. v < 2 ^ 32) value values fit))

-- the value of each id
abbrev values_at : List Row → List ℕ → List ℕ
values_at rows ids = map (λ id. unwrap_or (value_in rows id) 0) ids

-- each id of these rows has its value, and none is missing
rows_have : (before : List Row) (id : ℕ) (values : List ℕ) → IsFreeFrom id before →
    (values_at (before ++ rows_from id values) (range_with_len id (length values)) ≡ values)
    × (find (λ k. is_none (value_in (before ++ rows_from id values) k)) (range_with_len id (length values)) ≡ None)
rows_have before id [] free = (refl, refl)
rows_have before id (value ∷ values) free =
    let rows : List Row = before ++ (row_of id value ∷ rows_from (id + 1) values) in
    let regroup : (before ++ row_of id value ∷ []) ++ rows_from (id + 1) values ≡ rows = append_assoc before (row_of id value ∷ []) (rows_from (id + 1) values) in
    let same : (id == id) ≡ true = grind (arith, nat_tests) in
    let here : value_in rows id ≡ Some value = value_after before (row_of id value ∷ rows_from (id + 1) values) id (free id (omega arith)) ∙ rw same refl in
    let others = rows_have (before ++ row_of id value ∷ []) (id + 1) values (free_after before id value free) in
    let ids : List ℕ = range_with_len (id + 1) (length values) in (
      rw here (ap (λ vs. value ∷ vs) (ap (λ all. values_at all ids) (sym regroup) ∙ others.0)),
      rw here (ap (λ all. find (λ k. is_none (value_in all k)) ids) (sym regroup) ∙ others.1),
    )

-- the lines before the rows have no fault
heading_passes : (wanted : Wanted) (first : Line) (rows : List Line) → wanted.sites < 2 ^ 32 →
    first_fault wanted [] (whole_file first wanted.sites rows) ≡ first_fault wanted (whole_file first wanted.sites []) rows
heading_passes wanted first rows few =
    let is : whole_of (decimal wanted.sites) ≡ Some wanted.sites = whole_of_decimal wanted.sites few in
    let same : (wanted.sites == wanted.sites) ≡ true = grind (arith, nat_tests) in
    rw (is, same) refl

-- the lines of a file give the values
file_reads : (wanted : Wanted) (first : Line) (values : List ℕ) → wanted.sites ≡ length values → length values < 2 ^ 31 → AreWanted wanted values →
    values_or_fault (values_of wanted.sites (rows_of (whole_file first wanted.sites (row_lines 1 values)))) (first_fault wanted [] (whole_file first wanted.sites (row_lines 1 values))) ≡ Ok values
file_reads wanted first values count few are =
    let rows_are : filter_map row_on (row_lines 1 values) ≡ rows_from 1 values = rows_on_lines 1 values (omega arith) are.fit in
    let have = rows_have [] 1 values (λ k low. refl) in
    let none : end_fault wanted (whole_file first wanted.sites (row_lines 1 values)) ≡ None =
    rw (rows_are, count, have.1) refl in
    let passes : first_fault wanted [] (whole_file first wanted.sites (row_lines 1 values)) ≡ None =
    heading_passes wanted first (row_lines 1 values) (omega arith)
    ∙ rows_pass wanted first wanted.sites [] 1 values (omega arith) (omega arith) (omega arith) are (λ k low. refl) ∙ none in
    let are_values : values_of wanted.sites (filter_map row_on (row_lines 1 values)) ≡ values = rw (rows_are, count) have.0 in
    ap (values_or_fault (values_of wanted.sites (filter_map row_on (row_lines 1 values)))) passes ∙ ap Ok are_values

-- the text of a site file reads back as the values, for any largest value that none of them passes
pub reads_back : (time : ℕ) (values : List ℕ) (largest : ℕ) → time < 2 ^ 64 → length values ≤ 4194304 → All (λ v. 1 ≤ v) values → All (λ v. v ≤ largest) values → All (λ v. v < 2 ^ 32) values →
    site_file (record { sites = length values; largest = largest }) (sites_text time values) ≡ Ok values
unfolding site_file
reads_back time values largest fits few positive small fit =
    let wanted : Wanted = record { sites = length values; largest = largest } in
    let are : AreWanted wanted values = record { positive = positive; small = small; fit = fit } in
    ap (λ lines. values_or_fault (values_of wanted.sites (rows_of lines)) (first_fault wanted [] lines)) (lines_of_text time values fits (omega arith) fit)
    ∙ file_reads wanted (words_of (codes "spk sites at time " ++ ticks_text time)) values refl (omega arith) are
