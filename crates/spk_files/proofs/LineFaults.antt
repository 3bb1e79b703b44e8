-- The faults of lines of a site file, by what a reader has.
use Rattle.std.proofs.Common.{◌≡◌, ℕ, ◌+◌, ◌≤◌, ◌==◌, true, false, not, ◌&&◌, ◌-◌, ◌<◌, get_or, ◌||◌, inl, inr, suc, zero, cond, List, [], ◌∷◌, ◌++◌, length, map, Some, None, vec_len, refl, sym, ap, ◌∙◌, arith}
use Rattle.std.proofs.lemmas.Bool.{cases_Bool}
use Rattle.std.proofs.lemmas.Bool.Decides.{nat_tests}
use Rattle.std.proofs.lemmas.List.{get_or_read}
use Rattle.std.proofs.lemmas.List.Elements.{All-head, All-tail}
use Rattle.std.proofs.lemmas.List.FromFn.{length-map-range_with_len}
use Rattle.std.specs.List.{All, find, position, position_or_len, range_with_len}
use Rattle.std.specs.Option.{is_none, is_some, option_map}
use Rattle.std.specs.Prelude.{Option, nat_le, nat_lt, unwrap_or}
use Rattle.spk_files.specs.Lines.{Line}
use Rattle.spk_files.specs.Readers.{HasRead, next}
use Rattle.spk_files.specs.SiteFiles.{Wanted, Row, row_of, row_on, begins_other, begins_values, has_count, rows_of, value_in, ids, row_fault, value_fault, heading_fault, count_on, line_fault, end_fault}
use Rattle.spk_files.specs.declared.reader.Reader.{Reader}
use Rattle.spk_files.specs.declared.site_fault.SiteFault.TheVariants.{BadId, BadValue, MissingId, NoHeader, TwiceId}
use Rattle.spk_files.proofs.ReadLaws.{or_false, first_read, heading_read, blank_row_read, value_at}

-- there is a value for each site
pub value_count : (wanted : Wanted) (read : List Line) (reader : Reader) → HasRead wanted read reader → vec_len reader.values ≡ wanted.sites
value_count wanted read reader has =
    reader.values.ok.0 ∙ ap length has.values ∙ length-map-range_with_len (λ id. unwrap_or (value_in (rows_of read) id) 0) 1 wanted.sites

-- the fault of a line before the values
pub heading_line : (wanted : Wanted) (first line : Line) (before : List Line) (reader : Reader) → HasRead wanted (first ∷ before) reader → reader.begun ≡ false →
    line_fault wanted (first ∷ before) line ≡ heading_fault wanted reader.counted (reader.lines + 1) line
heading_line wanted first line before reader has none =
    let number : ℕ = length (first ∷ before) + 1 in
    ap (λ b. cond b (value_fault wanted (rows_of (first ∷ before)) number line) (heading_fault wanted (has_count (first ∷ before)) number line)) (sym has.begun ∙ none)
    ∙ ap (λ b. heading_fault wanted b number line) (sym (has.counted none))
    ∙ ap (λ n. heading_fault wanted reader.counted (n + 1) line) (sym has.lines)

-- and that of a line after the line `Values`
pub value_line : (wanted : Wanted) (first line : Line) (before : List Line) (reader : Reader) → HasRead wanted (first ∷ before) reader → reader.begun ≡ true →
    line_fault wanted (first ∷ before) line ≡ value_fault wanted (rows_of (first ∷ before)) (reader.lines + 1) line
value_line wanted first line before reader has begun =
    let number : ℕ = length (first ∷ before) + 1 in
    ap (λ b. cond b (value_fault wanted (rows_of (first ∷ before)) number line) (heading_fault wanted (has_count (first ∷ before)) number line)) (sym has.begun ∙ begun)
    ∙ ap (λ n. value_fault wanted (rows_of (first ∷ before)) (n + 1) line) (sym has.lines)

-- a line with a row has a word
value_row : (wanted : Wanted) (rows : List Row) (number : ℕ) (line : Line) (row : Row) → row_on line ≡ Some row → value_fault wanted rows number line ≡ row_fault wanted rows number (Some row)
value_row wanted rows number [] row on = absurd cc
value_row wanted rows number (word ∷ words) row on = ap (row_fault wanted rows number) on

-- the fault of a line with a row
pub row_line : (wanted : Wanted) (first line : Line) (before : List Line) (reader : Reader) (row : Row) → HasRead wanted (first ∷ before) reader → reader.begun ≡ true → row_on line ≡ Some row →
    line_fault wanted (first ∷ before) line ≡ row_fault wanted (rows_of (first ∷ before)) (reader.lines + 1) (Some row)
row_line wanted first line before reader row has begun on =
    value_line wanted first line before reader has begun ∙ value_row wanted (rows_of (first ∷ before)) (reader.lines + 1) line row on

-- a line before the values that says nothing
pub other_heading : (wanted : Wanted) (first line : Line) (before : List Line) (reader : Reader) → HasRead wanted (first ∷ before) reader → reader.begun ≡ false →
    begins_other line ≡ false → begins_values line ≡ false → count_on line ≡ None →
    (line_fault wanted (first ∷ before) line ≡ None) × HasRead wanted (first ∷ (before ++ line ∷ [])) (next reader)
other_heading wanted first line before reader has none other values count = (
  heading_line wanted first line before reader has none ∙ rw (other, values, count) refl,
  heading_read wanted first line before reader reader.begun reader.counted has none (none ∙ sym values)
      (λ no. sym (ap (λ o. reader.counted || is_some o) count ∙ or_false reader.counted)),
)

-- what a line of three words or more is not
pub three_words : (line : Line) → 3 ≤ length line → (begins_other line ≡ false) × ((begins_values line ≡ false) × (count_on line ≡ None))
three_words [] many = absurd (omega arith)
three_words (a ∷ []) many = absurd (omega arith)
three_words (a ∷ b ∷ []) many = absurd (omega arith)
three_words (a ∷ b ∷ c ∷ line) many = (refl, (refl, refl))

-- a line with no word
pub blank_read : (wanted : Wanted) (before : List Line) (reader : Reader) → HasRead wanted before reader →
    (line_fault wanted before [] ≡ None) × HasRead wanted (before ++ [] ∷ []) (next reader)
blank_read wanted [] reader has = (refl, first_read wanted [] reader has)
blank_read wanted (first ∷ before) reader has = elim (cases_Bool reader.begun) [
  | inl begun ↦ (value_line wanted first [] before reader has begun, blank_row_read wanted first before reader has begun)
  | inr none ↦ other_heading wanted first [] before reader has none refl refl refl
]

-- a value that rows give is positive
value_positive : (rows : List Row) (id value : ℕ) → All (λ row. 1 ≤ row.value) rows → value_in rows id ≡ Some value → 1 ≤ value
value_positive [] id value positive is = absurd cc
value_positive (row ∷ rows) id value positive is =
    elim (row.id == id) as (λ b. cond b (Some row.value) (value_in rows id) ≡ Some value → 1 ≤ value) [
      | true ↦ λ here. let same : row.value ≡ value = cc in omega (arith, All-head (λ r. 1 ≤ r.value) row rows positive)
      | false ↦ λ later. value_positive rows id value (All-tail (λ r. 1 ≤ r.value) row rows positive) later
    ] is

-- an id has no value where a 0 stands
lacks : (o : Option ℕ) → ((value : ℕ) → o ≡ Some value → 1 ≤ value) → is_none o ≡ (unwrap_or o 0 == 0)
lacks None positive = refl
lacks (Some value) positive = let low : 1 ≤ value = positive value refl in grind (arith, nat_tests)

lacks_value : (rows : List Row) (id : ℕ) → All (λ row. 1 ≤ row.value) rows → is_none (value_in rows id) ≡ (unwrap_or (value_in rows id) 0 == 0)
lacks_value rows id positive = lacks (value_in rows id) (λ value. value_positive rows id value positive)

-- a place among the values that follow one
place_later : (start place count : ℕ) →
    option_map (λ p. p + (start + 1)) (cond (nat_lt place count) (Some place) None) ≡ option_map (λ p. p + start) (cond (nat_lt (1 + place) (suc count)) (Some (1 + place)) None)
place_later start place count =
    let same : nat_lt (1 + place) (suc count) ≡ nat_lt place count = grind (arith, nat_tests) in
    rw same (elim (nat_lt place count) as (λ b. option_map (λ p. p + (start + 1)) (cond b (Some place) None) ≡ option_map (λ p. p + start) (cond b (Some (1 + place)) None)) [
      | true ↦ ap (λ n. Some n) (omega arith)
      | false ↦ refl
    ])

-- the first id without a value stands at the first 0
first_missing : (rows : List Row) (start count : ℕ) → All (λ row. 1 ≤ row.value) rows → find (λ id. is_none (value_in rows id)) (range_with_len start count)
    ≡ option_map (λ place. place + start) (position (λ v. v == 0) (map (λ id. unwrap_or (value_in rows id) 0) (range_with_len start count)))
first_missing rows start zero positive = refl
first_missing rows start (suc count) positive =
    let others : List ℕ = map (λ id. unwrap_or (value_in rows id) 0) (range_with_len (start + 1) count) in
    let place : ℕ = position_or_len (λ v. v == 0) others in
    ap (λ b. cond b (Some start) (find (λ id. is_none (value_in rows id)) (range_with_len (start + 1) count))) (lacks_value rows start positive)
    ∙ elim (unwrap_or (value_in rows start) 0 == 0) as (λ b. cond b (Some start) (find (λ id. is_none (value_in rows id)) (range_with_len (start + 1) count))
    ≡ option_map (λ p. p + start) (cond (nat_lt (cond (not b) (1 + place) 0) (suc (length others))) (Some (cond (not b) (1 + place) 0)) None)) [
      | true ↦ let some : nat_lt 0 (suc (length others)) ≡ true = grind (arith, nat_tests) in rw some (ap (λ n. Some n) (omega arith))
      | false ↦ first_missing rows (start + 1) count positive ∙ place_later start place (length others)
    ]

-- the fault at the end, where the values have begun
pub end_missing : (wanted : Wanted) (lines : List Line) (reader : Reader) → HasRead wanted lines reader → reader.begun ≡ true →
    end_fault wanted lines ≡ option_map MissingId (option_map (λ place. place + 1) (position (λ v. v == 0) reader.values.items))
end_missing wanted lines reader has begun =
    ap (λ b. cond b (option_map MissingId (find (λ id. is_none (value_in (rows_of lines) id)) (ids wanted.sites))) (Some NoHeader)) (sym has.begun ∙ begun)
    ∙ ap (option_map MissingId) (first_missing (rows_of lines) 1 wanted.sites has.positive)
    ∙ ap (λ values. option_map MissingId (option_map (λ place. place + 1) (position (λ v. v == 0) values))) (sym has.values)

-- an id of no site
pub bad_id : (wanted : Wanted) (rows : List Row) (number id value : ℕ) → (nat_le 1 id && nat_le id wanted.sites) ≡ false → row_fault wanted rows number (Some (row_of id value)) ≡ Some (BadId number)
bad_id wanted rows number id value out = rw out refl

-- an id that has had a value
pub twice_id : (wanted : Wanted) (rows : List Row) (number id value : ℕ) → 1 ≤ id → id ≤ wanted.sites → is_some (value_in rows id) ≡ true →
    row_fault wanted rows number (Some (row_of id value)) ≡ Some (TwiceId number)
twice_id wanted rows number id value low high taken =
    let above : nat_le 1 id ≡ true = grind (arith, nat_tests) in
    let below : nat_le id wanted.sites ≡ true = grind (arith, nat_tests) in
    rw (above, below, taken) refl

-- a value that no site may have
pub bad_value : (wanted : Wanted) (rows : List Row) (number id value : ℕ) → 1 ≤ id → id ≤ wanted.sites → value_in rows id ≡ None → (nat_le 1 value && nat_le value wanted.largest) ≡ false →
    row_fault wanted rows number (Some (row_of id value)) ≡ Some (BadValue number)
bad_value wanted rows number id value low high free out =
    let above : nat_le 1 id ≡ true = grind (arith, nat_tests) in
    let below : nat_le id wanted.sites ≡ true = grind (arith, nat_tests) in
    rw (above, below, free, out) refl

-- whether an id has a value, by what stands at its place
lacks_at : (wanted : Wanted) (read : List Line) (reader : Reader) (id value : ℕ) → HasRead wanted read reader → 1 ≤ id → id ≤ wanted.sites → value ≡ get_or reader.values.items (id - 1) value →
    is_none (value_in (rows_of read) id) ≡ (value == 0)
lacks_at wanted read reader id value has low high at =
    let within : id - 1 < length reader.values.items = omega (arith, value_count wanted read reader has, reader.values.ok.0) in
    let is : value ≡ unwrap_or (value_in (rows_of read) id) 0 =
    get_or_read reader.values.items (id - 1) value within at 0 ∙ ap (λ values. get_or values (id - 1) 0) has.values ∙ value_at wanted.sites (rows_of read) id low high in
    lacks_value (rows_of read) id has.positive ∙ ap (λ v. v == 0) (sym is)

-- what a test of an option says
is_lacking : (o : Option ℕ) → is_none o ≡ true → o ≡ None
is_lacking None none = refl
is_lacking (Some value) none = absurd cc

is_there : (o : Option ℕ) → is_none o ≡ false → is_some o ≡ true
is_there None some = absurd cc
is_there (Some value) some = refl

-- at a 0 no row has had the id
pub id_free : (wanted : Wanted) (read : List Line) (reader : Reader) (id value : ℕ) → HasRead wanted read reader → 1 ≤ id → id ≤ wanted.sites → value ≡ get_or reader.values.items (id - 1) value → value ≡ 0 →
    value_in (rows_of read) id ≡ None
id_free wanted read reader id value has low high at none =
    let same : (value == 0) ≡ true = grind (arith, nat_tests) in
    is_lacking (value_in (rows_of read) id) (lacks_at wanted read reader id value has low high at ∙ same)

-- and at another value one has
pub id_taken : (wanted : Wanted) (read : List Line) (reader : Reader) (id value : ℕ) → HasRead wanted read reader → 1 ≤ id → id ≤ wanted.sites → value ≡ get_or reader.values.items (id - 1) value → (value ≡ 0 → ⊥) →
    is_some (value_in (rows_of read) id) ≡ true
id_taken wanted read reader id value has low high at some =
    let other : (value == 0) ≡ false = grind (arith, nat_tests) in
    is_there (value_in (rows_of read) id) (lacks_at wanted read reader id value has low high at ∙ other)
