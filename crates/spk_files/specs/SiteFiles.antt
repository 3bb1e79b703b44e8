-- Site files, which have the value of each site on a line with its id. The form is that of SPPARKS's `read_sites`. Which
-- spellings are taken, and which of several faults is named, are our own rules.
use Rattle.std.specs.Prelude.{◌≡◌, ℕ, ◌+◌, Bool, false, not, ◌&&◌, ◌||◌, ◌==◌, nat_le, if◌then◌else◌, List, [], ◌∷◌, ◌++◌, length, map, find, filter_map, codes, Option, Some, None, unwrap_or, option_and_then, Result, Ok, Err, Vec}
use Rattle.std.specs.declared.alloc.Global.{Global}
use Rattle.std.specs.List.{list_any, range_with_len}
use Rattle.std.specs.Option.{option_map, is_some, is_none}
use Rattle.std.specs.Str.{bytes_eq}
use Rattle.spk_num.specs.Whole.{whole_of}
use Rattle.spk_files.specs.Lines.{Line, lines_of}
use Rattle.spk_files.specs.declared.site_fault.SiteFault.{SiteFault}
use Rattle.spk_files.specs.declared.site_fault.SiteFault.TheVariants.{NoHeader, SitesCount, BadLine, BadId, TwiceId, MissingId, BadValue, OtherSection, Memory}

-- what a file is read for: how many sites there are, and the greatest value that one may have
pub record Wanted : Type 0 where
  pub sites : ℕ
  pub largest : ℕ

abbrev pub is_only : List ℕ → Line → Bool
is_only word (w ∷ []) = bytes_eq w word
is_only word line = false

-- the line after which the values come, and those after which something else would
abbrev pub begins_values : Line → Bool
begins_values line = is_only (codes "Values") line

abbrev pub begins_other : Line → Bool
begins_other line = is_only (codes "Sites") line || is_only (codes "Neighbors") line

-- the number of sites on a line
abbrev pub count_on : Line → Option ℕ
count_on (n ∷ word ∷ []) = if bytes_eq word (codes "sites") then whole_of n else None
count_on line = None

-- an id and a value, on a line after the line `Values`
pub record Row : Type 0 where
  pub id : ℕ
  pub value : ℕ

abbrev pub row_of : ℕ → ℕ → Row
row_of id value = record { id = id; value = value }

abbrev pub row_on : Line → Option Row
row_on (id ∷ value ∷ []) = option_and_then (λ i. option_map (row_of i) (whole_of value)) (whole_of id)
row_on line = None

-- The first line is passed over.
abbrev pub after_first : List Line → List Line
after_first [] = []
after_first (first ∷ lines) = lines

abbrev pub has_count : List Line → Bool
has_count lines = list_any (λ line. is_some (count_on line)) (after_first lines)

abbrev pub has_values : List Line → Bool
has_values lines = list_any begins_values (after_first lines)

abbrev pub rows_in : List Line → List Row
rows_in [] = []
rows_in (line ∷ lines) = if begins_values line then filter_map row_on lines else rows_in lines

abbrev pub rows_of : List Line → List Row
rows_of lines = rows_in (after_first lines)

-- the value that rows give to an id
abbrev pub value_in : List Row → ℕ → Option ℕ
value_in [] id = None
value_in (row ∷ rows) id = if row.id == id then Some row.value else value_in rows id

abbrev pub ids : ℕ → List ℕ
ids sites = range_with_len 1 sites

-- the values of the sites, in the order of ids; 0 stands for one that isn't there
abbrev pub values_of : ℕ → List Row → List ℕ
values_of sites rows = map (λ id. unwrap_or (value_in rows id) 0) (ids sites)

-- a line before the line `Values`
abbrev pub count_fault : ℕ → Option ℕ → Option SiteFault
count_fault sites None = None
count_fault sites (Some n) = if n == sites then None else Some (SitesCount n)

abbrev pub heading_fault : Wanted → Bool → ℕ → Line → Option SiteFault
heading_fault wanted counted number line =
    if begins_other line then Some (OtherSection number)
    else (if begins_values line then (if counted then None else Some NoHeader)
    else count_fault wanted.sites (count_on line))

-- a line after it, which may have no word
abbrev pub row_fault : Wanted → List Row → ℕ → Option Row → Option SiteFault
row_fault wanted rows number None = Some (BadLine number)
row_fault wanted rows number (Some row) =
    if not (nat_le 1 row.id && nat_le row.id wanted.sites) then Some (BadId number)
    else (if is_some (value_in rows row.id) then Some (TwiceId number)
    else (if not (nat_le 1 row.value && nat_le row.value wanted.largest) then Some (BadValue number)
    else None))

abbrev pub value_fault : Wanted → List Row → ℕ → Line → Option SiteFault
value_fault wanted rows number [] = None
value_fault wanted rows number line = row_fault wanted rows number (row_on line)

-- the fault of a line that stands after these
abbrev pub line_fault : Wanted → List Line → Line → Option SiteFault
line_fault wanted [] line = None
line_fault wanted before line =
    if has_values before then value_fault wanted (rows_of before) (length before + 1) line
    else heading_fault wanted (has_count before) (length before + 1) line

-- the fault where all lines are there and none has one
abbrev pub end_fault : Wanted → List Line → Option SiteFault
end_fault wanted lines =
    if has_values lines then option_map MissingId (find (λ id. is_none (value_in (rows_of lines) id)) (ids wanted.sites))
    else Some NoHeader

abbrev pub or_else : Option SiteFault → Option SiteFault → Option SiteFault
or_else (Some fault) other = Some fault
or_else None other = other

-- the first fault from a line on
abbrev pub first_fault : Wanted → List Line → List Line → Option SiteFault
first_fault wanted before [] = end_fault wanted before
first_fault wanted before (line ∷ lines) = or_else (line_fault wanted before line) (first_fault wanted (before ++ line ∷ []) lines)

-- the values in a site file, or its first fault
abbrev pub values_or_fault : List ℕ → Option SiteFault → Result (List ℕ) SiteFault
values_or_fault values None = Ok values
values_or_fault values (Some fault) = Err fault

unfoldable pub site_file : Wanted → List ℕ → Result (List ℕ) SiteFault
site_file wanted bytes =
    values_or_fault (values_of wanted.sites (rows_of (lines_of bytes))) (first_fault wanted [] (lines_of bytes))

-- this result, or out of memory in its place
abbrev pub IsReadOrMemory : Result (List ℕ) SiteFault → Result (Vec ℕ Global) SiteFault → Type 0
IsReadOrMemory plain (Ok values) = plain ≡ Ok values.items
IsReadOrMemory plain (Err Memory) = Unit {0}
IsReadOrMemory plain (Err fault) = plain ≡ Err fault
