-- What a site file has whose values are read, by its rows.
use Rattle.std.specs.Prelude.{◌≡◌, ◌≢◌, ◌≤◌, ◌==◌, ◌-◌, ℕ, true, false, List, [], ◌∷◌, length, slice_index, All, Any, filter, Some, IsSome, IfSome}
use Rattle.std.specs.List.{before_first, after_first as lines_after}
use Rattle.spk_files.specs.Lines.{Line}
use Rattle.spk_files.specs.SiteFiles.{Wanted, after_first, begins_other, begins_values, count_on, has_values, row_on, row_of, rows_of}

-- the lines between the first one and the line `Values`
abbrev pub heading_of : List Line → List Line
heading_of lines = before_first begins_values (after_first lines)

-- the lines after the line `Values`
abbrev pub body_of : List Line → List Line
body_of lines = lines_after begins_values (after_first lines)

-- What a file has whose values are read: each site has exactly one row, with its value, and no row has another id.
pub record HasSites (wanted : Wanted) (lines : List Line) (values : List ℕ) : Type 0 where
  pub all : length values ≡ wanted.sites
  pub in_range : All (λ value. (1 ≤ value) × (value ≤ wanted.largest)) values
  pub known : All (λ row. (1 ≤ row.id) × (row.id ≤ wanted.sites)) (rows_of lines)
  pub once : (id : ℕ) → 1 ≤ id → id ≤ wanted.sites → filter (λ row. row.id == id) (rows_of lines) ≡ row_of id (slice_index values (id - 1)) ∷ []
  pub rows : All (λ line. line ≢ [] → IsSome (row_on line)) (body_of lines)
  pub counted : Any (λ line. count_on line ≡ Some wanted.sites) (heading_of lines)

-- What its heading has: the line `Values` ends it, no other section begins in it, and no line gives another number of sites.
pub record HasHeading (wanted : Wanted) (lines : List Line) : Type 0 where
  pub ends : has_values lines ≡ true
  pub titles : All (λ line. begins_other line ≡ false) (heading_of lines)
  pub counts : All (λ line. IfSome (count_on line) (λ count. count ≡ wanted.sites)) (heading_of lines)
