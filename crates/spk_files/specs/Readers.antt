-- What a reader of site files has read.
use Rattle.std.specs.Prelude.{◌≡◌, ◌≤◌, ◌+◌, ℕ, false, List, ◌++◌, ◌∷◌, [], length, All, Some, None, Result, Ok, Err, Vec}
use Rattle.std.specs.declared.alloc.Global.{Global}
use Rattle.spk_files.specs.Lines.{Line}
use Rattle.spk_files.specs.SiteFiles.{Wanted, has_values, has_count, rows_of, values_of, line_fault, end_fault}
use Rattle.spk_files.specs.declared.reader.Reader.{Reader}
use Rattle.spk_files.specs.declared.site_fault.SiteFault.{SiteFault}

-- A reader has read these lines, none of which had a fault. A 0 stands where no row has had the id.
pub record HasRead (wanted : Wanted) (read : List Line) (reader : Reader) : Type 0 where
  pub sites : reader.sites ≡ wanted.sites
  pub largest : reader.largest ≡ wanted.largest
  pub lines : reader.lines ≡ length read
  pub begun : reader.begun ≡ has_values read
  pub counted : reader.begun ≡ false → reader.counted ≡ has_count read
  pub values : reader.values.items ≡ values_of wanted.sites (rows_of read)
  pub positive : All (λ row. 1 ≤ row.value) (rows_of read)

-- it has read one more line, or has met that line's fault
abbrev pub Reads : Wanted → List Line → Line → Reader → Result (Unit {0}) SiteFault → Type 0
Reads wanted before line reader (Ok _) = (line_fault wanted before line ≡ None) × HasRead wanted (before ++ line ∷ []) reader
Reads wanted before line reader (Err fault) = line_fault wanted before line ≡ Some fault

-- the reader, with one more line counted
abbrev pub next : Reader → Reader
next reader = record reader { lines = reader.lines + 1 }

-- the file has ended after these lines
abbrev pub Ends : Wanted → List Line → Result (Vec ℕ Global) SiteFault → Type 0
Ends wanted lines (Ok values) = (end_fault wanted lines ≡ None) × (values.items ≡ values_of wanted.sites (rows_of lines))
Ends wanted lines (Err fault) = end_fault wanted lines ≡ Some fault
