-- How far a site file was read.
use Rattle.std.proofs.Common.{◌≡◌, ℕ, ◌+◌, ◌≤◌, true, List, [], ◌∷◌, ◌++◌, length, map, Result, Ok, Err, Option, Some, None, Vec, Bor, refl, sym, ap, ◌∙◌, subst, arith, append_assoc, append-nil}
use Rattle.std.proofs.lemmas.List.{length_push}
use Rattle.std.specs.List.{slice_split}
use Rattle.std.specs.Option.{MatchOption}
use Rattle.std.specs.Prelude.{◌==◌}
use Rattle.std.specs.Result.{IfOk, MatchResult, is_ok}
use Rattle.std.specs.declared.alloc.Global.{Global}
use Rattle.spk_files.specs.Lines.{Line, words_of, lines_of}
use Rattle.spk_files.specs.Readers.{Ends, HasRead, Reads}
use Rattle.spk_files.specs.SiteFiles.{IsReadOrMemory, Wanted, first_fault, or_else, rows_of, site_file, values_of, values_or_fault}
use Rattle.spk_files.specs.declared.reader.Reader.{Reader}
use Rattle.spk_files.specs.declared.site_fault.SiteFault.{SiteFault}
use Rattle.spk_files.specs.declared.site_fault.SiteFault.TheVariants.{NoHeader, SitesCount, BadLine, BadId, TwiceId, MissingId, BadValue, OtherSection, Memory}

-- the lines that are left
abbrev pub lines_left : Option (Bor (List ℕ)) → List Line
lines_left None = []
lines_left (Some text) = lines_of text.now

-- how many bytes are left, with one for the end of the text
abbrev pub bytes_left : Option (Bor (List ℕ)) → ℕ
bytes_left None = 0
bytes_left (Some text) = length text.now + 1

-- a reader has read the lines before those that are left, without a fault
pub record ReadsOn (wanted : Wanted) (bytes : List ℕ) (reader : Reader) (left : Option (Bor (List ℕ))) : Type 0 where
  pub before : List Line
  pub has : HasRead wanted before reader
  pub all : before ++ lines_left left ≡ lines_of bytes
  pub fault : first_fault wanted [] (lines_of bytes) ≡ first_fault wanted before (lines_left left)
  pub few : bytes_left left + reader.lines ≤ length bytes + 1

-- what the first line and the rest of a text are
abbrev pub IsCut : List ℕ → List ℕ → Option (Bor (List ℕ)) → Type 0
IsCut text line rest =
    MatchOption rest (slice_split (λ b. b == 10) text ≡ line ∷ []) (λ more. slice_split (λ b. b == 10) text ≡ line ∷ slice_split (λ b. b == 10) more.now)

abbrev pub HasLengths : List ℕ → List ℕ → Option (Bor (List ℕ)) → Type 0
HasLengths text line rest = MatchOption rest (length line ≡ length text) (λ more. length line + 1 + length more.now ≡ length text)

-- the lines of a text that was cut
lines_cut : (text line : List ℕ) (rest : Option (Bor (List ℕ))) → IsCut text line rest → lines_of text ≡ words_of line ∷ lines_left rest
lines_cut text line None cut = ap (map words_of) cut
lines_cut text line (Some more) cut = ap (map words_of) cut

-- what is left grows less
pub fewer_left : (text line : List ℕ) (rest : Option (Bor (List ℕ))) → HasLengths text line rest → bytes_left rest + 1 ≤ length text + 1
fewer_left text line None lengths = omega arith
fewer_left text line (Some more) lengths = omega arith

-- the first line is no longer than the text
pub line_within : (text line : List ℕ) (rest : Option (Bor (List ℕ))) → HasLengths text line rest → length line ≤ length text
line_within text line None lengths = omega arith
line_within text line (Some more) lengths = omega arith

-- a fault other than out of memory is that of the file
is_fault : (plain : Result (List ℕ) SiteFault) (fault : SiteFault) → plain ≡ Err fault → IsReadOrMemory plain (Err fault)
is_fault plain NoHeader is = is
is_fault plain (SitesCount n) is = is
is_fault plain (BadLine n) is = is
is_fault plain (BadId n) is = is
is_fault plain (TwiceId n) is = is
is_fault plain (MissingId n) is = is
is_fault plain (BadValue n) is = is
is_fault plain (OtherSection n) is = is
is_fault plain Memory is = tt

-- the file, by its first fault
by_fault : (wanted : Wanted) (bytes : List ℕ) (fault : Option SiteFault) → first_fault wanted [] (lines_of bytes) ≡ fault →
    site_file wanted bytes ≡ values_or_fault (values_of wanted.sites (rows_of (lines_of bytes))) fault
unfolding site_file
by_fault wanted bytes fault is = ap (values_or_fault (values_of wanted.sites (rows_of (lines_of bytes)))) is

-- what is so of a value stays so where a fault takes the place of an error
pub same_value : {T E : Type 0} (made : Result T E) (P : T → Type 0) (Q : E → Type 0) (value : T) → true ≡ is_ok made →
    MatchResult made (λ x. ◌≡◌ {A = Result T SiteFault} (Ok value) (Ok x)) Q → IfOk made P → P value
same_value (Ok x) P Q value ok same has = let is : value ≡ x = cc in subst P (sym is) has
same_value (Err e) P Q value ok same has = absurd cc

-- before the first line
pub reads_all : (wanted : Wanted) (bytes : Bor (List ℕ)) (reader : Reader) → HasRead wanted [] reader → ReadsOn wanted bytes.now reader (Some bytes)
reads_all wanted bytes reader has = record { before = []; has = has; all = refl; fault = refl; few = omega (arith, has.lines) }

-- one line more
pub reads_on : (wanted : Wanted) (bytes : List ℕ) (reader after : Reader) (text line : Bor (List ℕ)) (rest : Option (Bor (List ℕ))) → ReadsOn wanted bytes reader (Some text) →
    IsCut text.now line.now rest → HasLengths text.now line.now rest → ((before : List Line) → HasRead wanted before reader → Reads wanted before (words_of line.now) after (Ok tt)) → ReadsOn wanted bytes after rest
reads_on wanted bytes reader after text line rest on cut lengths reads =
    let read = reads on.before on.has in
    let words : Line = words_of line.now in
    let lines : lines_of text.now ≡ words ∷ lines_left rest = lines_cut text.now line.now rest cut in
    record {
      before = on.before ++ words ∷ [];
      has = read.1;
      all = append_assoc on.before (words ∷ []) (lines_left rest) ∙ sym (ap (λ l. on.before ++ l) lines) ∙ on.all;
      fault = on.fault ∙ ap (first_fault wanted on.before) lines ∙ ap (λ fault. or_else fault (first_fault wanted (on.before ++ words ∷ []) (lines_left rest))) read.0;
      few = omega (arith, fewer_left text.now line.now rest lengths, on.few, read.1.lines, on.has.lines, length_push on.before words);
    }

-- a line with a fault
pub stops_at : (wanted : Wanted) (bytes : List ℕ) (reader after : Reader) (text line : Bor (List ℕ)) (rest : Option (Bor (List ℕ))) (fault : SiteFault) → ReadsOn wanted bytes reader (Some text) →
    IsCut text.now line.now rest → ((before : List Line) → HasRead wanted before reader → Reads wanted before (words_of line.now) after (Err fault)) → IsReadOrMemory (site_file wanted bytes) (Err fault)
stops_at wanted bytes reader after text line rest fault on cut reads =
    let words : Line = words_of line.now in
    let is : first_fault wanted [] (lines_of bytes) ≡ Some fault =
    on.fault ∙ ap (first_fault wanted on.before) (lines_cut text.now line.now rest cut)
    ∙ ap (λ found. or_else found (first_fault wanted (on.before ++ words ∷ []) (lines_left rest))) (reads on.before on.has) in
    is_fault (site_file wanted bytes) fault (by_fault wanted bytes (Some fault) is)

-- after the last line
pub ends_with : (wanted : Wanted) (bytes : List ℕ) (reader : Reader) (result : Result (Vec ℕ Global) SiteFault) → ReadsOn wanted bytes reader None →
    ((lines : List Line) → HasRead wanted lines reader → Ends wanted lines result) → IsReadOrMemory (site_file wanted bytes) result
ends_with wanted bytes reader (Ok values) on ends =
    let all : on.before ≡ lines_of bytes = sym (append-nil on.before) ∙ on.all in
    by_fault wanted bytes None (on.fault ∙ (ends on.before on.has).0)
    ∙ ap (λ lines. Ok (values_of wanted.sites (rows_of lines))) (sym all) ∙ ap (λ items. Ok items) (sym (ends on.before on.has).1)
ends_with wanted bytes reader (Err fault) on ends =
    is_fault (site_file wanted bytes) fault (by_fault wanted bytes (Some fault) (on.fault ∙ ends on.before on.has))
