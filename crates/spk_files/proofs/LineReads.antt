-- What the reader's parts do, line by line.
use Rattle.std.proofs.Common.{◌≡◌, ℕ, List, [], ◌∷◌, Result, Ok, Err, refl, subst, arith}
use Rattle.spk_files.specs.Lines.{Line, HasWords}
use Rattle.spk_files.specs.Readers.{HasRead, Reads, next}
use Rattle.spk_files.specs.SiteFiles.{Wanted}
use Rattle.spk_files.specs.declared.line.Line.{Line as LineWords}
use Rattle.spk_files.specs.declared.line.Line.TheVariants as form
use Rattle.spk_files.specs.declared.reader.Reader.{Reader}
use Rattle.spk_files.specs.declared.site_fault.SiteFault.{SiteFault}
use Rattle.spk_files.proofs.ReadLaws.{first_read}

-- a line that isn't empty has a word
some_word : (line : LineWords) → (line ≡ form.Empty → ⊥) → HasWords line [] → ⊥
some_word form.Empty some are = some refl
some_word (form.One word) some are = cc
some_word (form.Two first second) some are = cc
some_word form.More some are = omega arith

-- a line with no word, by what the code keeps of it
pub no_word : (line : LineWords) (words : Line) → line ≡ form.Empty → HasWords line words → words ≡ []
no_word line words empty are = subst (λ l. HasWords l words) empty are

-- the first line
pub passes_first : (wanted : Wanted) (before : List Line) (words : Line) (reader : Reader) → reader.lines ≡ 0 → HasRead wanted before reader → Reads wanted before words (next reader) (Ok tt)
passes_first wanted [] words reader none has = (refl, first_read wanted words reader has)
passes_first wanted (first ∷ before) words reader none has = absurd (omega (arith, has.lines))

-- what a part says of a line after the first
pub reads_later : (wanted : Wanted) (before : List Line) (words : Line) (line : LineWords) (reader after : Reader) (result : Result (Unit {0}) SiteFault) → (reader.lines ≡ 0 → ⊥) → (line ≡ form.Empty → ⊥) →
    HasWords line words → HasRead wanted before reader →
    ((first others : Line) (word : List ℕ) (lines : List Line) → HasWords line (word ∷ others) → HasRead wanted (first ∷ lines) reader → Reads wanted (first ∷ lines) (word ∷ others) (next after) result) →
    Reads wanted before words (next after) result
reads_later wanted [] words line reader after result later some are has reads = absurd (later has.lines)
reads_later wanted (first ∷ before) [] line reader after result later some are has reads = absurd (some_word line some are)
reads_later wanted (first ∷ before) (word ∷ words) line reader after result later some are has reads = reads first words word before are has

-- a fault that is passed on
pub fault_passed : (wanted : Wanted) (before : List Line) (words : Line) (reader after : Reader) (result passed : Result (Unit {0}) SiteFault) (fault : SiteFault) → result ≡ Err fault → passed ≡ Err fault →
    Reads wanted before words reader result → Reads wanted before words after passed
fault_passed wanted before words reader after result passed fault was is reads = rw is (subst (Reads wanted before words reader) was reads)
