-- The lines and words of a text of sites.
use Rattle.std.proofs.Common.{◌≡◌, ℕ, ◌+◌, ◌^◌, ◌<◌, ◌≤◌, true, false, List, [], ◌∷◌, ◌++◌, length, map, decimal, refl, sym, ap, ◌∙◌, arith, append_assoc}
use Rattle.std.proofs.lemmas.Bool.Decides.{nat_tests}
use Rattle.std.proofs.lemmas.Fmt.{decimal_nonempty}
use Rattle.std.proofs.lemmas.List.Elements.{All-append, All-cons, All-head, All-nil, All-tail, All-weaker}
use Rattle.std.proofs.lemmas.List.Splits.{slice_split_at, slice_split_none}
use Rattle.std.specs.List.{All, slice_split}
use Rattle.std.specs.Prelude.{codes, filter, nat_lt, ◌==◌}
use Rattle.spk_num.specs.Decimal.{ticks_text}
use Rattle.spk_files.specs.Lines.{Line, is_blank, has_bytes, words_of, lines_of}
use Rattle.spk_sched.specs.SiteTexts.{rows_text, sites_text}
use Rattle.spk_files.proofs.Printed.{bytes_above, decimal_above, ticks_above}

-- a byte above 31 ends no line, and one above 32 ends no word
goes_on : (b : ℕ) → 31 < b → (b == 10) ≡ false
goes_on b above = grind (arith, nat_tests)

stands : (b : ℕ) → 32 < b → is_blank b ≡ false
stands b above = grind (arith, nat_tests)

-- a line ends at its newline
line_ends : (line rest : List ℕ) → All (λ b. 31 < b) line → lines_of (line ++ 10 ∷ rest) ≡ words_of line ∷ lines_of rest
line_ends line rest above =
    ap (map words_of) (slice_split_at (λ b. b == 10) line 10 rest (All-weaker (λ b. 31 < b) (λ b. (b == 10) ≡ false) goes_on line above) refl)

-- a word stands within a line
word_bytes : (word : List ℕ) → All (λ b. 32 < b) word → All (λ b. 31 < b) word
word_bytes word above = All-weaker (λ b. 32 < b) (λ b. 31 < b) (λ b more. omega arith) word above

-- two words with a space between them
two_words : (first second : List ℕ) → All (λ b. 32 < b) first → All (λ b. 32 < b) second → 0 < length first → 0 < length second →
    words_of (first ++ 32 ∷ second) ≡ first ∷ second ∷ []
two_words first second first_above second_above first_some second_some =
    let some : nat_lt 0 (length first) ≡ true = grind (arith, nat_tests) in
    let also : nat_lt 0 (length second) ≡ true = grind (arith, nat_tests) in
    let rest : slice_split is_blank second ≡ second ∷ [] = slice_split_none is_blank second (All-weaker (λ b. 32 < b) (λ b. is_blank b ≡ false) stands second second_above) in
    let parts : slice_split is_blank (first ++ 32 ∷ second) ≡ first ∷ second ∷ [] =
    slice_split_at is_blank first 32 second (All-weaker (λ b. 32 < b) (λ b. is_blank b ≡ false) stands first first_above) refl ∙ ap (λ ps. first ∷ ps) rest in
    ap (filter has_bytes) parts ∙ rw (some, also) refl

-- a line of two words
pair_line : (first second rest : List ℕ) → All (λ b. 32 < b) first → All (λ b. 32 < b) second → 0 < length first → 0 < length second →
    lines_of (first ++ (32 ∷ (second ++ 10 ∷ rest))) ≡ (first ∷ second ∷ []) ∷ lines_of rest
pair_line first second rest first_above second_above first_some second_some =
    let above : All (λ b. 31 < b) (first ++ 32 ∷ second) =
    All-append (λ b. 31 < b) first (32 ∷ second) (word_bytes first first_above)
    (All-cons (λ b. 31 < b) 32 second (omega arith) (word_bytes second second_above)) in
    ap lines_of (sym (append_assoc first (32 ∷ second) (10 ∷ rest))) ∙ line_ends (first ++ 32 ∷ second) rest above
    ∙ ap (λ words. words ∷ lines_of rest) (two_words first second first_above second_above first_some second_some)

-- the lines of the sites from an id on, and the empty one at the end
abbrev pub row_lines : ℕ → List ℕ → List Line
row_lines id [] = [] ∷ []
row_lines id (value ∷ values) = (decimal id ∷ decimal value ∷ []) ∷ row_lines (id + 1) values

-- all lines, where these are the first one and those of the rows
abbrev pub whole_file : Line → ℕ → List Line → List Line
whole_file first sites rows = first ∷ [] ∷ (decimal sites ∷ codes "sites" ∷ []) ∷ [] ∷ (codes "Values" ∷ []) ∷ [] ∷ rows

-- the lines of the text of rows
lines_of_rows : (id : ℕ) (values : List ℕ) → id + length values ≤ 2 ^ 32 → All (λ v. v < 2 ^ 32) values → lines_of (rows_text id values) ≡ row_lines id values
lines_of_rows id [] few small = refl
lines_of_rows id (value ∷ values) few small =
    let here : value < 2 ^ 32 = All-head (λ v. v < 2 ^ 32) value values small in
    pair_line (decimal id) (decimal value) (rows_text (id + 1) values) (decimal_above id (omega arith)) (decimal_above value (omega arith))
    (decimal_nonempty id (omega arith)) (decimal_nonempty value (omega arith))
    ∙ ap (λ lines. (decimal id ∷ decimal value ∷ []) ∷ lines) (lines_of_rows (id + 1) values (omega arith) (All-tail (λ v. v < 2 ^ 32) value values small))

-- the lines of the text of a site file; the first one may have any words
pub lines_of_text : (time : ℕ) (values : List ℕ) → time < 2 ^ 64 → length values < 2 ^ 32 → All (λ v. v < 2 ^ 32) values →
    lines_of (sites_text time values) ≡ whole_file (words_of (codes "spk sites at time " ++ ticks_text time)) (length values) (row_lines 1 values)
unfolding sites_text
lines_of_text time values fits few small =
    let rows : List ℕ = rows_text 1 values in
    let count : List ℕ = decimal (length values) ++ (codes " sites\n\nValues\n\n" ++ rows) in
    let first : List ℕ = codes "spk sites at time " ++ ticks_text time in
    let above : All (λ b. 31 < b) (codes "spk sites at time " ++ ticks_text time) =
    All-append (λ b. 31 < b) (codes "spk sites at time ") (ticks_text time) (bytes_above 31 (codes "spk sites at time ") refl)
    (word_bytes (ticks_text time) (ticks_above time fits)) in
    ap lines_of (sym (append_assoc (codes "spk sites at time ") (ticks_text time) (codes "\n\n" ++ count)))
    ∙ line_ends first (10 ∷ count) above
    ∙ ap (λ lines. words_of first ∷ lines) (line_ends [] count (All-nil (λ b. 31 < b))
    ∙ ap (λ lines. [] ∷ lines) (pair_line (decimal (length values)) (codes "sites") (codes "\nValues\n\n" ++ rows)
    (decimal_above (length values) (omega arith)) (bytes_above 32 (codes "sites") refl) (decimal_nonempty (length values) (omega arith)) (omega arith)
    ∙ ap (λ lines. (decimal (length values) ∷ codes "sites" ∷ []) ∷ lines) (line_ends [] (codes "Values\n\n" ++ rows) (All-nil (λ b. 31 < b))
    ∙ ap (λ lines. [] ∷ lines) (line_ends (codes "Values") (10 ∷ rows) (bytes_above 31 (codes "Values") refl)
    ∙ ap (λ lines. (codes "Values" ∷ []) ∷ lines) (line_ends [] rows (All-nil (λ b. 31 < b))
    ∙ ap (λ lines. [] ∷ lines) (lines_of_rows 1 values (omega arith) small))))))
