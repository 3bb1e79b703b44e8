-- The words and the numbers of the logical lines of a script, and how a line is found by its number.
use Rattle.std.proofs.Common.{◌≡◌, ℕ, suc, zero, ◌+◌, ◌<◌, ◌≤◌, true, false, cond, List, [], ◌∷◌, length, get_or, Option, Some, None, IsSome, Result, Ok, Err, refl, sym, ap, subst, eq-eqb, inl, inr, Less, Equal, Greater, ◌==◌, arith}
use Rattle.std.specs.List.{All, AllPairs}
use Rattle.std.specs.List.Sorted.{IsNonDecreasingBy, IsBinarySearchResult}
use Rattle.std.specs.Ordering.{nat_cmp, ordering_index}
use Rattle.std.specs.Str.{IsAscii}
use Rattle.std.proofs.lemmas.List.Elements.{All-nil, All-cons, All-head, All-tail, All-weaker}
use Rattle.std.proofs.lemmas.List.Recursion.{found_at, found_nowhere}
use Rattle.std.proofs.lemmas.Bool.{cases_lt}
use Rattle.std.proofs.lemmas.Bool.Decides.{nat_tests}
use Rattle.std.proofs.lemmas.Cmp.{ranked}
use Rattle.std.proofs.lemmas.Str.Ascii.{IsAscii-nil}
use Rattle.spk_script.specs.declared.words.Word.{Word}
use Rattle.spk_script.specs.declared.script.ScriptFault.{ScriptFault}
use Rattle.spk_script.specs.Words.{is_blank, is_comment, is_quote, Context, Blank, Bare, Quoted, put_word, put_byte, end_of, words_after, words_of}
use Rattle.spk_script.specs.Lines.{LogicalLine, continues, with_first, runs_of, raw_of, text_of, with_words, logical_line, put_line, logical_lines, line_numbered}
use Rattle.spk_script.specs.Scripts.{IsScript}
use Rattle.spk_script.proofs.Allowed.{IsAllowedByte, IsAllowed, bytes_of, text_is_allowed}
use Rattle.spk_script.proofs.Cuts.{by_bool, allowed_below}

-- words whose texts are ASCII, if there are any
abbrev IsAsciiWord : Word → Type 0
IsAsciiWord word = IsAscii word.text

abbrev AreAscii : Option (List Word) → Type 0
AreAscii None = Unit {0}
AreAscii (Some words) = All IsAsciiWord words

ascii_cons : (b : ℕ) (text : List ℕ) → b < 128 → IsAscii text → IsAscii (b ∷ text)
ascii_cons b text low ascii zero = low
ascii_cons b text low ascii (suc i) = ascii i

put_word_ascii : (word : Word) (words : Option (List Word)) → IsAscii word.text → AreAscii words → AreAscii (put_word word words)
put_word_ascii word None ascii rest = tt
put_word_ascii word (Some words) ascii rest = All-cons IsAsciiWord word words ascii rest

put_byte_ascii : (b : ℕ) (words : Option (List Word)) → b < 128 → AreAscii words → AreAscii (put_byte b words)
put_byte_ascii b None low rest = tt
put_byte_ascii b (Some []) low rest = rest
put_byte_ascii b (Some (word ∷ words)) low rest =
    let first : IsAscii word.text = All-head IsAsciiWord word words rest in
    All-cons IsAsciiWord (record word { text = b ∷ word.text }) words (ascii_cons b word.text low first)
    (All-tail IsAsciiWord word words rest)

words_ascii : (following : Context) (text : List ℕ) → All IsAllowedByte text → AreAscii (words_after following text)
unfolding words_after
words_ascii Blank [] allowed = All-nil IsAsciiWord
words_ascii Blank (b ∷ text) allowed =
    let low : b < 128 = allowed_below b (All-head IsAllowedByte b text allowed) in
    let rest : All IsAllowedByte text = All-tail IsAllowedByte b text allowed in
    by_bool (is_comment b) (λ comment. rw comment (All-nil IsAsciiWord))
    (λ plain. by_bool (is_blank b) (λ blank. rw (plain, blank) (words_ascii Blank text rest))
    (λ seen. by_bool (is_quote b) (λ quote. rw (plain, seen, quote) (words_ascii Quoted text rest))
    (λ bare. rw (plain, seen, bare) (put_byte_ascii b (words_after Bare text) low (words_ascii Bare text rest)))))
words_ascii Bare [] allowed = All-cons IsAsciiWord (end_of false) [] IsAscii-nil (All-nil IsAsciiWord)
words_ascii Bare (b ∷ text) allowed =
    let low : b < 128 = allowed_below b (All-head IsAllowedByte b text allowed) in
    let rest : All IsAllowedByte text = All-tail IsAllowedByte b text allowed in
    by_bool (is_comment b) (λ comment. rw comment (All-cons IsAsciiWord (end_of false) [] IsAscii-nil (All-nil IsAsciiWord)))
    (λ plain. by_bool (is_blank b)
    (λ blank. rw (plain, blank) (put_word_ascii (end_of false) (words_after Blank text) IsAscii-nil (words_ascii Blank text rest)))
    (λ seen. rw (plain, seen) (put_byte_ascii b (words_after Bare text) low (words_ascii Bare text rest))))
words_ascii Quoted [] allowed = tt
words_ascii Quoted (b ∷ text) allowed =
    let low : b < 128 = allowed_below b (All-head IsAllowedByte b text allowed) in
    let rest : All IsAllowedByte text = All-tail IsAllowedByte b text allowed in
    by_bool (is_quote b)
    (λ quote. rw quote (put_word_ascii (end_of true) (words_after Blank text) IsAscii-nil (words_ascii Blank text rest)))
    (λ plain. rw plain (put_byte_ascii b (words_after Quoted text) low (words_ascii Quoted text rest)))

-- a run has some physical lines, of allowed bytes
abbrev IsRun : List (List ℕ) → Type 0
IsRun run = (0 < length run) × All IsAllowed run

with_first_holds : (line : List ℕ) (runs : List (List (List ℕ))) → IsAllowed line → All IsRun runs → All IsRun (with_first line runs)
with_first_holds line [] allowed holds =
    All-cons IsRun (line ∷ []) [] (omega arith, All-cons IsAllowed line [] allowed (All-nil IsAllowed)) holds
with_first_holds line (run ∷ runs) allowed holds =
    let following : IsRun run = All-head IsRun run runs holds in
    All-cons IsRun (line ∷ run) runs (omega arith, All-cons IsAllowed line run allowed following.1) (All-tail IsRun run runs holds)

runs_hold : (lines : List (List ℕ)) → All IsAllowed lines → All IsRun (runs_of lines)
runs_hold [] allowed = All-nil IsRun
runs_hold (line ∷ lines) allowed =
    let first : IsAllowed line = All-head IsAllowed line lines allowed in
    let rest : All IsRun (runs_of lines) = runs_hold lines (All-tail IsAllowed line lines allowed) in
    elim (continues line) as (λ c. All IsRun (cond c (with_first line (runs_of lines)) ((line ∷ []) ∷ runs_of lines))) [
      | true ↦ with_first_holds line (runs_of lines) first rest
      | false ↦ All-cons IsRun (line ∷ []) (runs_of lines) (omega arith, All-cons IsAllowed line [] first (All-nil IsAllowed)) rest
    ]

-- the lines of a script from a number on
record IsFrom (number : ℕ) (lines : List LogicalLine) : Type 0 where
  script : IsScript lines
  above : All (λ line. number ≤ line.number) lines

abbrev AreFrom : ℕ → Result (List LogicalLine) ScriptFault → Type 0
AreFrom number (Ok lines) = IsFrom number lines
AreFrom number (Err fault) = Unit {0}

abbrev IsLine : ℕ → Option LogicalLine → Type 0
IsLine number None = Unit {0}
IsLine number (Some line) = (line.number ≡ number) × All IsAsciiWord line.words

pairs_cons : {X : Type 0} (R : X → X → Type 0) (x : X) (xs : List X) → All (R x) xs → AllPairs R xs → AllPairs R (x ∷ xs)
pairs_cons R x xs here rest zero zero d less within = absurd (omega (arith, less))
pairs_cons R x xs here rest zero (suc j) d less within = here j d (omega (arith, within))
pairs_cons R x xs here rest (suc i) zero d less within = absurd (omega (arith, less))
pairs_cons R x xs here rest (suc i) (suc j) d less within = rest i j d (omega (arith, less)) (omega (arith, within))

with_words_line : (number : ℕ) (raw : List ℕ) (words : Option (List Word)) → AreAscii words → IsLine number (with_words number raw words)
with_words_line number raw None ascii = tt
with_words_line number raw (Some words) ascii = (refl, ascii)

put_line_from : (number next : ℕ) (line : Option LogicalLine) (lines : Result (List LogicalLine) ScriptFault) →
    number < next → IsLine number line → AreFrom next lines → AreFrom number (put_line number line lines)
put_line_from number next None lines less is from = tt
put_line_from number next (Some line) (Err fault) less is from = tt
put_line_from number next (Some line) (Ok lines) less is from =
    let same : line.number ≡ number = is.0 in
    record {
      script = record {
        ascii = All-cons (λ line. All IsAsciiWord line.words) line lines is.1 from.script.ascii;
        rising = pairs_cons (λ line later. line.number < later.number) line lines
            (All-weaker (λ later. next ≤ later.number) (λ later. line.number < later.number)
            (λ later up. omega (arith, up, same, less)) lines from.above) from.script.rising;
      };
      above = All-cons (λ line. number ≤ line.number) line lines (omega (arith, same))
          (All-weaker (λ later. next ≤ later.number) (λ later. number ≤ later.number)
          (λ later up. omega (arith, up, less)) lines from.above);
    }

lines_from : (number : ℕ) (runs : List (List (List ℕ))) → All IsRun runs → AreFrom number (logical_lines number runs)
lines_from number [] holds = record {
  script = record { ascii = All-nil (λ line. All IsAsciiWord line.words); rising = λ i j d less within. absurd (omega (arith, within)) };
  above = All-nil (λ line. number ≤ line.number);
}
lines_from number (run ∷ runs) holds =
    let first : IsRun run = All-head IsRun run runs holds in
    let some : 0 < length run = first.0 in
    let bytes : All IsAllowedByte (text_of run) = bytes_of (text_of run) (text_is_allowed run first.1) in
    put_line_from number (number + length run) (logical_line number run) (logical_lines (number + length run) runs)
    (omega (arith, some))
    (with_words_line number (raw_of run) (words_of (text_of run)) (words_ascii Blank (text_of run) bytes))
    (lines_from (number + length run) runs (All-tail IsRun run runs holds))

-- the lines of a script that was read
pub is_script : (lines : List (List ℕ)) (logical : List LogicalLine) →
    All IsAllowed lines → logical_lines 1 (runs_of lines) ≡ Ok logical → IsScript logical
is_script lines logical allowed is =
    let from : IsFrom 1 logical = subst (AreFrom 1) is (lines_from 1 (runs_of lines) (runs_hold lines allowed)) in
    from.script

-- a line by its number
module _ (lines : List LogicalLine) (rising : AllPairs (λ line later. line.number < later.number) lines) (number : ℕ) where
  comparisons_rise : IsNonDecreasingBy (λ line. ordering_index (nat_cmp line.number number)) lines
  comparisons_rise i j d upto within =
      elim (cases_lt i j) [
        | inl less ↦
            let rises : (get_or lines i d).number < (get_or lines j d).number = rising i j d less within in grind (arith, nat_tests)
        | inr following ↦ let same : i ≡ j = omega (arith, upto, following) in rw same (omega arith)
      ]

  -- where a binary search found it
  pub found_line : (place : ℕ) (d : LogicalLine) → place < length lines →
      IsBinarySearchResult (λ line. nat_cmp line.number number) lines (Ok place) → line_numbered lines number ≡ Some (get_or lines place d)
  found_line place d within equal =
      let here : (get_or lines place d).number ≡ number = ranked (get_or lines place d).number number Equal (sym (equal d)) in
      let before : (k : ℕ) → k < place → ((get_or lines k d).number == number) ≡ false = λ k less.
      let rises : (get_or lines k d).number < (get_or lines place d).number = rising k place d less within in grind (arith, nat_tests) in
      found_at (λ xs. line_numbered xs number) (λ line. line.number == number) Some None refl (λ _ _. refl)
      lines place d within before (grind (arith, nat_tests))

  -- where it found none
  pub no_line : (place : ℕ) →
      IsBinarySearchResult (λ line. nat_cmp line.number number) lines (Err place) → line_numbered lines number ≡ None
  no_line place parted =
      let none : LogicalLine = record { number = 0; raw = []; words = [] } in
      let others : (k : ℕ) → k < length lines → ((get_or lines k none).number == number) ≡ false = λ k within.
      elim (cases_lt k place) [
        | inl below ↦
            let is_less : nat_cmp (get_or lines k none).number number ≡ Less = (parted comparisons_rise).0 k none (omega arith) below in
            let less : (get_or lines k none).number < number = ranked (get_or lines k none).number number Less (sym is_less) in
            grind (arith, nat_tests)
        | inr above ↦
            let is_greater : nat_cmp (get_or lines k none).number number ≡ Greater = (parted comparisons_rise).1 k none above within in
            let more : number < (get_or lines k none).number = ranked (get_or lines k none).number number Greater (sym is_greater) in
            grind (arith, nat_tests)
      ] in
      found_nowhere (λ xs. line_numbered xs number) (λ line. line.number == number) Some None refl (λ _ _. refl) lines none others

-- a line that was read from the list is found by its number
pub line_is_there : (lines : List LogicalLine) (place : ℕ) (line : LogicalLine) →
    place < length lines → line ≡ get_or lines place line → IsSome (line_numbered lines line.number)
line_is_there [] place line within read = absurd (omega (arith, within))
line_is_there (first ∷ lines) zero line within read =
    let same : (first.number == line.number) ≡ true = eq-eqb first.number line.number (ap (λ l. l.number) (sym read)) in rw same refl
line_is_there (first ∷ lines) (suc place) line within read =
    elim (first.number == line.number) as (λ c. IsSome (cond c (Some first) (line_numbered lines line.number))) [
      | true ↦ refl
      | false ↦ line_is_there lines place line (omega (arith, within)) read
    ]
