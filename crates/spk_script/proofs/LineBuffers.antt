-- The words of a line while it is read from the left.
use Rattle.std.proofs.Common.{◌≡◌, ℕ, ◌+◌, ◌<◌, ◌≤◌, Bool, true, false, List, [], ◌∷◌, ◌++◌, length, refl, sym, ◌∙◌, ap, subst, inl, inr, arith, append_assoc, append-nil}
use Rattle.std.specs.Prelude.{filter}
use Rattle.std.specs.List.{onto_first, slice_split, position_or_len, before_first, after_first}
use Rattle.std.proofs.lemmas.Bool.{cases_Bool}
use Rattle.std.proofs.lemmas.Bool.Decides.{nat_tests}
use Rattle.std.proofs.lemmas.List.{length-append}
use Rattle.std.proofs.lemmas.List.Elements.{filter-append}
use Rattle.std.proofs.lemmas.List.Sums.{sum_by_push}
use Rattle.spk_script.specs.declared.line_buffer.LineBuffer.{LineBuffer}
use Rattle.spk_script.specs.Words.{is_blank}
use Rattle.spk_script.specs.Substitution.{is_not_empty, cut_at_blanks}
use Rattle.spk_script.specs.LineBuffers.{OpenLine, size_of, with_text, last_word, ended, with_bare, with_part, HoldsBy, Holds}
use Rattle.spk_script.proofs.Firsts.{place_here, place_after, cut_here, cut_after}

abbrev pub line_of : List (List ℕ) → List ℕ → OpenLine
line_of words text = record { words = words; text = text }

-- text after text
bare_twice : (line : OpenLine) (text rest : List ℕ) → with_bare line (text ++ rest) ≡ with_bare (with_bare line text) rest
unfolding with_bare
bare_twice line [] rest = refl
bare_twice line (b ∷ text) rest =
    elim (cases_Bool (is_blank b)) [
      | inl blank ↦ rw blank (bare_twice (ended false line) text rest)
      | inr other ↦ rw other (bare_twice (with_text line (b ∷ [])) text rest)
    ]

pub part_twice : (quoted : Bool) (line : OpenLine) (text rest : List ℕ) →
    with_part quoted line (text ++ rest) ≡ with_part quoted (with_part quoted line text) rest
part_twice true line text rest = ap (line_of line.words) (sym (append_assoc line.text text rest))
part_twice false line text rest = bare_twice line text rest

-- a text without a blank, and one up to its first blank
pub no_blank : (line : OpenLine) (text : List ℕ) → position_or_len is_blank text ≡ length text → with_bare line text ≡ with_text line text
unfolding with_bare
no_blank line [] is = ap (line_of line.words) (sym (append-nil line.text))
no_blank line (b ∷ text) is =
    elim (cases_Bool (is_blank b)) [
      | inl blank ↦ absurd (omega (arith, place_here is_blank b text blank))
      | inr other ↦ rw other (no_blank (with_text line (b ∷ [])) text (omega (arith, place_after is_blank b text other))
          ∙ ap (line_of line.words) (append_assoc line.text (b ∷ []) text))
    ]

pub first_blank : (line : OpenLine) (text : List ℕ) → position_or_len is_blank text < length text →
    with_bare line text ≡ with_bare (ended false (with_text line (before_first is_blank text))) (after_first is_blank text)
unfolding with_bare
first_blank line [] within = absurd (omega (arith, within))
first_blank line (b ∷ text) within =
    elim (cases_Bool (is_blank b)) [
      | inl blank ↦ let cut = cut_here is_blank b text blank in
          rw (cut.0, cut.1, blank) (ap (λ t. with_bare (ended false (line_of line.words t)) text) (sym (append-nil line.text)))
      | inr other ↦ let cut = cut_after is_blank b text other in
          let more : position_or_len is_blank text < length text = omega (arith, place_after is_blank b text other) in
          rw (cut.0, cut.1, other) (first_blank (with_text line (b ∷ [])) text more
          ∙ ap (λ t. with_bare (ended false (line_of line.words t)) (after_first is_blank text))
          (append_assoc line.text (b ∷ []) (before_first is_blank text)))
    ]

-- the words of a whole text, whose first one has begun
abbrev put_first : List ℕ → List (List ℕ) → List (List ℕ)
put_first text [] = text ∷ []
put_first text (part ∷ parts) = (text ++ part) ∷ parts

nothing_first : (parts : List (List ℕ)) → filter is_not_empty (put_first [] parts) ≡ filter is_not_empty parts
nothing_first [] = refl
nothing_first (part ∷ parts) = refl

one_byte_first : (text : List ℕ) (b : ℕ) (parts : List (List ℕ)) → put_first (text ++ b ∷ []) parts ≡ put_first text (onto_first b parts)
one_byte_first text b [] = refl
one_byte_first text b (part ∷ parts) = ap (λ p. p ∷ parts) (append_assoc text (b ∷ []) part)

word_first : (words : List (List ℕ)) (text : List ℕ) (parts : List (List ℕ)) →
    (words ++ last_word false text) ++ filter is_not_empty parts ≡ words ++ filter is_not_empty ((text ++ []) ∷ parts)
word_first words text parts =
    append_assoc words (last_word false text) (filter is_not_empty parts)
    ∙ ap (λ ws. words ++ ws) (sym (filter-append is_not_empty (text ∷ []) parts)
    ∙ ap (λ t. filter is_not_empty (t ∷ parts)) (sym (append-nil text)))

bare_word : (line : OpenLine) (text : List ℕ) →
    ended false (with_bare line text) ≡ line_of (line.words ++ filter is_not_empty (put_first line.text (slice_split is_blank text))) []
unfolding with_bare
bare_word line [] = ap (λ t. line_of (line.words ++ filter is_not_empty (t ∷ [])) []) (sym (append-nil line.text))
bare_word line (b ∷ text) =
    let parts = slice_split is_blank text in
    elim (cases_Bool (is_blank b)) [
      | inl blank ↦ rw blank (bare_word (ended false line) text
          ∙ ap (λ ws. line_of ((line.words ++ last_word false line.text) ++ ws) []) (nothing_first parts)
          ∙ ap (λ ws. line_of ws []) (word_first line.words line.text parts))
      | inr other ↦ rw other (bare_word (with_text line (b ∷ [])) text
          ∙ ap (λ ws. line_of (line.words ++ filter is_not_empty ws) []) (one_byte_first line.text b parts))
    ]

pub whole_word : (quoted : Bool) (words : List (List ℕ)) (text : List ℕ) →
    ended quoted (with_part quoted (line_of words []) text) ≡ line_of (words ++ cut_at_blanks quoted text) []
whole_word true words text = refl
whole_word false words text =
    bare_word (line_of words []) text ∙ ap (λ ws. line_of (words ++ ws) []) (nothing_first (slice_split is_blank text))

-- the bytes of a line only grow
size_with_text : (line : OpenLine) (text : List ℕ) → size_of (with_text line text) ≡ size_of line + length text
size_with_text line text = omega (arith, length-append line.text text)

size_with_word : (line : OpenLine) → size_of (line_of (line.words ++ line.text ∷ []) []) ≡ size_of line + 1
size_with_word line = omega (arith, sum_by_push (λ (word : List ℕ). length word + 1) line.words line.text)

word_of_text : (line : OpenLine) → is_not_empty line.text ≡ true → ended false line ≡ line_of (line.words ++ line.text ∷ []) []
word_of_text line is = rw is refl

no_word : (line : OpenLine) → is_not_empty line.text ≡ false → ended false line ≡ line_of line.words []
no_word line is = rw is (ap (λ ws. line_of ws []) (append-nil line.words))

ended_grows : (quoted : Bool) (line : OpenLine) → size_of line ≤ size_of (ended quoted line)
ended_grows true line = omega (arith, size_with_word line)
ended_grows false line =
    elim (cases_Bool (is_not_empty line.text)) [
      | inl some ↦ omega (arith, size_with_word line, ap size_of (word_of_text line some))
      | inr none ↦ let empty : length line.text ≡ 0 = grind (arith, nat_tests) in omega (arith, empty, ap size_of (no_word line none))
    ]

bare_grows : (line : OpenLine) (text : List ℕ) → size_of line ≤ size_of (with_bare line text)
unfolding with_bare
bare_grows line [] = omega arith
bare_grows line (b ∷ text) =
    elim (cases_Bool (is_blank b)) [
      | inl blank ↦ rw blank (omega (arith, ended_grows false line, bare_grows (ended false line) text))
      | inr other ↦ rw other (omega (arith, size_with_text line (b ∷ []), bare_grows (with_text line (b ∷ [])) text))
    ]

part_grows : (quoted : Bool) (line : OpenLine) (text : List ℕ) → size_of line ≤ size_of (with_part quoted line text)
part_grows true line text = omega (arith, size_with_text line text)
part_grows false line text = bare_grows line text

-- a buffer now, and what is left of a text that it began with
pub record IsHeld (now : LineBuffer) (left : List ℕ) (whole : OpenLine) : Type 0 where
  pub line : OpenLine
  pub holds : Holds now line
  pub is : whole ≡ with_bare line left

abbrev pub IsPushed : LineBuffer → List ℕ → LineBuffer → List ℕ → Type 0
IsPushed old text now left = (line : OpenLine) → Holds old line → IsHeld now left (with_bare line text)

-- past the limit nothing changes
pub past_limit : (buffer : LineBuffer) (quoted : Bool) (text : List ℕ) → buffer.too_long ≡ true → (line : OpenLine) →
    Holds buffer line → Holds buffer (with_part quoted line text)
past_limit buffer quoted text is line holds =
    let was : 4097 < size_of line = subst (λ b. HoldsBy b buffer line) is holds in
    subst (λ b. HoldsBy b buffer (with_part quoted line text)) (sym is) (omega (arith, was, part_grows quoted line text))
