-- The words of a line, one after the other.
use Rattle.std.proofs.Common.{◌≡◌, ℕ, ◌+◌, ◌<◌, Bool, true, cond, not, List, [], ◌∷◌, length, get_or, take, drop, Some, None, suc, refl, sym, ap, ◌∙◌, inl, inr, add-one, arith, drop-cons, length-take}
use Rattle.std.proofs.Math.ListN.{drop_of_length-le}
use Rattle.std.proofs.lemmas.Bool.{cases_Bool, cases_lt}
use Rattle.std.proofs.lemmas.Bool.Decides.{nat_tests}
use Rattle.std.proofs.lemmas.List.{take_all}
use Rattle.std.proofs.lemmas.List.Splits.{slice_split-cons_yes, slice_split_first, slice_split_none}
use Rattle.std.proofs.lemmas.List.Sums.{fails_before_first, passes_at_first, prefix_len-drop_yes, prefix_len-le-length}
use Rattle.std.specs.List.{position, position_or_len}
use Rattle.std.specs.Prelude.{filter, nat_lt}
use Rattle.spk_files.specs.Lines.{is_blank, has_bytes, words_of}
use Rattle.spk_files.proofs.Places.{place_found, place_missing}

-- a test for the bytes of words
abbrev pub is_in_word : ℕ → Bool
is_in_word b = not (is_blank b)

-- a blank before the words is in none of them
blank_before : (b : ℕ) (text : List ℕ) → is_blank b ≡ true → words_of (b ∷ text) ≡ words_of text
blank_before b text blank = ap (filter has_bytes) (slice_split-cons_yes is_blank b text blank)

-- nor is any of the blanks before the first word
blanks_before : (text : List ℕ) → words_of text ≡ words_of (drop (position_or_len is_in_word text) text)
blanks_before [] = refl
blanks_before (b ∷ text) =
    let start : Bool → ℕ = λ blank. cond (not (not blank)) (1 + position_or_len is_in_word text) 0 in
    let next : suc (position_or_len is_in_word text) ≡ 1 + position_or_len is_in_word text = omega arith in
    elim (cases_Bool (is_blank b)) [
      | inl is ↦ blank_before b text is ∙ blanks_before text ∙ ap (λ k. words_of (drop k (b ∷ text))) (next ∙ ap start (sym is))
      | inr is ↦ ap (λ blank. words_of (drop (start blank) (b ∷ text))) (sym is)
    ]

-- a word ends at a blank or at the end of the line
word_ends : (text : List ℕ) → 0 < position_or_len is_blank text →
    words_of text ≡ take (position_or_len is_blank text) text ∷ words_of (drop (position_or_len is_blank text) text)
word_ends text some =
    let end : ℕ = position_or_len is_blank text in
    elim (cases_lt end (length text)) [
      | inl within ↦ let bytes : nat_lt 0 (length (take end text)) ≡ true = simp length-take (grind (arith, nat_tests)) in
          let rest : words_of (drop end text) ≡ words_of (drop (end + 1) text) =
          rw (add-one, drop-cons text end 0) (blank_before (get_or text end 0) (drop (suc end) text) (passes_at_first is_blank text 0 within)) in
          ap (filter has_bytes) (slice_split_first is_blank text 0 within)
          ∙ ap (λ b. cond b (take end text ∷ words_of (drop (end + 1) text)) (words_of (drop (end + 1) text))) bytes
          ∙ ap (λ words. take end text ∷ words) (sym rest)
      | inr past ↦ let whole : end ≡ length text = omega (arith, prefix_len-le-length (λ b. not (is_blank b)) text) in
          let bytes : nat_lt 0 (length text) ≡ true = grind (arith, nat_tests) in
          ap (filter has_bytes) (slice_split_none is_blank text (λ k b within. fails_before_first is_blank text k b (omega arith)))
          ∙ rw (bytes, take_all end text past, drop_of_length-le text past) refl
    ]

-- no word stands where there are only blanks
pub no_words : (text : List ℕ) → None ≡ position is_in_word text → words_of text ≡ []
no_words text none =
    blanks_before text ∙ ap words_of (drop_of_length-le text (omega (arith, place_missing is_in_word text none)))

-- the first word stands from the first byte that is no blank to the next blank
pub word_from : (text : List ℕ) (start : ℕ) → Some start ≡ position is_in_word text →
    words_of text ≡ take (position_or_len is_blank (drop start text)) (drop start text) ∷ words_of (drop (position_or_len is_blank (drop start text)) (drop start text))
word_from text start is =
    let at = place_found is_in_word text start is in
    let more : position_or_len is_blank (drop start text) ≡ 1 + position_or_len is_blank (drop (start + 1) text) =
    prefix_len-drop_yes is_in_word text start 0 at.1 (ap (λ k. is_in_word (get_or text k 0)) (sym at.0) ∙ passes_at_first is_in_word text 0 (omega (arith, at.0, at.1))) in
    blanks_before text ∙ ap (λ k. words_of (drop k text)) at.0 ∙ word_ends (drop start text) (omega arith)
