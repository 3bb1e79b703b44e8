-- The parts of a text between its blanks.
use Rattle.std.proofs.Common.{◌≡◌, ℕ, ◌+◌, ◌-◌, ◌<◌, true, false, List, length, get_or, take, drop, Some, None, sym, ◌∙◌, ap, subst, arith}
use Rattle.std.specs.List.{slice_range, position, position_or_len}
use Rattle.std.specs.Str.{IsUtf8, IsCharBoundary}
use Rattle.std.proofs.lemmas.Bool.Decides.{nat_tests}
use Rattle.std.proofs.lemmas.List.{length-drop}
use Rattle.std.proofs.lemmas.List.Sums.{passes_at_first}
use Rattle.std.proofs.lemmas.Str.{IsCharBoundary-before_ascii, IsCharBoundary-after_ascii}
use Rattle.spk_script.specs.Words.{is_blank}
use Rattle.spk_script.specs.LineBuffers.{OpenLine, with_text, ended, with_bare, IsCut}
use Rattle.spk_script.proofs.LineBuffers.{no_blank, first_blank}
use Rattle.spk_script.proofs.Cuts.{place_found, place_missing}

-- a text without a blank
pub whole_part : (text : List ℕ) → None ≡ position is_blank text → (line : OpenLine) → with_bare line text ≡ with_text line text
whole_part text none line = no_blank line text (place_missing is_blank text (sym none))

-- the first blank of a text
first_at : (text : List ℕ) (place : ℕ) → Some place ≡ position is_blank text →
    (position_or_len is_blank text ≡ place) × (place < length text)
first_at text place found = place_found is_blank text place (sym found)

blank_is_ascii : (b : ℕ) → is_blank b ≡ true → b < 128
blank_is_ascii b is = grind (arith, nat_tests)

blank_at : (text : List ℕ) (place : ℕ) → Some place ≡ position is_blank text → (place < length text) × (get_or text place 0 < 128)
blank_at text place found =
    let at : (position_or_len is_blank text ≡ place) × (place < length text) = first_at text place found in
    let passes : is_blank (get_or text (position_or_len is_blank text) 0) ≡ true = passes_at_first is_blank text 0 (omega arith) in
    (at.1, blank_is_ascii (get_or text place 0) (subst (λ n. is_blank (get_or text n 0) ≡ true) at.0 passes))

pub before_blank : (text : List ℕ) (place : ℕ) → Some place ≡ position is_blank text → IsCharBoundary text place
before_blank text place found =
    IsCharBoundary-before_ascii text place (blank_at text place found).0 (blank_at text place found).1

pub after_blank : (text : List ℕ) (place : ℕ) → Some place ≡ position is_blank text → IsUtf8 text → IsCharBoundary text (place + 1)
after_blank text place found utf8 =
    IsCharBoundary-after_ascii text place utf8 (blank_at text place found).0 (blank_at text place found).1

pub first_part : (text part rest : List ℕ) (place : ℕ) → Some place ≡ position is_blank text →
    part ≡ slice_range text 0 place → rest ≡ drop (place + 1) text → IsCut text part rest
first_part text part rest place found prefix back =
    let at : (position_or_len is_blank text ≡ place) × (place < length text) = first_at text place found in
    let start : place - 0 ≡ place = omega arith in
    let taken : part ≡ take place text = prefix ∙ ap (λ n. take n text) start in
    record {
      is = λ line. first_blank line text (omega (arith, at.0, at.1))
          ∙ ap (λ n. with_bare (ended false (with_text line (take n text))) (drop (n + 1) text)) at.0
          ∙ ap (λ t. with_bare (ended false (with_text line t)) (drop (place + 1) text)) (sym taken)
          ∙ ap (λ t. with_bare (ended false (with_text line part)) t) (sym back);
      shorter = rw back (omega (arith, length-drop (place + 1) text));
    }
