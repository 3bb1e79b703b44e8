-- The parts of a text, cut off one after another.
use Rattle.std.proofs.Common.{◌≡◌, ℕ, zero, suc, ◌+◌, ◌<◌, ◌≤◌, Bool, true, false, cond, List, [], ◌∷◌, ◌++◌, length, get_or, take, drop, refl, sym, ◌∙◌, ap, subst, arith, append_assoc, append-nil}
use Rattle.std.specs.List.{take_while}
use Rattle.std.specs.Str.{IsAscii}
use Rattle.std.proofs.lemmas.Bool.Decides.{nat_tests}
use Rattle.std.proofs.lemmas.List.{drop-drop, length-drop, get_or-drop, drop_all}
use Rattle.std.proofs.lemmas.List.Folds.{length-prefix_len}
use Rattle.std.proofs.lemmas.List.Sums.{take_while-cons}
use Rattle.std.proofs.lemmas.Str.Ascii.{IsAscii-nil, IsAscii-cons}
use Rattle.spk_num.specs.Decimal.{millionths_of}
use Rattle.spk_script.specs.declared.formula.part.Part.{Part}
use Rattle.spk_script.specs.declared.formula.part.Token.{Token}
use Rattle.spk_script.specs.Words.{is_blank}
use Rattle.spk_num.specs.Names.{is_name_byte}
use Rattle.spk_script.specs.Formulas.{is_number_byte, number_of, more_of, token_of, parts_after}
use Rattle.spk_script.specs.Parts.{token_at, length_at}

-- a run at the start, by its length
pub take_run : (p : ℕ → Bool) (text : List ℕ) → take (length (take_while p text)) text ≡ take_while p text
take_run p text = ap (λ n. take n text) (length-prefix_len p text)

name_byte_below : (b : ℕ) → is_name_byte b ≡ true → b < 128
name_byte_below b is = grind (arith, nat_tests)

pub names_are_ascii : (text : List ℕ) → IsAscii (take_while is_name_byte text)
names_are_ascii [] = IsAscii-nil
names_are_ascii (b ∷ text) =
    subst IsAscii (sym (take_while-cons is_name_byte b text))
    ((elim (is_name_byte b) as (λ v. is_name_byte b ≡ v → IsAscii (cond v (b ∷ take_while is_name_byte text) [])) [
      | true ↦ λ is. IsAscii-cons b (take_while is_name_byte text) (name_byte_below b is) (names_are_ascii text)
      | false ↦ λ is. IsAscii-nil
    ]) refl)

-- the parts after so many bytes of the part before
parts_past : (n place : ℕ) (text : List ℕ) → n ≤ length text → parts_after n place text ≡ parts_after 0 (place + n) (drop n text)
unfolding parts_after
parts_past zero place text within = let same : place ≡ place + 0 = omega arith in ap (λ p. parts_after 0 p text) same
parts_past (suc n) place [] within = absurd (omega arith)
parts_past (suc n) place (b ∷ text) within =
    let same : place + 1 + n ≡ place + suc n = omega arith in
    let less : n ≤ length text = omega arith in
    parts_past n (place + 1) text less ∙ ap (λ p. parts_after 0 p (drop n text)) same

-- a number takes its first byte too
pub number_begins : (place : ℕ) (text rest : List ℕ) (b : ℕ) → text ≡ b ∷ rest → is_number_byte b ≡ true →
    number_of place (millionths_of (take_while is_number_byte text)) ≡ token_at place text
number_begins place text rest b prefix is =
    let run : List ℕ = take_while is_number_byte rest in
    let whole : take_while is_number_byte (b ∷ rest) ≡ b ∷ run = take_while-cons is_number_byte b rest ∙ rw is refl in
    let token : token_of place b rest ≡ number_of place (millionths_of (b ∷ run)) = rw is refl in
    ap (λ t. number_of place (millionths_of (take_while is_number_byte t))) prefix
    ∙ ap (λ bytes. number_of place (millionths_of bytes)) whole ∙ sym token ∙ ap (token_at place) (sym prefix)

-- a blank at the start, and a part at the start
blank_first : (place : ℕ) (text : List ℕ) → 0 < length text → is_blank (get_or text 0 0) ≡ true →
    parts_after 0 place text ≡ parts_after 0 (place + 1) (drop 1 text)
unfolding parts_after
blank_first place [] some blank = absurd (omega arith)
blank_first place (b ∷ text) some blank = rw blank refl

abbrev pub part_at : ℕ → Token → Part
part_at place token = record { place = place; token = token }

abbrev pub parts_from : ℕ → ℕ → List ℕ → List Part
parts_from place n text = parts_after 0 (place + n) (drop n text)

part_first : (place : ℕ) (text : List ℕ) → 0 < length text → is_blank (get_or text 0 0) ≡ false → length_at text ≤ length text →
    parts_after 0 place text ≡ part_at place (token_at place text) ∷ parts_from place (length_at text) text
unfolding parts_after
part_first place [] some seen within = absurd (omega arith)
part_first place (b ∷ text) some seen within =
    let less : more_of b text ≤ length text = omega arith in
    let one : more_of b text + 1 ≡ suc (more_of b text) = omega arith in
    let same : place + 1 + more_of b text ≡ place + suc (more_of b text) = omega arith in
    rw (seen, one) (ap (λ parts. part_at place (token_of place b text) ∷ parts)
    (parts_past (more_of b text) (place + 1) text less ∙ ap (λ p. parts_after 0 p (drop (more_of b text) text)) same))

-- the same from a place on
first_at_place : (text : List ℕ) (at : ℕ) → at < length text →
    (0 < length (drop at text)) × (get_or (drop at text) 0 0 ≡ get_or text at 0)
first_at_place text at within =
    let same : at + 0 ≡ at = omega arith in
    (omega (arith, length-drop at text), get_or-drop at text 0 0 ∙ ap (λ i. get_or text i 0) same)

pub blank_passed : (text : List ℕ) (at : ℕ) → at < length text → is_blank (get_or text at 0) ≡ true →
    parts_after 0 at (drop at text) ≡ parts_after 0 (at + 1) (drop (at + 1) text)
blank_passed text at within blank =
    let prefix = first_at_place text at within in
    blank_first at (drop at text) prefix.0 (ap is_blank prefix.1 ∙ blank) ∙ ap (parts_after 0 (at + 1)) (drop-drop 1 at text)

pub part_taken : (whole done now : List Part) (text : List ℕ) (at n : ℕ) (token : Token) → at < length text →
    is_blank (get_or text at 0) ≡ false → token ≡ token_at at (drop at text) → n ≡ length_at (drop at text) → n ≤ length (drop at text) →
    now ≡ done ++ part_at at token ∷ [] → whole ≡ done ++ parts_after 0 at (drop at text) →
    whole ≡ now ++ parts_after 0 (at + n) (drop (at + n) text)
part_taken whole done now text at n token within seen is count fits pushed so_far =
    let rest : List ℕ = drop at text in
    let prefix = first_at_place text at within in
    so_far ∙ ap (λ parts. done ++ parts) (part_first at rest prefix.0 (ap is_blank prefix.1 ∙ seen) (omega arith))
    ∙ ap (λ t. done ++ part_at at t ∷ parts_from at (length_at rest) rest) (sym is)
    ∙ ap (λ k. done ++ part_at at token ∷ parts_from at k rest) (sym count)
    ∙ ap (λ last. done ++ part_at at token ∷ parts_after 0 (at + n) last) (drop-drop n at text)
    ∙ sym (append_assoc done (part_at at token ∷ []) (parts_after 0 (at + n) (drop (at + n) text)))
    ∙ ap (λ parts. parts ++ parts_after 0 (at + n) (drop (at + n) text)) (sym pushed)

-- no byte is left
pub all_parts : (whole done : List Part) (text : List ℕ) (at : ℕ) → length text ≤ at →
    whole ≡ done ++ parts_after 0 at (drop at text) → whole ≡ done
unfolding parts_after
all_parts whole done text at following so_far =
    so_far ∙ ap (λ rest. done ++ parts_after 0 at rest) (drop_all at text following) ∙ append-nil done
