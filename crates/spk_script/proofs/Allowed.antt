-- Lines and words of a script of allowed bytes have no others.
use Rattle.std.proofs.Common.{◌≡◌, ℕ, ◌-◌, Bool, true, false, cond, List, [], ◌∷◌, ◌==◌, length, reverse, take, sym, subst}
use Rattle.std.specs.List.{All, AllByRecursion, list_all, slice_split, onto_first}
use Rattle.std.proofs.lemmas.List.{reverse-append}
use Rattle.std.proofs.lemmas.List.Elements.{All-nil, All-head, All-tail, All-push, All-append, All-take, All-weaker, All-from_recursion, recursion_from_All}
use Rattle.std.proofs.lemmas.List.Sums.{AllPass-from_list_all, list_all-from_AllPass}
use Rattle.spk_script.specs.Words.{is_allowed, is_blank}
use Rattle.spk_script.specs.Lines.{past_blanks, from_end, given_by, given, is_empty_at_end, without_empty_end, physical_lines, text_of}

-- a byte, a line, and lines that are allowed
abbrev pub IsAllowedByte : ℕ → Type 0
IsAllowedByte b = is_allowed b ≡ true

abbrev pub IsAllowed : List ℕ → Type 0
IsAllowed line = list_all is_allowed line ≡ true

pub bytes_of : (line : List ℕ) → IsAllowed line → All IsAllowedByte line
bytes_of line allowed = AllPass-from_list_all is_allowed line allowed

line_of : (line : List ℕ) → All IsAllowedByte line → IsAllowed line
line_of line bytes = list_all-from_AllPass is_allowed line bytes

-- from the end
reverse_holds : (xs : List ℕ) → All IsAllowedByte xs → All IsAllowedByte (reverse xs)
reverse_holds [] holds = All-nil IsAllowedByte
reverse_holds (x ∷ xs) holds =
    subst (All IsAllowedByte) (sym (reverse-append (x ∷ []) xs))
    (All-push IsAllowedByte (reverse xs) x (reverse_holds xs (All-tail IsAllowedByte x xs holds)) (All-head IsAllowedByte x xs holds))

past_holds : (xs : List ℕ) → All IsAllowedByte xs → All IsAllowedByte (past_blanks xs)
past_holds [] holds = holds
past_holds (x ∷ xs) holds =
    elim (is_blank x) as (λ c. All IsAllowedByte (cond c (past_blanks xs) (x ∷ xs))) [
      | true ↦ past_holds xs (All-tail IsAllowedByte x xs holds)
      | false ↦ holds
    ]

given_by_holds : (line back : List ℕ) → All IsAllowedByte line → All IsAllowedByte back → All IsAllowedByte (given_by line back)
given_by_holds line [] holds following = holds
given_by_holds line (b ∷ before) holds following =
    elim (b == 38) as (λ c. All IsAllowedByte (cond c (reverse before) line)) [
      | true ↦ reverse_holds before (All-tail IsAllowedByte b before following)
      | false ↦ holds
    ]

given_holds : (line : List ℕ) → All IsAllowedByte line → All IsAllowedByte (given line)
given_holds line holds = given_by_holds line (from_end line) holds (past_holds (reverse line) (reverse_holds line holds))

texts_hold : (run : List (List ℕ)) → All IsAllowed run → All IsAllowedByte (text_of run)
texts_hold [] holds = All-nil IsAllowedByte
texts_hold (line ∷ run) holds =
    All-append IsAllowedByte (given line) (text_of run) (given_holds line (bytes_of line (All-head IsAllowed line run holds)))
    (texts_hold run (All-tail IsAllowed line run holds))

-- the text of a logical line
pub text_is_allowed : (run : List (List ℕ)) → All IsAllowed run → IsAllowed (text_of run)
text_is_allowed run holds = line_of (text_of run) (texts_hold run holds)

-- the physical lines
onto_first_holds : {X : Type 0} (P : X → Type 0) (x : X) (parts : List (List X)) → P x → AllByRecursion (AllByRecursion P) parts → AllByRecursion (AllByRecursion P) (onto_first x parts)
onto_first_holds P x [] here holds = ((here, tt), tt)
onto_first_holds P x (part ∷ parts) here holds = ((here, holds.0), holds.1)

parts_hold : {X : Type 0} (P : X → Type 0) (p : X → Bool) (xs : List X) → AllByRecursion P xs → AllByRecursion (AllByRecursion P) (slice_split p xs)
parts_hold P p [] holds = (tt, tt)
parts_hold P p (x ∷ xs) holds =
    elim (p x) as (λ b. AllByRecursion (AllByRecursion P) (cond b ([] ∷ slice_split p xs) (onto_first x (slice_split p xs)))) [
      | true ↦ (tt, parts_hold P p xs holds.1)
      | false ↦ onto_first_holds P x (slice_split p xs) holds.0 (parts_hold P p xs holds.1)
    ]

parts_are_allowed : (script : List ℕ) → IsAllowed script → All IsAllowed (slice_split (λ b. b == 10) script)
parts_are_allowed script allowed =
    All-weaker (AllByRecursion IsAllowedByte) IsAllowed (λ line holds. line_of line (All-from_recursion IsAllowedByte line holds)) (slice_split (λ b. b == 10) script)
    (All-from_recursion (AllByRecursion IsAllowedByte) (slice_split (λ b. b == 10) script)
    (parts_hold IsAllowedByte (λ b. b == 10) script (recursion_from_All IsAllowedByte script (bytes_of script allowed))))

without_end_holds : (parts : List (List ℕ)) → All IsAllowed parts → All IsAllowed (without_empty_end parts)
without_end_holds parts holds =
    elim (is_empty_at_end parts) as (λ c. All IsAllowed (cond c (take (length parts - 1) parts) parts)) [
      | true ↦ All-take IsAllowed (length parts - 1) parts holds
      | false ↦ holds
    ]

pub lines_are_allowed : (script : List ℕ) → IsAllowed script → All IsAllowed (physical_lines script)
lines_are_allowed script allowed = without_end_holds (slice_split (λ b. b == 10) script) (parts_are_allowed script allowed)
