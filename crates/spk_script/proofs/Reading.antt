-- A script read whole: by its bytes, by its physical lines, and by its logical ones.
use Rattle.std.proofs.Common.{◌≡◌, ℕ, ◌+◌, ◌<◌, ◌≤◌, true, false, not, cond, ◌&&◌, nat_lt, List, [], ◌∷◌, length, position, None, Err, Bor, refl, sym, ◌∙◌, ap, subst, arith}
use Rattle.std.specs.List.{All, list_all, position_or_len}
use Rattle.std.proofs.lemmas.Bool.Decides.{nat_tests}
use Rattle.std.proofs.lemmas.List.{length-map}
use Rattle.spk_script.specs.declared.script.ScriptFault.TheVariants.{TooManyLines}
use Rattle.spk_script.specs.Words.{is_allowed}
use Rattle.spk_script.specs.Lines.{physical_lines, runs_of, logical_lines, lines_of_few, lines_of_allowed, lines_of}
use Rattle.spk_script.proofs.Allowed.{IsAllowed, lines_are_allowed}
use Rattle.spk_script.proofs.Cuts.{place_missing}
use Rattle.spk_script.proofs.Runs.{nows}

-- a script has no byte that isn't allowed where none was found
passes : (script : List ℕ) → position_or_len (λ b. not (is_allowed b)) script ≡ length script → IsAllowed script
passes [] all = refl
passes (b ∷ script) all =
    (elim (is_allowed b) as (λ c. cond (not (not c)) (1 + position_or_len (λ b. not (is_allowed b)) script) 0 ≡ length (b ∷ script) → (c && list_all is_allowed script) ≡ true) [
      | true ↦ λ more. passes script (omega (arith, more))
      | false ↦ λ none. absurd (omega (arith, none))
    ]) all

pub all_allowed : (script : List ℕ) → position (λ b. not (is_allowed b)) script ≡ None → IsAllowed script
all_allowed script none = passes script (place_missing (λ b. not (is_allowed b)) script none)

-- a script of few enough bytes, all of which are allowed, is read by its physical lines
by_lines : (script : List ℕ) → length script ≤ 1048576 → position (λ b. not (is_allowed b)) script ≡ None → lines_of script ≡ lines_of_few (physical_lines script)
by_lines script short none =
    let few : nat_lt 1048576 (length script) ≡ false = grind (arith, nat_tests) in
    rw few (ap (lines_of_allowed script) none)

count : (script : List ℕ) (lines : List (Bor (List ℕ))) → nows lines ≡ physical_lines script → length (physical_lines script) ≡ length lines
count script lines are = ap length (sym are) ∙ length-map lines (λ line. line.now)

pub read_few : (script : List ℕ) (lines : List (Bor (List ℕ))) → nows lines ≡ physical_lines script → length script ≤ 1048576 →
    position (λ b. not (is_allowed b)) script ≡ None → length lines ≤ 100000 → lines_of script ≡ logical_lines 1 (runs_of (nows lines))
read_few script lines are short none few =
    let within : nat_lt 100000 (length (physical_lines script)) ≡ false = rw (count script lines are) (grind (arith, nat_tests)) in
    let read : lines_of_few (physical_lines script) ≡ logical_lines 1 (runs_of (physical_lines script)) = rw within refl in
    by_lines script short none ∙ read ∙ ap (λ xs. logical_lines 1 (runs_of xs)) (sym are)

pub read_many : (script : List ℕ) (lines : List (Bor (List ℕ))) → nows lines ≡ physical_lines script → length script ≤ 1048576 →
    position (λ b. not (is_allowed b)) script ≡ None → 100000 < length lines → lines_of script ≡ Err TooManyLines
read_many script lines are short none many =
    let above : nat_lt 100000 (length (physical_lines script)) ≡ true = rw (count script lines are) (grind (arith, nat_tests)) in
    let read : lines_of_few (physical_lines script) ≡ Err TooManyLines = rw above refl in
    by_lines script short none ∙ read

pub all_lines_allowed : (script : List ℕ) (lines : List (Bor (List ℕ))) → nows lines ≡ physical_lines script → position (λ b. not (is_allowed b)) script ≡ None → All IsAllowed (nows lines)
all_lines_allowed script lines are none = subst (All IsAllowed) (sym are) (lines_are_allowed script (all_allowed script none))
