-- Laws of the lines of sites, which are put in the order of ids.
use Rattle.std.proofs.Common.{◌≡◌, ℕ, ◌+◌, ◌-◌, ◌<◌, ◌≤◌, List, [], ◌∷◌, ◌++◌, length, take, get_or, flat_map, Result, Ok, Err, ap, sym, subst, ◌∙◌, arith}
use Rattle.std.proofs.lemmas.Grind.{flat_map-append}
use Rattle.std.proofs.lemmas.List.{append-nil, take_all, take_more}
use Rattle.std.proofs.lemmas.List.FromFn.{length-range_with_len, get_or-range_with_len}
use Rattle.std.specs.List.{range_with_len}
use Rattle.std.specs.Result.{IsErrAnd}
use Rattle.spk_world.specs.States.{WorldState}
use Rattle.spk_report.specs.Buffers.{Puts}
use Rattle.spk_world.specs.declared.world.Failed.{Failed}
use Rattle.spk_report.proofs.BufferLaws.{puts_then, puts_stopped}

-- the id at a place of the list of ids
id_at : (n id : ℕ) → 1 ≤ id → id ≤ n → get_or (range_with_len 1 n) (id - 1) 0 ≡ id
id_at n id some inside = get_or-range_with_len 1 n (id - 1) 0 (omega arith) ∙ (let e : 1 + (id - 1) ≡ id = omega arith in e)

within : (n id : ℕ) → 1 ≤ id → id ≤ n → id - 1 < length (range_with_len 1 n)
within n id some inside = omega (arith, length-range_with_len 1 n)

-- the lines up to a site, and its own
line_more : (text_of : ℕ → List ℕ) (n id : ℕ) → 1 ≤ id → id ≤ n →
    flat_map text_of (take (id - 1) (range_with_len 1 n)) ++ text_of id ≡ flat_map text_of (take (id + 1 - 1) (range_with_len 1 n))
line_more text_of n id some inside =
    let one_more : take (id - 1 + 1) (range_with_len 1 n) ≡ take (id - 1) (range_with_len 1 n) ++ (get_or (range_with_len 1 n) (id - 1) 0 ∷ []) =
    take_more (range_with_len 1 n) (id - 1) 0 (within n id some inside) in
    let count : id - 1 + 1 ≡ id + 1 - 1 = omega arith in
    sym (ap (λ k. flat_map text_of (take k (range_with_len 1 n))) (sym count) ∙ ap (flat_map text_of) one_more
    ∙ flat_map-append text_of (take (id - 1) (range_with_len 1 n)) _
    ∙ ap (λ k. flat_map text_of (take (id - 1) (range_with_len 1 n)) ++ (text_of k ++ [])) (id_at n id some inside)
    ∙ ap (λ text. flat_map text_of (take (id - 1) (range_with_len 1 n)) ++ text) (append-nil (text_of id)))

-- one line more is put, or fails
pub lines_more : (file : List ℕ) (text_of : ℕ → List ℕ) (n id : ℕ) (before now later : WorldState) (old new newer : List ℕ) (result : Result (Unit {0}) Failed) →
    1 ≤ id → id ≤ n → Puts file (flat_map text_of (take (id - 1) (range_with_len 1 n))) before now old new (Ok tt) → Puts file (text_of id) now later new newer result →
    Puts file (flat_map text_of (take (id + 1 - 1) (range_with_len 1 n))) before later old newer result
lines_more file text_of n id before now later old new newer result some inside so_far line =
    subst (λ text. Puts file text before later old newer result) (line_more text_of n id some inside)
    (puts_then file (flat_map text_of (take (id - 1) (range_with_len 1 n))) (text_of id) before now later old new newer result so_far line)

pub lines_stopped : (file : List ℕ) (text_of : ℕ → List ℕ) (n id : ℕ) (before now later : WorldState) (old new newer : List ℕ) (e : Failed) (result : Result (Unit {0}) Failed) →
    1 ≤ id → id ≤ n → Puts file (flat_map text_of (take (id - 1) (range_with_len 1 n))) before now old new (Ok tt) → Puts file (text_of id) now later new newer (Err e) →
    IsErrAnd result (λ y. y ≡ e) → Puts file (flat_map text_of (range_with_len 1 n)) before later old newer result
lines_stopped file text_of n id before now later old new newer e result some inside so_far line is =
    puts_stopped file text_of (range_with_len 1 n) (id - 1) 0 before now later old new newer e result (within n id some inside) so_far
    (subst (λ k. Puts file (text_of k) now later new newer (Err e)) (sym (id_at n id some inside)) line) is

-- all lines are put
pub lines_all : (file : List ℕ) (text_of : ℕ → List ℕ) (n count : ℕ) (before now : WorldState) (old new : List ℕ) → n ≤ count →
    Puts file (flat_map text_of (take count (range_with_len 1 n))) before now old new (Ok tt) → Puts file (flat_map text_of (range_with_len 1 n)) before now old new (Ok tt)
lines_all file text_of n count before now old new past puts =
    subst (λ ids. Puts file (flat_map text_of ids) before now old new (Ok tt)) (take_all count (range_with_len 1 n) (omega (arith, length-range_with_len 1 n))) puts
