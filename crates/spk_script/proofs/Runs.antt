-- The physical lines of a logical line, counted and gathered one after another.
use Rattle.std.proofs.Common.{◌≡◌, ℕ, ◌+◌, ◌<◌, ◌≤◌, true, false, List, [], ◌∷◌, ◌++◌, map, length, get_or, take, drop, Bor, refl, sym, ◌∙◌, ap, arith, append-nil, append_assoc}
use Rattle.std.specs.List.{concat}
use Rattle.std.proofs.lemmas.List.{take_more, drop_more, get_or-map, length-map, map-append, take_all, drop_all}
use Rattle.std.proofs.lemmas.List.Folds.{concat-append}
use Rattle.spk_script.specs.Lines.{continues, given, with_first, runs_of, raw_of, text_of}

-- what a list of references points to
abbrev pub nows : List (Bor (List ℕ)) → List (List ℕ)
nows lines = map (λ (line : Bor (List ℕ)). line.now) lines

pub now_at : (lines : List (Bor (List ℕ))) (i : ℕ) (d : Bor (List ℕ)) → i < length lines → get_or (nows lines) i d.now ≡ (get_or lines i d).now
now_at lines i d within = get_or-map (λ (b : Bor (List ℕ)). b.now) lines i d d.now within

-- lines that continue, put before the first run
abbrev pub with_run : List (List ℕ) → List (List (List ℕ)) → List (List (List ℕ))
with_run [] runs = runs
with_run (line ∷ run) runs = with_first line (with_run run runs)

with_run_more : (run : List (List ℕ)) (line : List ℕ) (runs : List (List (List ℕ))) → with_run (run ++ line ∷ []) runs ≡ with_run run (with_first line runs)
with_run_more [] line runs = refl
with_run_more (first ∷ run) line runs = ap (with_first first) (with_run_more run line runs)

with_run_ends : (run : List (List ℕ)) (line : List ℕ) (runs : List (List (List ℕ))) → with_run run ((line ∷ []) ∷ runs) ≡ (run ++ line ∷ []) ∷ runs
with_run_ends [] line runs = refl
with_run_ends (first ∷ run) line runs = ap (with_first first) (with_run_ends run line runs)

with_run_none : (line : List ℕ) (run : List (List ℕ)) → with_run (line ∷ run) [] ≡ (line ∷ run) ∷ []
with_run_none line [] = refl
with_run_none line (next ∷ run) = ap (with_first line) (with_run_none next run)

runs_on : (line : List ℕ) (lines : List (List ℕ)) → continues line ≡ true → runs_of (line ∷ lines) ≡ with_first line (runs_of lines)
runs_on line lines on = rw on refl

runs_end : (line : List ℕ) (lines : List (List ℕ)) → continues line ≡ false → runs_of (line ∷ lines) ≡ (line ∷ []) ∷ runs_of lines
runs_end line lines end = rw end refl

-- one line more that continues
run_continues : (xs : List (List ℕ)) (i : ℕ) (d : List ℕ) → i < length xs → continues (get_or xs i d) ≡ true →
    with_run (take (i + 1) xs) (runs_of (drop (i + 1) xs)) ≡ with_run (take i xs) (runs_of (drop i xs))
run_continues xs i d within on =
    ap (λ run. with_run run (runs_of (drop (i + 1) xs))) (take_more xs i d within) ∙ with_run_more (take i xs) (get_or xs i d) (runs_of (drop (i + 1) xs))
    ∙ ap (with_run (take i xs)) (sym (ap runs_of (drop_more xs i d within) ∙ runs_on (get_or xs i d) (drop (i + 1) xs) on))

-- the first line that doesn't go on ends the run
ends_at : (xs : List (List ℕ)) (i : ℕ) (d : List ℕ) → i < length xs → continues (get_or xs i d) ≡ false →
    with_run (take i xs) (runs_of (drop i xs)) ≡ take (i + 1) xs ∷ runs_of (drop (i + 1) xs)
ends_at xs i d within end =
    ap (with_run (take i xs)) (ap runs_of (drop_more xs i d within) ∙ runs_end (get_or xs i d) (drop (i + 1) xs) end)
    ∙ with_run_ends (take i xs) (get_or xs i d) (runs_of (drop (i + 1) xs)) ∙ ap (λ run. run ∷ runs_of (drop (i + 1) xs)) (sym (take_more xs i d within))

-- the same over references
pub run_goes : (lines : List (Bor (List ℕ))) (i : ℕ) (d : Bor (List ℕ)) → i < length lines → continues (get_or lines i d).now ≡ true →
    runs_of (nows lines) ≡ with_run (take i (nows lines)) (runs_of (drop i (nows lines))) →
    runs_of (nows lines) ≡ with_run (take (i + 1) (nows lines)) (runs_of (drop (i + 1) (nows lines)))
run_goes lines i d within on so_far =
    let many : i < length (nows lines) = rw length-map within in
    so_far ∙ sym (run_continues (nows lines) i d.now many (ap continues (now_at lines i d within) ∙ on))

pub run_ends : (lines : List (Bor (List ℕ))) (i : ℕ) (d : Bor (List ℕ)) → i < length lines → continues (get_or lines i d).now ≡ false →
    runs_of (nows lines) ≡ with_run (take i (nows lines)) (runs_of (drop i (nows lines))) →
    runs_of (nows lines) ≡ take (i + 1) (nows lines) ∷ runs_of (drop (i + 1) (nows lines))
run_ends lines i d within end so_far =
    let many : i < length (nows lines) = rw length-map within in
    so_far ∙ ends_at (nows lines) i d.now many (ap continues (now_at lines i d within) ∙ end)

-- after the last line the run has all of them
all_of : (xs : List (List ℕ)) → 0 < length xs → with_run xs [] ≡ xs ∷ []
all_of [] some = absurd (omega (arith, some))
all_of (line ∷ run) some = with_run_none line run

pub run_is_all : (lines : List (Bor (List ℕ))) (i : ℕ) → 0 < length lines → i ≤ length lines → length lines ≤ i →
    runs_of (nows lines) ≡ with_run (take i (nows lines)) (runs_of (drop i (nows lines))) →
    runs_of (nows lines) ≡ take (length lines) (nows lines) ∷ runs_of (drop (length lines) (nows lines))
run_is_all lines i some within following so_far =
    let same : i ≡ length lines = omega (arith, within, following) in
    let many : 0 < length (nows lines) = rw length-map some in
    let all : length (nows lines) ≤ length lines = rw length-map (omega arith) in
    let whole : take (length lines) (nows lines) ≡ nows lines = take_all (length lines) (nows lines) all in
    let none : drop (length lines) (nows lines) ≡ [] = drop_all (length lines) (nows lines) all in
    let at_end = rw same at so_far in
    at_end ∙ rw (whole, none) (all_of (nows lines) many)

-- one line more of what is gathered
pub take_whole : {X Y : Type 0} (f : X → Y) (xs : List X) → take (length xs) (map f xs) ≡ map f xs
take_whole f xs = take_all (length xs) (map f xs) (rw length-map (omega arith))

gathered : (f : List ℕ → List ℕ) (lines : List (Bor (List ℕ))) (i : ℕ) (d : Bor (List ℕ)) → i < length lines →
    concat (map f (take (i + 1) (nows lines))) ≡ concat (map f (take i (nows lines))) ++ f (get_or lines i d).now
gathered f lines i d within =
    let many : i < length (nows lines) = rw length-map within in
    ap (λ run. concat (map f run)) (take_more (nows lines) i d.now many) ∙ ap concat (map-append f (take i (nows lines)) (get_or (nows lines) i d.now ∷ []))
    ∙ concat-append (map f (take i (nows lines))) (f (get_or (nows lines) i d.now) ∷ [])
    ∙ ap (λ piece. concat (map f (take i (nows lines))) ++ piece) (append-nil (f (get_or (nows lines) i d.now)) ∙ ap f (now_at lines i d within))

pub raw_more : (lines : List (Bor (List ℕ))) (i : ℕ) (d : Bor (List ℕ)) → i < length lines →
    raw_of (take (i + 1) (nows lines)) ≡ (raw_of (take i (nows lines)) ++ (get_or lines i d).now) ++ 10 ∷ []
raw_more lines i d within = gathered (λ line. line ++ 10 ∷ []) lines i d within ∙ sym (append_assoc (raw_of (take i (nows lines))) (get_or lines i d).now (10 ∷ []))

pub text_more : (lines : List (Bor (List ℕ))) (i : ℕ) (d : Bor (List ℕ)) → i < length lines →
    text_of (take (i + 1) (nows lines)) ≡ text_of (take i (nows lines)) ++ given (get_or lines i d).now
text_more lines i d within = gathered given lines i d within
