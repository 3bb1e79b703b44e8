-- Logical lines, read one after another.
use Rattle.std.proofs.Common.{◌≡◌, ℕ, ◌+◌, ◌≤◌, List, [], ◌∷◌, ◌++◌, length, take, drop, Some, None, Result, Ok, Err, Bor, refl, sym, ◌∙◌, ap, subst, arith, append-nil, append_assoc}
use Rattle.std.specs.List.{All}
use Rattle.std.proofs.lemmas.List.{length-map, length-take-le, take-map, drop-map, drop-drop, drop_all}
use Rattle.std.proofs.lemmas.List.Elements.{All-take, All-drop}
use Rattle.spk_script.specs.declared.script.ScriptFault.{ScriptFault}
use Rattle.spk_script.specs.declared.script.ScriptFault.TheVariants.{OpenQuote}
use Rattle.spk_script.specs.Lines.{LogicalLine, runs_of, logical_line, put_line, logical_lines}
use Rattle.spk_script.proofs.Allowed.{IsAllowed}
use Rattle.spk_script.proofs.Runs.{nows}

-- lines that were read already, before what is read after them
abbrev pub put_all : List LogicalLine → Result (List LogicalLine) ScriptFault → Result (List LogicalLine) ScriptFault
put_all done (Ok lines) = Ok (done ++ lines)
put_all done (Err fault) = Err fault

put_all_more : (done : List LogicalLine) (number : ℕ) (line : LogicalLine) (lines : Result (List LogicalLine) ScriptFault) →
    put_all done (put_line number (Some line) lines) ≡ put_all (done ++ line ∷ []) lines
put_all_more done number line (Ok lines) = ap Ok (sym (append_assoc done (line ∷ []) lines))
put_all_more done number line (Err fault) = refl

-- what is read from a number on, by the first run
next : (rest : List (Bor (List ℕ))) (number count : ℕ) → count ≤ length rest → runs_of (nows rest) ≡ take count (nows rest) ∷ runs_of (drop count (nows rest)) →
    logical_lines number (runs_of (nows rest))
    ≡ put_line number (logical_line number (nows (take count rest))) (logical_lines (number + count) (runs_of (nows (drop count rest))))
next rest number count within cut =
    let first : take count (nows rest) ≡ nows (take count rest) = take-map (λ (line : Bor (List ℕ)). line.now) count rest in
    let others : drop count (nows rest) ≡ nows (drop count rest) = drop-map (λ (line : Bor (List ℕ)). line.now) count rest in
    let many : length (take count (nows rest)) ≡ count = length-take-le count (nows rest) (rw length-map within) in
    ap (logical_lines number) cut
    ∙ ap (λ n. put_line number (logical_line number (take count (nows rest))) (logical_lines (number + n) (runs_of (drop count (nows rest))))) many
    ∙ ap (λ run. put_line number (logical_line number run) (logical_lines (number + count) (runs_of (drop count (nows rest))))) first
    ∙ ap (λ lines. put_line number (logical_line number (nows (take count rest))) (logical_lines (number + count) (runs_of lines))) others

-- one logical line more
reads_after : (whole : Result (List LogicalLine) ScriptFault) (done : List LogicalLine) (rest : List (Bor (List ℕ))) (number count : ℕ) (line : LogicalLine) →
    count ≤ length rest → runs_of (nows rest) ≡ take count (nows rest) ∷ runs_of (drop count (nows rest)) → Some line ≡ logical_line number (nows (take count rest)) →
    whole ≡ put_all done (logical_lines number (runs_of (nows rest))) →
    whole ≡ put_all (done ++ line ∷ []) (logical_lines (number + count) (runs_of (nows (drop count rest))))
reads_after whole done rest number count line within cut is so_far =
    so_far ∙ ap (put_all done) (next rest number count within cut)
    ∙ ap (λ found. put_all done (put_line number found (logical_lines (number + count) (runs_of (nows (drop count rest)))))) (sym is)
    ∙ put_all_more done number line (logical_lines (number + count) (runs_of (nows (drop count rest))))

-- the same from a place on
pub reads_on : (whole : Result (List LogicalLine) ScriptFault) (done : List LogicalLine) (lines : List (Bor (List ℕ))) (start count : ℕ) (line : LogicalLine) →
    count ≤ length (drop start lines) → runs_of (nows (drop start lines)) ≡ take count (nows (drop start lines)) ∷ runs_of (drop count (nows (drop start lines))) →
    Some line ≡ logical_line (start + 1) (nows (take count (drop start lines))) →
    whole ≡ put_all done (logical_lines (start + 1) (runs_of (nows (drop start lines)))) →
    whole ≡ put_all (done ++ line ∷ []) (logical_lines (start + count + 1) (runs_of (nows (drop (start + count) lines))))
reads_on whole done lines start count line within cut is so_far =
    let number : start + 1 + count ≡ start + count + 1 = omega arith in
    reads_after whole done (drop start lines) (start + 1) count line within cut is so_far
    ∙ ap (λ n. put_all (done ++ line ∷ []) (logical_lines n (runs_of (nows (drop count (drop start lines)))))) number
    ∙ ap (λ rest. put_all (done ++ line ∷ []) (logical_lines (start + count + 1) (runs_of (nows rest)))) (drop-drop count start lines)

-- a quote that isn't closed ends it
pub reads_open : (whole : Result (List LogicalLine) ScriptFault) (done : List LogicalLine) (rest : List (Bor (List ℕ))) (number count : ℕ) →
    count ≤ length rest → runs_of (nows rest) ≡ take count (nows rest) ∷ runs_of (drop count (nows rest)) → None ≡ logical_line number (nows (take count rest)) →
    whole ≡ put_all done (logical_lines number (runs_of (nows rest))) → whole ≡ Err (OpenQuote number)
reads_open whole done rest number count within cut is so_far =
    so_far ∙ ap (put_all done) (next rest number count within cut)
    ∙ ap (λ found. put_all done (put_line number found (logical_lines (number + count) (runs_of (nows (drop count rest)))))) (sym is)

-- no line is left
pub reads_all : (whole : Result (List LogicalLine) ScriptFault) (done : List LogicalLine) (lines : List (Bor (List ℕ))) (start : ℕ) → length lines ≤ start →
    whole ≡ put_all done (logical_lines (start + 1) (runs_of (nows (drop start lines)))) → whole ≡ Ok done
reads_all whole done lines start following so_far =
    so_far ∙ ap (λ rest. put_all done (logical_lines (start + 1) (runs_of (nows rest)))) (drop_all start lines following) ∙ ap Ok (append-nil done)

-- the lines of one run
pub run_is_allowed : (lines : List (Bor (List ℕ))) (start count : ℕ) → All IsAllowed (nows lines) → All IsAllowed (nows (take count (drop start lines)))
run_is_allowed lines start count holds =
    let others : All IsAllowed (nows (drop start lines)) = subst (All IsAllowed) (drop-map (λ (line : Bor (List ℕ)). line.now) start lines) (All-drop IsAllowed start (nows lines) holds) in
    subst (All IsAllowed) (take-map (λ (line : Bor (List ℕ)). line.now) count (drop start lines)) (All-take IsAllowed count (nows (drop start lines)) others)
