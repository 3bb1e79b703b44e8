-- How long site files are.
use Rattle.std.proofs.Common.{◌≡◌, ℕ, ◌+◌, ◌*◌, ◌/◌, ◌%◌, ◌^◌, ◌<◌, ◌≤◌, List, [], ◌∷◌, ◌++◌, length, decimal, arith, length-append}
use Rattle.std.proofs.lemmas.Fmt.{length-decimal-le}
use Rattle.std.proofs.lemmas.List.{length-drop}
use Rattle.std.proofs.lemmas.List.Elements.{All-head, All-tail}
use Rattle.std.specs.List.{All}
use Rattle.std.specs.Prelude.{codes}
use Rattle.spk_num.specs.Decimal.{nine_digits, ticks_text}
use Rattle.spk_num.proofs.Lengths.{length_whole_time}
use Rattle.spk_sched.specs.SiteTexts.{rows_text, sites_text}

-- six texts together
joined_length : (a b c d e f : List ℕ) →
    length (a ++ (b ++ (c ++ (d ++ (e ++ f))))) ≡ length a + (length b + (length c + (length d + (length e + length f))))
joined_length a b c d e f =
    let ef : length (e ++ f) ≡ length e + length f = length-append e f in
    let df : length (d ++ (e ++ f)) ≡ length d + length (e ++ f) = length-append d (e ++ f) in
    let cf : length (c ++ (d ++ (e ++ f))) ≡ length c + length (d ++ (e ++ f)) = length-append c (d ++ (e ++ f)) in
    let bf : length (b ++ (c ++ (d ++ (e ++ f)))) ≡ length b + length (c ++ (d ++ (e ++ f))) = length-append b (c ++ (d ++ (e ++ f))) in
    omega (arith, ef, df, cf, bf, length-append a (b ++ (c ++ (d ++ (e ++ f)))))

-- the parts before the lines of sites, and these lines
pub text_length : (time : ℕ) (values : List ℕ) →
    length (sites_text time values) ≡ 18 + (length (ticks_text time) + (2 + (length (decimal (length values)) + (16 + length (rows_text 1 values)))))
unfolding sites_text
text_length time values =
    joined_length (codes "spk sites at time ") (ticks_text time) (codes "\n\n") (decimal (length values)) (codes " sites\n\nValues\n\n") (rows_text 1 values)

nine_short : (n : ℕ) → n < 1000000000 → length (nine_digits n) ≤ 9
nine_short n small =
    let all : length (decimal (1000000000 + n)) ≤ 10 = length-decimal-le 10 (1000000000 + n) (omega arith) (omega (arith, small)) (omega (arith, small)) in
    omega (arith, all, length-drop 1 (decimal (1000000000 + n)))

time_short : (time : ℕ) → time < 2 ^ 64 → length (ticks_text time) ≤ 21
time_short time fits =
    let whole : length (decimal (time / 1000000000)) ≤ 11 = length_whole_time time fits in
    let part : length (nine_digits (time % 1000000000)) ≤ 9 = nine_short (time % 1000000000) (omega arith) in
    omega (arith, whole, part, length-append (decimal (time / 1000000000)) (46 ∷ nine_digits (time % 1000000000)))

row_short : (id value : ℕ) (rest : List ℕ) → id < 10000000 → value < 2 ^ 32 →
    length (decimal id ++ (codes " " ++ (decimal value ++ (codes "\n" ++ rest)))) ≤ 19 + length rest
row_short id value rest few fits =
    let first : length (decimal id) ≤ 7 = length-decimal-le 7 id (omega arith) few (omega (arith, few)) in
    let second : length (decimal value) ≤ 10 = length-decimal-le 10 value (omega arith) (omega (arith, fits)) (omega (arith, fits)) in
    omega (arith, first, second, length-append (decimal id) (codes " " ++ (decimal value ++ (codes "\n" ++ rest))), length-append (decimal value) (codes "\n" ++ rest))

rows_short : (id : ℕ) (values : List ℕ) → id + length values ≤ 10000000 → All (λ value. value < 2 ^ 32) values → length (rows_text id values) ≤ 19 * length values
rows_short id [] few fit = omega arith
rows_short id (value ∷ values) few fit =
    let rest : length (rows_text (id + 1) values) ≤ 19 * length values = rows_short (id + 1) values (omega (arith, few)) (All-tail (λ v. v < 2 ^ 32) value values fit) in
    let row = row_short id value (rows_text (id + 1) values) (omega (arith, few)) (All-head (λ v. v < 2 ^ 32) value values fit) in
    omega (arith, rest, row)

-- a site file has at most 80 bytes, and 19 for each site
pub sites_text_fits : (time : ℕ) (values : List ℕ) → time < 2 ^ 64 → length values ≤ 4194304 → All (λ value. value < 2 ^ 32) values →
    length (sites_text time values) ≤ 80 + 19 * length values
sites_text_fits time values late few fit =
    let count : length (decimal (length values)) ≤ 7 = length-decimal-le 7 (length values) (omega arith) (omega (arith, few)) (omega (arith, few)) in
    omega (arith, text_length time values, time_short time late, count, rows_short 1 values (omega (arith, few)) fit)
