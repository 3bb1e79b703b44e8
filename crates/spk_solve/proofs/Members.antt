-- The members of a bin, walked from the first place of a list on.
use Rattle.std.proofs.Common.{◌≡◌, ℕ, zero, suc, ◌+◌, ◌-◌, ◌^◌, ◌<◌, ◌≤◌, ◌++◌, List, [], ◌∷◌, Bool, true, false, cond, refl, sym, ap, ◌∙◌, arith, length, get_or, zero-add, add-zero, append-nil, append_assoc}
use Rattle.std.proofs.lemmas.List.Elements.{filter-append, filter_passes, All-filter, All-get_or, All-nil, All-cons, All-weaker}
use Rattle.std.proofs.lemmas.List.Sums.{sum_by_push}
use Rattle.std.proofs.lemmas.List.{length-append}
use Rattle.std.proofs.Math.Seq.{get_or-append_seam}
use Rattle.std.proofs.lemmas.Nat.{pow_pos, pow_below}
use Rattle.std.proofs.lemmas.Bool.Decides.{nat_tests}
use Rattle.std.specs.Prelude.{sum_by, All}
use Rattle.std.specs.List.{filter, range_with_len}
use Rattle.spk_solve.specs.Bins.{in_bin, members}

-- the members among so many first places
abbrev pub members_before : List ℕ → ℕ → ℕ → List ℕ
members_before weights bin n = filter (λ place. in_bin bin (get_or weights place 0)) (range_with_len 0 n)

-- a range with one number more
pub range_more : (a n : ℕ) → range_with_len a (suc n) ≡ range_with_len a n ++ (a + n) ∷ []
range_more a zero = rw add-zero refl
range_more a (suc n) =
    let next : a + suc n ≡ a + 1 + n = omega arith in
    rw next (ap (λ xs. a ∷ xs) (range_more (a + 1) n))

pub range_below : (a n : ℕ) → All (λ place. place < a + n) (range_with_len a n)
range_below a zero = All-nil (λ place. place < a + zero)
range_below a (suc n) =
    let here : a < a + suc n = omega arith in
    let later : All (λ place. place < a + suc n) (range_with_len (a + 1) n) =
    All-weaker (λ place. place < a + 1 + n) (λ place. place < a + suc n) (λ place less. omega arith) (range_with_len (a + 1) n) (range_below (a + 1) n) in
    All-cons (λ place. place < a + suc n) a (range_with_len (a + 1) n) here later

-- the next place is a member, or it isn't
pub members_more : (weights : List ℕ) (bin n : ℕ)
    → members_before weights bin (n + 1) ≡ members_before weights bin n ++ cond (in_bin bin (get_or weights n 0)) (n ∷ []) []
members_more weights bin n =
    let test : ℕ → Bool = λ place. in_bin bin (get_or weights place 0) in
    let same : n + 1 ≡ suc n = omega arith in
    let longer : range_with_len 0 (n + 1) ≡ range_with_len 0 n ++ n ∷ [] =
    ap (range_with_len 0) same ∙ range_more 0 n ∙ ap (λ m. range_with_len 0 n ++ m ∷ []) (zero-add n) in
    ap (filter test) longer ∙ filter-append test (range_with_len 0 n) (n ∷ [])

pub members_yes : (weights : List ℕ) (bin n : ℕ)
    → in_bin bin (get_or weights n 0) ≡ true
    → members_before weights bin (n + 1) ≡ members_before weights bin n ++ n ∷ []
members_yes weights bin n in_it = members_more weights bin n ∙ ap (λ b. members_before weights bin n ++ cond b (n ∷ []) []) in_it

pub members_no : (weights : List ℕ) (bin n : ℕ)
    → in_bin bin (get_or weights n 0) ≡ false
    → members_before weights bin (n + 1) ≡ members_before weights bin n
members_no weights bin n not_in = members_more weights bin n ∙ ap (λ b. members_before weights bin n ++ cond b (n ∷ []) []) not_in ∙ append-nil (members_before weights bin n)

-- the total of the members among so many first places, with the next place
abbrev pub total_before : List ℕ → ℕ → ℕ → ℕ
total_before weights bin n = sum_by (λ place. get_or weights place 0) (members_before weights bin n)

pub total_yes : (weights : List ℕ) (bin n : ℕ)
    → in_bin bin (get_or weights n 0) ≡ true
    → total_before weights bin (n + 1) ≡ total_before weights bin n + get_or weights n 0
total_yes weights bin n in_it =
    ap (λ xs. sum_by (λ place. get_or weights place 0) xs) (members_yes weights bin n in_it)
    ∙ sum_by_push (λ place. get_or weights place 0) (members_before weights bin n) n

pub total_no : (weights : List ℕ) (bin n : ℕ)
    → in_bin bin (get_or weights n 0) ≡ false
    → total_before weights bin (n + 1) ≡ total_before weights bin n
total_no weights bin n not_in = ap (λ xs. sum_by (λ place. get_or weights place 0) xs) (members_no weights bin n not_in)

-- more places have the members of fewer first
pub members_rest : (weights : List ℕ) (bin n more : ℕ)
    → (rest : List ℕ) × (members_before weights bin (n + more) ≡ members_before weights bin n ++ rest)
members_rest weights bin n zero = ([], ap (members_before weights bin) (add-zero n) ∙ sym (append-nil (members_before weights bin n)))
members_rest weights bin n (suc more) =
    let before = members_rest weights bin n more in
    let next : n + suc more ≡ n + more + 1 = omega arith in
    let last : List ℕ = cond (in_bin bin (get_or weights (n + more) 0)) ((n + more) ∷ []) [] in
    (before.0 ++ last, rw next (members_more weights bin (n + more) ∙ ap (λ xs. xs ++ last) before.1 ∙ append_assoc (members_before weights bin n) before.0 last))

-- the place that is the next member
pub member_at : (weights : List ℕ) (bin n : ℕ)
    → n < length weights
    → in_bin bin (get_or weights n 0) ≡ true
    → get_or (members weights bin) (length (members_before weights bin n)) 0 ≡ n
member_at weights bin n less in_it =
    let after = members_rest weights bin (n + 1) (length weights - (n + 1)) in
    let all : n + 1 + (length weights - (n + 1)) ≡ length weights = omega arith in
    let whole : members weights bin ≡ members_before weights bin n ++ n ∷ after.0 =
    ap (λ m. members_before weights bin m) (sym all) ∙ after.1 ∙ ap (λ xs. xs ++ after.0) (members_yes weights bin n in_it) ∙ append_assoc (members_before weights bin n) (n ∷ []) after.0 in
    rw whole (get_or-append_seam (members_before weights bin n) n after.0 0)

-- a bin has no propensity of 0
pub in_bin_some : (bin p : ℕ) → in_bin bin p ≡ true → 0 < p
in_bin_some bin p in_it = let positive = pow_pos bin in grind (arith, nat_tests)

-- a member is a place, and its propensity is above 0
pub member_within : (weights : List ℕ) (bin k : ℕ) → k < length (members weights bin) → get_or (members weights bin) k 0 < length weights
member_within weights bin k less =
    let test : ℕ → Bool = λ place. in_bin bin (get_or weights place 0) in
    let below = All-filter test (λ place. place < 0 + length weights) (range_with_len 0 (length weights)) (range_below 0 (length weights)) in
    rw zero-add at (All-get_or (λ place. place < 0 + length weights) (members weights bin) k 0 less below)

pub member_some : (weights : List ℕ) (bin k : ℕ) → k < length (members weights bin) → 0 < get_or weights (get_or (members weights bin) k 0) 0
member_some weights bin k less =
    let test : ℕ → Bool = λ place. in_bin bin (get_or weights place 0) in
    let passes = All-get_or (λ place. test place ≡ true) (members weights bin) k 0 less (filter_passes test (range_with_len 0 (length weights))) in
    in_bin_some bin (get_or weights (get_or (members weights bin) k 0) 0) passes

-- a bin has at most as many members as there are places, and its end is no large number
pub members_few : (weights : List ℕ) (bin n : ℕ) → length (members_before weights bin n) ≤ n
members_few weights bin zero = omega arith
members_few weights bin (suc n) =
    let before = members_few weights bin n in
    let next : suc n ≡ n + 1 = omega arith in
    let last : List ℕ = cond (in_bin bin (get_or weights n 0)) (n ∷ []) [] in
    let one : (b : Bool) → length (cond b (n ∷ []) []) ≤ 1 = elim [ true ↦ omega arith | false ↦ omega arith ] in
    let same : length (members_before weights bin (suc n)) ≡ length (members_before weights bin (n + 1)) = ap (λ k. length (members_before weights bin k)) next in
    omega (arith, same, ap length (members_more weights bin n), length-append (members_before weights bin n) last, one (in_bin bin (get_or weights n 0)))

pub end_small : (bin : ℕ) → bin < 36 → 2 ^ (bin + 1) < 2 ^ 63
end_small bin less = pow_below (bin + 1) 63 (omega arith)
