-- All bins together have the total of the list.
use Rattle.std.proofs.Common.{◌≡◌, ℕ, zero, suc, ◌+◌, ◌^◌, ◌<◌, ◌≤◌, ◌++◌, List, [], ◌∷◌, Bool, true, false, cond, ltb, refl, sym, ap, ◌∙◌, arith, length, get_or, take, sum, zero-add}
use Rattle.std.proofs.lemmas.List.Sums.{sum_by-cons, sum_by_push, get_or-le-sum_by}
use Rattle.std.proofs.lemmas.Grind.{pow_more, common_steps}
use Rattle.std.proofs.lemmas.Nat.{pow_pos}
use Rattle.std.proofs.lemmas.List.FromFn.{length-range_with_len, get_or-range_with_len}
use Rattle.std.proofs.lemmas.List.Elements.{All-get_or, All-weaker}
use Rattle.std.proofs.Math.Seq.{take-length}
use Rattle.std.proofs.lemmas.Bool.Decides.{nat_tests}
use Rattle.std.specs.Prelude.{sum_by, All}
use Rattle.std.specs.List.{range_with_len}
use Rattle.spk_solve.specs.Bins.{in_bin, bin_total, bins}
use Rattle.spk_solve.proofs.Members.{range_more, total_before, total_yes, total_no}

pub sum_both : (f g : ℕ → ℕ) (xs : List ℕ) → sum_by (λ x. f x + g x) xs ≡ sum_by f xs + sum_by g xs
sum_both f g [] = refl
sum_both f g (x ∷ xs) = omega (arith, sum_both f g xs, sum_by-cons (λ y. f y + g y) x xs, sum_by-cons f x xs, sum_by-cons g x xs)

pub sum_same : (f g : ℕ → ℕ) → ((x : ℕ) → f x ≡ g x) → (xs : List ℕ) → sum_by f xs ≡ sum_by g xs
sum_same f g same [] = refl
sum_same f g same (x ∷ xs) = omega (arith, sum_same f g same xs, same x, sum_by-cons f x xs, sum_by-cons g x xs)

pub sum_none : (xs : List ℕ) → sum_by (λ x. 0) xs ≡ 0
sum_none [] = refl
sum_none (x ∷ xs) = omega (arith, sum_none xs, sum_by-cons (λ y. 0) x xs)

-- what a propensity adds to the total of a bin
abbrev pub share : ℕ → ℕ → ℕ
share p bin = cond (in_bin bin p) p 0

pub total_more : (weights : List ℕ) (bin n : ℕ) → total_before weights bin (n + 1) ≡ total_before weights bin n + share (get_or weights n 0) bin
total_more weights bin n =
    let case : (b : Bool) → in_bin bin (get_or weights n 0) ≡ b → total_before weights bin (n + 1) ≡ total_before weights bin n + cond b (get_or weights n 0) 0 =
    elim [
      | true ↦ λ is. total_yes weights bin n is
      | false ↦ λ is. omega (arith, total_no weights bin n is)
    ] in
    case (in_bin bin (get_or weights n 0)) refl

-- a propensity is in one of the first bins, or above them all
share_next : (p m : ℕ) → cond (ltb p (2 ^ m)) p 0 + share p m ≡ cond (ltb p (2 ^ (m + 1))) p 0
share_next p m =
    let double = pow_more 2 m in
    let positive = pow_pos m in
    grind (arith, nat_tests)

pub shares : (p m : ℕ) → sum_by (share p) (range_with_len 0 m) ≡ cond (ltb p (2 ^ m)) p 0
shares p zero = grind (arith, nat_tests)
shares p (suc m) =
    let next : m + 1 ≡ suc m = omega arith in
    let pushed : sum_by (share p) (range_with_len 0 (suc m)) ≡ sum_by (share p) (range_with_len 0 m) + share p m =
    ap (sum_by (share p)) (range_more 0 m ∙ ap (λ k. range_with_len 0 m ++ k ∷ []) (zero-add m)) ∙ sum_by_push (share p) (range_with_len 0 m) m in
    pushed ∙ ap (λ s. s + share p m) (shares p m) ∙ share_next p m ∙ ap (λ k. cond (ltb p (2 ^ k)) p 0) next

pub totals_before : (weights : List ℕ) (m n : ℕ)
    → All (λ w. w < 2 ^ m) weights
    → n ≤ length weights
    → sum_by (λ bin. total_before weights bin n) (range_with_len 0 m) ≡ sum (take n weights)
totals_before weights m zero small within = sum_none (range_with_len 0 m)
totals_before weights m (suc n) small within =
    let next : suc n ≡ n + 1 = omega arith in
    let p : ℕ = get_or weights n 0 in
    let before : List ℕ = range_with_len 0 m in
    let below : p < 2 ^ m = All-get_or (λ w. w < 2 ^ m) weights n 0 (omega arith) small in
    let whole : cond (ltb p (2 ^ m)) p 0 ≡ p = grind (arith, nat_tests) in
    let more : sum (take (n + 1) weights) ≡ sum (take n weights) + p = grind (arith, common_steps) in
    ap (λ k. sum_by (λ bin. total_before weights bin k) before) next
    ∙ sum_same (λ bin. total_before weights bin (n + 1)) (λ bin. total_before weights bin n + share p bin) (λ bin. total_more weights bin n) before
    ∙ sum_both (λ bin. total_before weights bin n) (share p) before
    ∙ ap (λ s. s + sum_by (share p) before) (totals_before weights m n small (omega arith))
    ∙ ap (λ s. sum (take n weights) + s) (shares p m ∙ whole)
    ∙ sym more
    ∙ ap (λ k. sum (take k weights)) (sym next)

-- the totals of all bins are the total of the list
pub totals : (weights : List ℕ) → All (λ w. w ≤ 2 ^ 35) weights → sum_by (bin_total weights) bins ≡ sum weights
unfolding bins
totals weights small =
    let less : All (λ w. w < 2 ^ 36) weights = All-weaker (λ w. w ≤ 2 ^ 35) (λ w. w < 2 ^ 36) (λ w most. omega arith) weights small in
    totals_before weights 36 (length weights) less (omega arith) ∙ ap sum (take-length weights)

pub all_totals : (weights : List ℕ) → All (λ w. w ≤ 2 ^ 35) weights → sum_by (bin_total weights) (range_with_len 0 36) ≡ sum weights
unfolding bins
all_totals weights small = totals weights small

pub bins_length : length bins ≡ 36
unfolding bins
bins_length = length-range_with_len 0 36

pub bins_at : (bin : ℕ) → bin < 36 → get_or bins bin 0 ≡ bin
unfolding bins
bins_at bin less = get_or-range_with_len 0 36 bin 0 less ∙ zero-add bin

-- no bin has more than the list
pub bin_within : (weights : List ℕ) (bin : ℕ) → bin < 36 → All (λ w. w ≤ 2 ^ 35) weights → bin_total weights bin ≤ sum weights
bin_within weights bin less small =
    omega (arith, totals weights small, get_or-le-sum_by (bin_total weights) bins bin 0 (omega (arith, bins_length)), ap (bin_total weights) (bins_at bin less))
