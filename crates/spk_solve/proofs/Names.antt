-- What a target names, walked from the first element on.
use Rattle.std.proofs.Common.{◌≡◌, ◌+◌, ◌<◌, ◌≤◌, List, ◌∷◌, refl, sym, ap, ◌∙◌, arith, true, false, ◌⊎◌, drop, sum_by, [], ℕ, zero, suc, cond}
use Rattle.std.proofs.lemmas.Bool.Decides.{nat_tests}
use Rattle.std.proofs.lemmas.List.{drop_more}
use Rattle.std.specs.Prelude.{nat_lt, Some, None}
use Rattle.std.specs.List.{range_with_len}
use Rattle.std.proofs.lemmas.List.Sums.{sum_by-cons}
use Rattle.spk_solve.specs.Bins.{bins}
use Rattle.spk_solve.specs.Choice.{named_from, named}
use Rattle.spk_solve.proofs.BinSums.{bins_length, bins_at}

-- the first element is named, or passed
pub here : {E : Type 0} (weight : E → ℕ) (so_far target : ℕ) (e : E) (es : List E)
    → target < so_far + weight e
    → named_from weight so_far target (e ∷ es) ≡ Some e
here weight so_far target e es less =
    let is : nat_lt target (so_far + weight e) ≡ true = grind (arith, nat_tests) in
    rw is refl

pub passed : {E : Type 0} (weight : E → ℕ) (so_far target : ℕ) (e : E) (es : List E)
    → so_far + weight e ≤ target
    → named_from weight so_far target (e ∷ es) ≡ named_from weight (so_far + weight e) target es
passed weight so_far target e es more =
    let is : nat_lt target (so_far + weight e) ≡ false = grind (arith, nat_tests) in
    rw is refl

pub here_or_passed : (target end : ℕ) → (target < end) ⊎ (end ≤ target)
here_or_passed target end = grind arith

-- the bins, one after another
pub bins_start : (total : ℕ → ℕ) (target : ℕ) → named_from total 0 target bins ≡ named total target bins
unfolding named
bins_start total target = refl

bins_next : (bin : ℕ) → bin < 36 → drop bin bins ≡ bin ∷ drop (bin + 1) bins
bins_next bin less =
    drop_more bins bin 0 (omega (arith, bins_length)) ∙ ap (λ b. b ∷ drop (bin + 1) bins) (bins_at bin less)

pub bin_here : (total : ℕ → ℕ) (so_far target bin : ℕ)
    → bin < 36
    → target < so_far + total bin
    → named_from total so_far target (drop bin bins) ≡ Some bin
bin_here total so_far target bin inside less =
    ap (named_from total so_far target) (bins_next bin inside) ∙ here total so_far target bin (drop (bin + 1) bins) less

pub bin_passed : (total : ℕ → ℕ) (so_far target bin : ℕ)
    → bin < 36
    → so_far + total bin ≤ target
    → named_from total (so_far + total bin) target (drop (bin + 1) bins) ≡ named_from total so_far target (drop bin bins)
bin_passed total so_far target bin inside more =
    sym (ap (named_from total so_far target) (bins_next bin inside) ∙ passed total so_far target bin (drop (bin + 1) bins) more)

-- where the sum of all weights is passed, nothing is named
pub none_named : (weight : ℕ → ℕ) (so_far target : ℕ) (es : List ℕ)
    → so_far + sum_by weight es ≤ target
    → named_from weight so_far target es ≡ None
none_named weight so_far target [] most = refl
none_named weight so_far target (e ∷ es) most =
    let split : sum_by weight (e ∷ es) ≡ weight e + sum_by weight es = sum_by-cons weight e es in
    passed weight so_far target e es (omega arith) ∙ none_named weight (so_far + weight e) target es (omega arith)

-- two weights that agree on a range name the same
named_on : (f g : ℕ → ℕ) (so_far target a n : ℕ)
    → ((k : ℕ) → a ≤ k → k < a + n → f k ≡ g k)
    → named_from f so_far target (range_with_len a n) ≡ named_from g so_far target (range_with_len a n)
named_on f g so_far target a zero same = refl
named_on f g so_far target a (suc n) same =
    let here_same : f a ≡ g a = same a (omega arith) (omega arith) in
    let later : named_from f (so_far + g a) target (range_with_len (a + 1) n) ≡ named_from g (so_far + g a) target (range_with_len (a + 1) n) =
    named_on f g (so_far + g a) target (a + 1) n (λ k low high. same k (omega arith) (omega arith)) in
    rw here_same (ap (λ rest. cond (nat_lt target (so_far + g a)) (Some a) rest) later)

pub named_same : (f g : ℕ → ℕ) (target : ℕ) → ((bin : ℕ) → bin < 36 → f bin ≡ g bin) → named f target bins ≡ named g target bins
unfolding named bins
named_same f g target same = named_on f g 0 target 0 36 (λ k low high. same k (omega arith))
