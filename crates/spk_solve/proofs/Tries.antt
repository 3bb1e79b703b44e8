-- Tries, one after another.
use Rattle.std.proofs.Common.{◌≡◌, ℕ, zero, suc, ◌+◌, ◌-◌, ◌<◌, ◌≤◌, List, refl, sym, ap, ◌∙◌, arith, true, false, get_or}
use Rattle.std.proofs.lemmas.Bool.Decides.{nat_tests}
use Rattle.std.specs.Prelude.{nat_lt}
use Rattle.spk_solve.specs.Bins.{Try, taken, try_of}

-- a value below the propensity is taken
pub taken_here : (weights : List ℕ) (bin more : ℕ) (try : Try) → try.value < get_or weights try.place 0 → taken weights bin more try ≡ try
unfolding taken
taken_here weights bin zero try less = refl
taken_here weights bin (suc more) try less =
    let is : nat_lt try.value (get_or weights try.place 0) ≡ true = grind (arith, nat_tests) in
    rw is refl

-- another isn't, unless no try is left
taken_next : (weights : List ℕ) (bin more : ℕ) (try : Try)
    → get_or weights try.place 0 ≤ try.value
    → taken weights bin (suc more) try ≡ taken weights bin more (try_of weights bin try.stream)
unfolding taken
taken_next weights bin more try least =
    let is : nat_lt try.value (get_or weights try.place 0) ≡ false = grind (arith, nat_tests) in
    rw is refl

pub taken_more : (weights : List ℕ) (bin tries : ℕ) (try : Try)
    → tries < 64
    → get_or weights try.place 0 ≤ try.value
    → taken weights bin (64 - (tries + 1)) (try_of weights bin try.stream) ≡ taken weights bin (64 - tries) try
taken_more weights bin tries try less least =
    let left : 64 - tries ≡ suc (64 - (tries + 1)) = omega arith in
    sym (ap (λ n. taken weights bin n try) left ∙ taken_next weights bin (64 - (tries + 1)) try least)

pub taken_last : (weights : List ℕ) (bin tries : ℕ) (try : Try) → 64 ≤ tries → taken weights bin (64 - tries) try ≡ try
unfolding taken
taken_last weights bin tries try all =
    let left : 64 - tries ≡ zero = omega arith in
    ap (λ n. taken weights bin n try) left
