-- A place and a rest that are chosen by a rule name an event of the place: the rest is below the propensity there.
use Rattle.std.proofs.Common.{◌≡◌, ℕ, ◌+◌, ◌-◌, ◌*◌, ◌<◌, ◌≤◌, zero, suc, List, [], ◌∷◌, refl, sym, ◌∙◌, subst, arith, true, false, Bool, cond, length, get_or, inl, inr, ap, sum, ◌^◌}
use Rattle.std.specs.Prelude.{nat_lt, slice_index, sum_by, Option, Some, None, option_map, All}
use Rattle.spk_num.specs.Draws.{next_state, below_of}
use Rattle.spk_solve.specs.declared.solver.Chosen.{Chosen}
use Rattle.spk_solve.specs.Bins.{Try, bins, bin_total, members, taken, taken_of, try_of}
use Rattle.spk_solve.specs.Choice.{Rule, RunningSum, Bins, Chooses, Choice, named, named_from, target_of, two_draws, choice_of, bin_choice}
use Rattle.std.proofs.lemmas.List.Sums.{get_or-le-sum_by}
use Rattle.std.proofs.Math.Nat.{div-lt_iff_lt-mul}
use Rattle.spk_solve.proofs.BinSums.{totals}
use Rattle.spk_solve.proofs.Members.{member_within, member_some}
use Rattle.spk_solve.proofs.Names.{here, passed, here_or_passed, bins_start, none_named}

-- a place of a list, and a rest below the propensity there
pub record IsInside (propensities : List ℕ) (place rest : ℕ) : Type 0 where
  pub within : place < length propensities
  pub left : rest < slice_index propensities place

-- the place of a try has a propensity above 0
pub record IsTried (propensities : List ℕ) (try : Try) : Type 0 where
  pub within : try.place < length propensities
  pub some : 0 < get_or propensities try.place 0

-- a number by a draw is below its bound
below_less : (n x : ℕ) → 0 < n → below_of n (next_state x) < n
below_less n x some =
    let drawn : ℕ = next_state x - 1 in
    let small : drawn ≤ 2147483645 = omega arith in
    let most : drawn * n ≤ 2147483645 * n = grind arith in
    let less : drawn * n < n * 2147483646 = omega arith in
    (div-lt_iff_lt-mul {k = 2147483646} {x = drawn * n} {y = n} (omega arith)).1 less

-- an element that is named has a weight
pub named_some : (weight : ℕ → ℕ) (so_far target : ℕ) (es : List ℕ) (e : ℕ)
    → so_far ≤ target
    → named_from weight so_far target es ≡ Some e
    → 0 < weight e
named_some weight so_far target [] e reached is = cc
named_some weight so_far target (x ∷ es) e reached is =
    elim (here_or_passed target (so_far + weight x)) [
      | inl inside ↦
          let this : x ≡ e = cc (here weight so_far target x es inside, is) in
          rw (← this) (omega arith)
      | inr beyond ↦ named_some weight (so_far + weight x) target es e beyond (sym (passed weight so_far target x es beyond) ∙ is)
    ]

some_there : (f : ℕ → ℕ) (xs : List ℕ) → 0 < sum_by f xs → 0 < length xs
some_there f [] some = some
some_there f (x ∷ xs) some = omega arith

-- a bin with a total has members
pub members_there : (weights : List ℕ) (bin : ℕ) → 0 < bin_total weights bin → 0 < length (members weights bin)
members_there weights bin some = some_there (λ place. get_or weights place 0) (members weights bin) some

try_is_tried : (weights : List ℕ) (bin stream : ℕ) → 0 < length (members weights bin) → IsTried weights (try_of weights bin stream)
try_is_tried weights bin stream some =
    let first = next_state stream in
    let k = below_of (length (members weights bin)) first in
    let less : k < length (members weights bin) = below_less (length (members weights bin)) stream some in
    record { within = member_within weights bin k less; some = member_some weights bin k less }

taken_is_tried : (weights : List ℕ) (bin more : ℕ) (try : Try) → 0 < length (members weights bin) → IsTried weights try → IsTried weights (taken weights bin more try)
unfolding taken
taken_is_tried weights bin zero try some tried = tried
taken_is_tried weights bin (suc more) try some tried =
    let case : (b : Bool) → IsTried weights (cond b try (taken weights bin more (try_of weights bin try.stream))) =
    elim [
      | true ↦ tried
      | false ↦ taken_is_tried weights bin more (try_of weights bin try.stream) some (try_is_tried weights bin try.stream some)
    ] in
    case (nat_lt try.value (get_or weights try.place 0))

choice_inside : (weights : List ℕ) (try : Try) → IsTried weights try → IsInside weights (choice_of weights try).place (choice_of weights try).rest
choice_inside weights try tried = record { within = tried.within; left = omega (arith, tried.some) }

bins_inside : (weights : List ℕ) (stream : ℕ) (choice : Choice) → bin_choice weights stream ≡ Some choice → IsInside weights choice.place choice.rest
bins_inside weights stream choice is =
    let total : ℕ → ℕ = bin_total weights in
    let chooses : ℕ → Choice = λ bin. choice_of weights (taken_of weights bin (two_draws stream)) in
    let case : (found : Option ℕ) → named total (target_of weights stream) bins ≡ found → option_map chooses found ≡ Some choice → IsInside weights choice.place choice.rest =
    elim [
      | None ↦ λ named_is none. cc
      | Some bin ↦ λ named_is some.
          let this : chooses bin ≡ choice = cc in
          let start = bins_start total (target_of weights stream) in
          let above : 0 < total bin = named_some total 0 (target_of weights stream) bins bin (omega arith) (start ∙ named_is) in
          let there : 0 < length (members weights bin) = members_there weights bin above in
          let first = two_draws stream in
          let tried = taken_is_tried weights bin 63 (try_of weights bin first) there (try_is_tried weights bin first there) in
          subst (λ c. IsInside weights c.place c.rest) this (choice_inside weights (taken_of weights bin first) tried)
    ] in
    case (named total (target_of weights stream) bins) refl is

-- by either rule
pub chosen_inside : (rule : Rule) (weights : List ℕ) (stream : ℕ) (chosen : Chosen) (after : ℕ)
    → Chooses rule weights stream chosen after
    → IsInside weights chosen.place chosen.rest
chosen_inside RunningSum weights stream chosen after by = record { within = by.0.within; left = by.0.left }
chosen_inside Bins weights stream chosen after by = bins_inside weights stream (record { place = chosen.place; rest = chosen.rest; stream = after }) by

-- where the total is 0, the rule of bins chooses nothing
pub none_chosen : (weights : List ℕ) (stream : ℕ) → sum weights ≡ 0 → bin_choice weights stream ≡ None
none_chosen weights stream nothing =
    let total : ℕ → ℕ = bin_total weights in
    let chooses : ℕ → Choice = λ bin. choice_of weights (taken_of weights bin (two_draws stream)) in
    let small : All (λ w. w ≤ 2 ^ 35) weights = λ k d less. omega (arith, get_or-le-sum_by (λ w. w) weights k d less) in
    let passes : 0 + sum_by total bins ≤ target_of weights stream = omega (arith, totals weights small) in
    ap (option_map chooses) (sym (bins_start total (target_of weights stream)) ∙ none_named total 0 (target_of weights stream) bins passes)
