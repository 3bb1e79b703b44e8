-- What a kept list keeps.
use Rattle.std.proofs.Common.{◌≡◌, ℕ, ◌+◌, ◌-◌, ◌^◌, ◌<◌, ◌≤◌, List, arith, length, get_or, set, take, sum, replicate}
use Rattle.std.proofs.lemmas.List.{length-take, length-set, get_or-take}
use Rattle.std.proofs.lemmas.List.Sums.{sum_by-le, sum_by-set, get_or-le-sum_by}
use Rattle.std.proofs.lemmas.List.Folds.{sum_by-replicate}
use Rattle.std.proofs.lemmas.List.Elements.{All-set, All-replicate}
use Rattle.std.proofs.Math.Seq.{take-set-lt}
use Rattle.spk_solve.specs.Kept.{IsKept}

pub kept_below : (weights : List ℕ) (used total : ℕ) → IsKept weights used total → total < 2 ^ 63
kept_below weights used total kept =
    omega (arith, kept.total_is, kept.room, length-take used weights, sum_by-le (λ w. w) (2 ^ 35) (take used weights) kept.small)

pub kept_within : (weights : List ℕ) (used total i : ℕ) → IsKept weights used total → i < length (take used weights) → i < used
kept_within weights used total i kept less = omega (arith, length-take used weights)

pub kept_zeros : (weights : List ℕ) (used : ℕ) → used ≤ length weights → length weights ≤ 4194304 → take used weights ≡ replicate used 0 → IsKept weights used 0
kept_zeros weights used within room zeros = record {
  within = within;
  room = room;
  small = rw zeros (All-replicate (λ w. w ≤ 2 ^ 35) used 0 (omega arith));
  total_is = rw zeros (omega (arith, sum_by-replicate (λ w. w) used 0));
}

pub kept_set : (weights : List ℕ) (used total i p was : ℕ)
    → IsKept weights used total
    → i < used
    → p ≤ 2 ^ 35
    → was ≡ get_or weights i 0
    → IsKept (set weights i p) used (total - was + p)
kept_set weights used total i p was kept less small is =
    let front : List ℕ = take used weights in
    let same : take used (set weights i p) ≡ set front i p = take-set-lt used weights i p less in
    let there : i < length front = omega (arith, length-take used weights, kept.within) in
    let read : get_or front i 0 ≡ get_or weights i 0 = get_or-take used weights i 0 less in
    let within : get_or front i 0 ≤ sum front = get_or-le-sum_by (λ w. w) front i 0 there in
    let change : sum (set front i p) + get_or front i 0 ≡ sum front + p = sum_by-set (λ w. w) front i p 0 there in
    record {
      within = rw (length-set weights i p) kept.within;
      room = rw (length-set weights i p) kept.room;
      small = rw same (All-set (λ w. w ≤ 2 ^ 35) front i p small kept.small);
      total_is = rw same (omega (arith, kept.total_is));
    }
