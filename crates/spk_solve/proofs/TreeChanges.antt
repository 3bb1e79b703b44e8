-- How a change of a leaf is brought up to the root.
use Rattle.std.proofs.Common.{◌≡◌, ◌≢◌, ℕ, ◌+◌, ◌-◌, ◌*◌, ◌<◌, ◌≤◌, List, inl, inr, arith, length, get_or, set, ◌⊎◌}
use Rattle.std.proofs.lemmas.List.{length-set, get_or-set_same, get_or-set_other}
use Rattle.spk_solve.specs.SumTrees.{prefix_sum, IsOffAbove, AddUp}
use Rattle.spk_solve.proofs.PrefixSums.{prefix_more, prefix_grows, prefix_set_before, prefix_set_after}

before_or_after : (k n : ℕ) → (k < n) ⊎ (n ≤ k)
before_or_after k n = grind arith

-- a node is equal to another one or not
same_or_other : (k n : ℕ) → (k ≡ n) ⊎ (k ≢ n)
same_or_other k n = grind arith

-- the children of a node after a change of one that is not among them
pub children_apart : (nodes : List ℕ) (j v m : ℕ) → j < length nodes → (16 * m + 1 ≤ j → 16 * m + 16 < j)
    → (s : ℕ) → s + prefix_sum nodes (16 * m + 1) ≡ prefix_sum nodes (16 * m + 17)
    → s + prefix_sum (set nodes j v) (16 * m + 1) ≡ prefix_sum (set nodes j v) (16 * m + 17)
children_apart nodes j v m inside apart s right = elim (before_or_after j (16 * m + 1)) [
  | inl before ↦ omega (arith, prefix_set_after nodes j v (16 * m + 1) inside before, prefix_set_after nodes j v (16 * m + 17) inside (omega arith))
  | inr after ↦
      let far : 16 * m + 16 < j = apart after in
      omega (arith, prefix_set_before nodes j v (16 * m + 1) after, prefix_set_before nodes j v (16 * m + 17) (omega arith))
]

-- a changed leaf
pub off_start : (nodes : List ℕ) (base leaf old new : ℕ) → AddUp nodes base → leaf < length nodes → leaf ≤ 16 * base → base ≤ leaf
    → old ≡ get_or nodes leaf 0 → IsOffAbove (set nodes leaf new) base leaf old new
off_start nodes base leaf old new right inside below above was = record {
  inside = rw (length-set nodes leaf new) inside;
  below = below;
  counted = rw (get_or-set_same nodes leaf new 0 inside) (omega arith);
  others = λ m less apart.
      let other : m ≢ leaf = λ e. omega arith in
      rw (get_or-set_other nodes leaf m new 0 other) (children_apart nodes leaf new m inside apart (get_or nodes m 0) (right m less));
  parent = λ m less low high.
      let other : m ≢ leaf = λ e. omega arith in
      rw (get_or-set_other nodes leaf m new 0 other) (omega (arith, right m less, was, prefix_set_before nodes leaf new (16 * m + 1) low, prefix_set_after nodes leaf new (16 * m + 17) inside (omega arith)));
}

-- what is to be taken from the parent is in it
pub off_covers : (nodes : List ℕ) (base at old new up : ℕ) → IsOffAbove nodes base at old new → 16 * up + 1 ≤ at → at ≤ 16 * up + 16 → old ≤ get_or nodes up 0
off_covers nodes base at old new up off low high =
    let less : up < base = omega (arith, off.below) in
    omega (arith, off.parent up less low high, off.counted, off.inside, prefix_more nodes at off.inside, prefix_grows nodes (16 * up + 1) at low, prefix_grows nodes (at + 1) (16 * up + 17) (omega arith))

-- one step up
pub off_up : (nodes : List ℕ) (base at old new up v : ℕ) → IsOffAbove nodes base at old new → 16 * up + 1 ≤ at → at ≤ 16 * up + 16
    → v ≡ get_or nodes up 0 - old + new → IsOffAbove (set nodes up v) base up old new
off_up nodes base at old new up v off low high is =
    let less : up < base = omega (arith, off.below) in
    let inside : up < length nodes = omega (arith, off.inside) in
    let covers : old ≤ get_or nodes up 0 = off_covers nodes base at old new up off low high in
    let sums : v + old ≡ get_or nodes up 0 + new = omega arith in
    record {
      inside = rw (length-set nodes up v) inside;
      below = omega arith;
      counted = rw (get_or-set_same nodes up v 0 inside) (omega arith);
      others = λ m m_less apart. elim (same_or_other m up) [
        | inl same ↦ rw (same, get_or-set_same nodes up v 0 inside)
            (omega (arith, off.parent up less low high, sums, prefix_set_after nodes up v (16 * up + 1) inside (omega arith), prefix_set_after nodes up v (16 * up + 17) inside (omega arith)))
        | inr other ↦ rw (get_or-set_other nodes up m v 0 other)
            (children_apart nodes up v m inside apart (get_or nodes m 0) (off.others m m_less (λ first. omega (arith, other))))
      ];
      parent = λ m m_less m_low m_high.
          let other : m ≢ up = λ e. omega arith in
          let right : get_or nodes m 0 + prefix_sum nodes (16 * m + 1) ≡ prefix_sum nodes (16 * m + 17) = off.others m m_less (λ first. omega (arith, other)) in
          rw (get_or-set_other nodes up m v 0 other)
          (omega (arith, right, sums, prefix_set_before nodes up v (16 * m + 1) m_low, prefix_set_after nodes up v (16 * m + 17) inside (omega arith)));
    }

-- at the root all is right
pub off_end : (nodes : List ℕ) (base at old new : ℕ) → IsOffAbove nodes base at old new → at ≡ 0 → AddUp nodes base
off_end nodes base at old new off root = λ m less. off.others m less (λ first. absurd (omega arith))
