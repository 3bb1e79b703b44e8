-- What a change of one propensity changes in the totals of the bins, and in their counts by blocks.
use Rattle.std.proofs.Common.{◌≡◌, ◌≢◌, ℕ, zero, suc, ◌+◌, ◌*◌, ◌/◌, ◌<◌, ◌≤◌, ◌++◌, ◌∷◌, [], List, cond, refl, sym, ap, ◌∙◌, arith, length, get_or, set, take, sum, map, inl, inr, ◌⊎◌, zero-add}
use Rattle.std.proofs.lemmas.List.{get_or-set_same, get_or-set_other, length-set, ext_get_or}
use Rattle.std.proofs.lemmas.List.FromFn.{length-range_with_len, length-map-range_with_len, get_or-map-range_with_len, take-map-range_with_len, sum_by-map-range_with_len_more}
use Rattle.std.proofs.lemmas.List.Sums.{sum_by-cons, sum_by_push, length-filter, count_by-le-length}
use Rattle.std.specs.Prelude.{sum_by}
use Rattle.std.specs.List.{range_with_len}
use Rattle.spk_solve.specs.Bins.{in_bin, bin_total}
use Rattle.spk_solve.specs.Groups.{count_in, block_counts, blocks_of}
use Rattle.spk_solve.proofs.BinSums.{share, total_more}
use Rattle.spk_solve.proofs.Members.{range_more, total_before, members_before}
use Rattle.spk_solve.proofs.Ranges.{sum_add, sum_apart, sum_change}

-- the total of a bin, as a sum over all places
total_is : (list : List ℕ) (bin n : ℕ) → total_before list bin n ≡ sum_by (λ place. share (get_or list place 0) bin) (range_with_len 0 n)
total_is list bin zero = refl
total_is list bin (suc n) =
    let next : suc n ≡ n + 1 = omega arith in
    let pushed : sum_by (λ place. share (get_or list place 0) bin) (range_with_len 0 (suc n)) ≡ sum_by (λ place. share (get_or list place 0) bin) (range_with_len 0 n) + share (get_or list n 0) bin =
    ap (sum_by (λ place. share (get_or list place 0) bin)) (range_more 0 n ∙ ap (λ k. range_with_len 0 n ++ k ∷ []) (zero-add n)) ∙ sum_by_push (λ place. share (get_or list place 0) bin) (range_with_len 0 n) n in
    ap (total_before list bin) next ∙ total_more list bin n ∙ ap (λ s. s + share (get_or list n 0) bin) (total_is list bin n) ∙ sym pushed

-- a bin loses what the old propensity adds to it, and gains what the new one does
pub total_set : (list : List ℕ) (bin i p : ℕ) → i < length list → bin_total (set list i p) bin + share (get_or list i 0) bin ≡ bin_total list bin + share p bin
total_set list bin i p less =
    let after : ℕ → ℕ = λ place. share (get_or (set list i p) place 0) bin in
    let before : ℕ → ℕ = λ place. share (get_or list place 0) bin in
    let here : get_or (set list i p) i 0 ≡ p = get_or-set_same list i p 0 less in
    let change : sum_by after (range_with_len 0 (length list)) + before i ≡ sum_by before (range_with_len 0 (length list)) + after i =
    sum_change after before i 0 (length list) (λ k other. ap (λ q. share q bin) (get_or-set_other list i k p 0 other)) (omega arith) (omega arith) in
    let long : bin_total (set list i p) bin ≡ total_before (set list i p) bin (length list) = ap (total_before (set list i p) bin) (length-set list i p) in
    omega (arith, long, total_is (set list i p) bin (length list), total_is list bin (length list), change, ap (λ q. share q bin) here)

-- one for a propensity in a bin
abbrev pub one_in : ℕ → ℕ → ℕ
one_in bin p = cond (in_bin bin p) 1 0

-- places that are counted in two parts, one place, and that no more are counted than there are
pub count_add : (list : List ℕ) (bin from n m : ℕ) → count_in list bin from (n + m) ≡ count_in list bin from n + count_in list bin (from + n) m
unfolding count_in
count_add list bin from n m = sum_add (λ place. one_in bin (get_or list place 0)) from n m

pub count_first : (list : List ℕ) (bin from n : ℕ) → count_in list bin from (suc n) ≡ one_in bin (get_or list from 0) + count_in list bin (from + 1) n
unfolding count_in
count_first list bin from n = sum_by-cons (λ place. one_in bin (get_or list place 0)) from (range_with_len (from + 1) n)

pub count_one : (list : List ℕ) (bin from : ℕ) → count_in list bin from 1 ≡ one_in bin (get_or list from 0)
unfolding count_in
count_one list bin from = zero-add (one_in bin (get_or list from 0))

pub count_none : (list : List ℕ) (bin from : ℕ) → count_in list bin from 0 ≡ 0
unfolding count_in
count_none list bin from = refl

pub count_within : (list : List ℕ) (bin from n : ℕ) → count_in list bin from n ≤ n
unfolding count_in
count_within list bin from n = omega (arith, count_by-le-length (λ place. in_bin bin (get_or list place 0)) (range_with_len from n), length-range_with_len from n)

-- a change of a place that is not among those that are counted
pub count_apart : (list : List ℕ) (bin i p from n : ℕ) → (i < from) ⊎ (from + n ≤ i) → count_in (set list i p) bin from n ≡ count_in list bin from n
unfolding count_in
count_apart list bin i p from n apart =
    sum_apart (λ place. one_in bin (get_or (set list i p) place 0)) (λ place. one_in bin (get_or list place 0)) i from n
    (λ k other. ap (one_in bin) (get_or-set_other list i k p 0 other)) apart

-- and of one that is
pub count_set : (list : List ℕ) (bin i p from n : ℕ) → i < length list → from ≤ i → i < from + n
    → count_in (set list i p) bin from n + one_in bin (get_or list i 0) ≡ count_in list bin from n + one_in bin p
unfolding count_in
count_set list bin i p from n less low high =
    let after : ℕ → ℕ = λ place. one_in bin (get_or (set list i p) place 0) in
    let before : ℕ → ℕ = λ place. one_in bin (get_or list place 0) in
    let here : get_or (set list i p) i 0 ≡ p = get_or-set_same list i p 0 less in
    let change : sum_by after (range_with_len from n) + before i ≡ sum_by before (range_with_len from n) + after i =
    sum_change after before i from n (λ k other. ap (one_in bin) (get_or-set_other list i k p 0 other)) low high in
    omega (arith, change, ap (one_in bin) here)

pub counts_long : (list : List ℕ) (bin : ℕ) → length (block_counts list bin) ≡ blocks_of (length list)
unfolding block_counts
counts_long list bin = length-map-range_with_len (λ block. count_in list bin (64 * block) 64) 0 (blocks_of (length list))

pub counts_at : (list : List ℕ) (bin block : ℕ) → block < blocks_of (length list) → get_or (block_counts list bin) block 0 ≡ count_in list bin (64 * block) 64
unfolding block_counts
counts_at list bin block less = get_or-map-range_with_len (λ k. count_in list bin (64 * k) 64) 0 (blocks_of (length list)) block block 0 less (zero-add block)

-- a place in a block
block_cases : (i block : ℕ) → (block ≡ i / 64) ⊎ ((block ≢ i / 64) × ((i < 64 * block) ⊎ (64 * block + 64 ≤ i)))
block_cases i block =
    let cases : (block ≡ i / 64) ⊎ ((block < i / 64) ⊎ (i / 64 < block)) = grind arith in
    elim cases [
      | inl here ↦ inl here
      | inr other ↦ elim other [
        | inl before ↦ inr ((λ e. omega arith), inr (omega arith))
        | inr after ↦ inr ((λ e. omega arith), inl (omega arith))
      ]
    ]

-- the counts after a change
pub counts_set : (list : List ℕ) (bin i p v : ℕ) → i < length list
    → v + one_in bin (get_or list i 0) ≡ get_or (block_counts list bin) (i / 64) 0 + one_in bin p
    → block_counts (set list i p) bin ≡ set (block_counts list bin) (i / 64) v
counts_set list bin i p v less is =
    let was : List ℕ = block_counts list bin in
    let blocks : ℕ = blocks_of (length list) in
    let long : blocks_of (length (set list i p)) ≡ blocks = ap blocks_of (length-set list i p) in
    let here : i / 64 < blocks = omega arith in
    ext_get_or 0 (block_counts (set list i p) bin) (set was (i / 64) v)
    (counts_long (set list i p) bin ∙ long ∙ sym (length-set was (i / 64) v ∙ counts_long list bin))
    (λ block inside.
    let within : block < blocks = omega (arith, inside, counts_long (set list i p) bin, long) in
    let now : get_or (block_counts (set list i p) bin) block 0 ≡ count_in (set list i p) bin (64 * block) 64 = counts_at (set list i p) bin block (omega (arith, within, long)) in
    let before : get_or was block 0 ≡ count_in list bin (64 * block) 64 = counts_at list bin block within in
    elim (block_cases i block) [
      | inl same ↦
          let there : i / 64 < length was = omega (arith, counts_long list bin) in
          let written : get_or (set was (i / 64) v) (i / 64) 0 ≡ v = get_or-set_same was (i / 64) v 0 there in
          let change = count_set list bin i p (64 * block) 64 less (omega arith) (omega arith) in
          let at_same : get_or (set was (i / 64) v) block 0 ≡ v = ap (λ k. get_or (set was (i / 64) v) k 0) same ∙ written in
          let was_same : get_or was block 0 ≡ get_or was (i / 64) 0 = ap (λ k. get_or was k 0) same in
          omega (arith, now, before, change, is, at_same, was_same)
      | inr other ↦
          now ∙ count_apart list bin i p (64 * block) 64 other.1 ∙ sym (get_or-set_other was (i / 64) block v 0 other.0 ∙ before)
    ])

-- where the bin has both propensities, or neither, nothing changes
pub counts_same : (list : List ℕ) (bin i p : ℕ) → i < length list → in_bin bin (get_or list i 0) ≡ in_bin bin p → block_counts (set list i p) bin ≡ block_counts list bin
counts_same list bin i p less same =
    let was : List ℕ = block_counts list bin in
    let blocks : ℕ = blocks_of (length list) in
    let long : blocks_of (length (set list i p)) ≡ blocks = ap blocks_of (length-set list i p) in
    let as_one : one_in bin (get_or list i 0) ≡ one_in bin p = ap (λ b. cond b 1 0) same in
    ext_get_or 0 (block_counts (set list i p) bin) was
    (counts_long (set list i p) bin ∙ long ∙ sym (counts_long list bin))
    (λ block inside.
    let within : block < blocks = omega (arith, inside, counts_long (set list i p) bin, long) in
    let now : get_or (block_counts (set list i p) bin) block 0 ≡ count_in (set list i p) bin (64 * block) 64 = counts_at (set list i p) bin block (omega (arith, within, long)) in
    let before : get_or was block 0 ≡ count_in list bin (64 * block) 64 = counts_at list bin block within in
    elim (block_cases i block) [
      | inl here ↦
          let change = count_set list bin i p (64 * block) 64 less (omega arith) (omega arith) in
          omega (arith, now, before, change, as_one)
      | inr other ↦ now ∙ count_apart list bin i p (64 * block) 64 other.1 ∙ sym before
    ])

-- the counts of the first blocks are those of their places
counts_first : (list : List ℕ) (bin j : ℕ) → sum (map (λ block. count_in list bin (64 * block) 64) (range_with_len 0 j)) ≡ count_in list bin 0 (64 * j)
counts_first list bin zero = sym (count_none list bin 0)
counts_first list bin (suc j) =
    let next : suc j ≡ j + 1 = omega arith in
    let more : 64 * (j + 1) ≡ 64 * j + 64 = omega arith in
    let counts : ℕ → ℕ = λ block. count_in list bin (64 * block) 64 in
    let from : count_in list bin (0 + 64 * j) 64 ≡ count_in list bin (64 * j) 64 = ap (λ k. count_in list bin k 64) (zero-add (64 * j)) in
    let longer : sum (map counts (range_with_len 0 (j + 1))) ≡ sum (map counts (range_with_len 0 j)) + counts j = sum_by-map-range_with_len_more (λ x. x) counts 0 j j (zero-add j) in
    let same : sum (map counts (range_with_len 0 (suc j))) ≡ sum (map counts (range_with_len 0 (j + 1))) = ap (λ k. sum (map counts (range_with_len 0 k))) next in
    let whole : count_in list bin 0 (64 * suc j) ≡ count_in list bin 0 (64 * j + 64) = ap (λ k. count_in list bin 0 (64 * k)) next ∙ ap (count_in list bin 0) more in
    omega (arith, longer, same, whole, count_add list bin 0 (64 * j) 64, from, counts_first list bin j)

pub counts_prefix : (list : List ℕ) (bin j : ℕ) → j ≤ blocks_of (length list) → sum (take j (block_counts list bin)) ≡ count_in list bin 0 (64 * j)
unfolding block_counts
counts_prefix list bin j less =
    ap sum (take-map-range_with_len (λ block. count_in list bin (64 * block) 64) 0 (blocks_of (length list)) j less) ∙ counts_first list bin j

-- the members of a bin among the first places, counted
pub count_members : (list : List ℕ) (bin n : ℕ) → length (members_before list bin n) ≡ count_in list bin 0 n
unfolding count_in
count_members list bin n = length-filter (λ place. in_bin bin (get_or list place 0)) (range_with_len 0 n)
