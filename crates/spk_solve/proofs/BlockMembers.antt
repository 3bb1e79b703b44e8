-- The members of a bin, found by the counts of the blocks.
use Rattle.std.proofs.Common.{◌≡◌, ℕ, zero, suc, ◌+◌, ◌-◌, ◌*◌, ◌<◌, ◌≤◌, List, true, false, cond, sym, ap, ◌∙◌, arith, length, get_or, sum, take, zero-add, min, inl, inr}
use Rattle.std.proofs.lemmas.Bool.{cases_lt}
use Rattle.std.proofs.lemmas.Bool.Decides.{nat_tests}
use Rattle.std.proofs.lemmas.List.{get_or_past, take_all}
use Rattle.std.proofs.lemmas.Nat.{pow_pos}
use Rattle.spk_solve.specs.Bins.{in_bin, members}
use Rattle.spk_solve.specs.Choice.{IsNamed}
use Rattle.spk_solve.specs.Groups.{count_in, block_counts, blocks_of}
use Rattle.spk_solve.proofs.BinChanges.{one_in, count_add, count_first, count_one, count_none, counts_long, counts_at, counts_prefix, count_members}
use Rattle.spk_solve.proofs.Members.{member_at, members_before}

-- no bin has a propensity of 0
pub zero_in_none : (bin : ℕ) → in_bin bin 0 ≡ false
zero_in_none bin = let positive = pow_pos bin in grind (arith, nat_tests)

-- places with propensities of 0 are not counted
pub count_nowhere : (list : List ℕ) (bin from n : ℕ) → ((place : ℕ) → from ≤ place → get_or list place 0 ≡ 0) → count_in list bin from n ≡ 0
count_nowhere list bin from zero zeros = count_none list bin from
count_nowhere list bin from (suc n) zeros =
    let here : one_in bin (get_or list from 0) ≡ 0 = ap (one_in bin) (zeros from (omega arith)) ∙ ap (λ b. cond b 1 0) (zero_in_none bin) in
    omega (arith, count_first list bin from n, here, count_nowhere list bin (from + 1) n (λ place more. zeros place (omega arith)))

-- nor are those past the end
pub count_past : (list : List ℕ) (bin from n more : ℕ) → length list ≤ from + n → count_in list bin from (n + more) ≡ count_in list bin from n
count_past list bin from n more past =
    let none : count_in list bin (from + n) more ≡ 0 = count_nowhere list bin (from + n) more (λ place after. get_or_past list place 0 (omega arith)) in
    omega (arith, count_add list bin from n more)

-- one place more
pub count_more : (list : List ℕ) (bin from place : ℕ) → from ≤ place → count_in list bin from (place + 1 - from) ≡ count_in list bin from (place - from) + one_in bin (get_or list place 0)
count_more list bin from place after =
    let n : place + 1 - from ≡ place - from + 1 = omega arith in
    let at : from + (place - from) ≡ place = omega arith in
    let last : count_in list bin (from + (place - from)) 1 ≡ count_in list bin place 1 = ap (λ k. count_in list bin k 1) at in
    omega (arith, ap (count_in list bin from) n, count_add list bin from (place - from) 1, last, count_one list bin place)

-- all members are in the blocks
pub counts_sum : (list : List ℕ) (bin : ℕ) → sum (block_counts list bin) ≡ length (members list bin)
counts_sum list bin =
    let n : ℕ = length list in
    let all : take (blocks_of n) (block_counts list bin) ≡ block_counts list bin = take_all (blocks_of n) (block_counts list bin) (omega (arith, counts_long list bin)) in
    let blocks : sum (take (blocks_of n) (block_counts list bin)) ≡ count_in list bin 0 (64 * blocks_of n) = counts_prefix list bin (blocks_of n) (omega arith) in
    let long : 64 * blocks_of n ≡ n + (64 * blocks_of n - n) = omega arith in
    let past : count_in list bin 0 (n + (64 * blocks_of n - n)) ≡ count_in list bin 0 n = count_past list bin 0 n (64 * blocks_of n - n) (omega arith) in
    omega (arith, ap sum all, blocks, ap (count_in list bin 0) long, past, count_members list bin n)

-- the block and the rest that a number of a member names
pub record IsFound (list : List ℕ) (bin k block rest : ℕ) : Type 0 where
  pub within : 64 * block < length list
  pub split : count_in list bin 0 (64 * block) + rest ≡ k
  pub left : rest < count_in list bin (64 * block) 64

pub found : (list : List ℕ) (bin k block rest : ℕ) → IsNamed (block_counts list bin) k block rest → IsFound list bin k block rest
found list bin k block rest named =
    let inside : block < blocks_of (length list) = omega (arith, named.within, counts_long list bin) in
    record {
      within = omega arith;
      split = omega (arith, named.split, counts_prefix list bin block (omega arith));
      left = omega (arith, named.left, counts_at list bin block inside);
    }

-- the place of a member in a block
pub member_found : (list : List ℕ) (bin from place : ℕ)
    → from ≤ place
    → place < length list
    → in_bin bin (get_or list place 0) ≡ true
    → place ≡ get_or (members list bin) (count_in list bin 0 from + count_in list bin from (place - from)) 0
member_found list bin from place after less is =
    let at : from + (place - from) ≡ place = omega arith in
    let start : count_in list bin (0 + from) (place - from) ≡ count_in list bin from (place - from) = ap (λ k. count_in list bin k (place - from)) (zero-add from) in
    let k : count_in list bin 0 from + count_in list bin from (place - from) ≡ length (members_before list bin place) =
    omega (arith, ap (count_in list bin 0) at, count_add list bin 0 from (place - from), start, count_members list bin place) in
    sym (ap (λ n. get_or (members list bin) n 0) k ∙ member_at list bin place less is)

-- a block that was walked to its end has all its members
pub walked : (list : List ℕ) (bin from place left rest : ℕ)
    → left + count_in list bin from (place - from) ≡ rest
    → rest < count_in list bin from 64
    → from < length list
    → place ≡ min (length list) (from + 64)
    → ⊥
walked list bin from place left rest so_far more inside at = elim (cases_lt (length list) (from + 64)) [
  | inl short ↦
      let n : 64 ≡ place - from + (64 - (place - from)) = omega arith in
      omega (arith, so_far, more, ap (count_in list bin from) n, count_past list bin from (place - from) (64 - (place - from)) (omega arith))
  | inr long ↦
      let n : place - from ≡ 64 = omega arith in
      omega (arith, so_far, more, ap (count_in list bin from) n)
]
