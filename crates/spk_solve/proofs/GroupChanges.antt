-- What a group keeps beside its list, after a change of the list.
use Rattle.std.proofs.Common.{◌≡◌, ◌≢◌, ℕ, zero, suc, ◌+◌, ◌-◌, ◌*◌, ◌/◌, ◌^◌, ◌<◌, ◌≤◌, List, [], true, false, cond, eqb, refl, sym, ap, ◌∙◌, arith, length, get_or, set, take, sum, inl, inr, ◌⊎◌, eq-eqb}
use Rattle.std.proofs.lemmas.Bool.{cases_order, cases_eq, cases_lt, ne_eqb}
use Rattle.std.proofs.lemmas.Bool.Decides.{nat_tests}
use Rattle.std.proofs.lemmas.Grind.{common_steps}
use Rattle.std.proofs.lemmas.List.{get_or-set_same, get_or-set_other, length-set, ext_get_or, get_or_past}
use Rattle.std.proofs.lemmas.Nat.{pow_below}
use Rattle.std.proofs.lemmas.List.{take_all}
use Rattle.std.specs.Prelude.{All}
use Rattle.spk_solve.proofs.SumTreeLaws.{zeros, zeros_at, zeros_long}
use Rattle.spk_solve.proofs.Ranges.{sum_on, sum_places}
use Rattle.spk_solve.specs.Bins.{in_bin, bin_total}
use Rattle.spk_solve.specs.Kept.{Kept}
use Rattle.spk_solve.specs.Groups.{IsBinOf, IsCounted, block_counts, blocks_of, kept_at}
use Rattle.spk_solve.proofs.BinChanges.{one_in, count_within, total_set, count_set, counts_set, counts_same, counts_long, counts_at}
use Rattle.spk_solve.proofs.BinSums.{share, total_more, all_totals}
use Rattle.spk_solve.proofs.BlockMembers.{zero_in_none, count_nowhere}
use Rattle.spk_solve.proofs.Members.{total_before}

-- powers of 2 in order
powers : (j k : ℕ) → j ≤ k → 2 ^ j ≤ 2 ^ k
powers j k le =
    let cases : (j < k) ⊎ (j ≡ k) = grind arith in
    elim cases [
      | inl less ↦ omega (arith, pow_below j k less)
      | inr same ↦ rw same (omega arith)
    ]

twice : (k : ℕ) → 2 ^ (k + 1) ≡ 2 * 2 ^ k
twice k = grind (arith, common_steps)

-- the bin of 0, and that of a propensity
pub none_of_zero : IsBinOf 36 0
none_of_zero = record {
  most = omega arith;
  same = λ bin less. zero_in_none bin ∙ sym (ne_eqb 36 bin (λ e. omega arith));
  none = λ e. refl;
}

pub bin_by_power : (k p : ℕ) → 2 ^ k ≤ p → p < 2 * 2 ^ k → p ≤ 2 ^ 35 → IsBinOf k p
bin_by_power k p least most small =
    let within : k ≤ 35 =
    let cases : (k ≤ 35) ⊎ (36 ≤ k) = grind arith in
    elim cases [
      | inl low ↦ low
      | inr high ↦ absurd (omega (arith, powers 36 k high))
    ] in
    record {
      most = omega arith;
      same = λ bin less. elim (cases_order k bin) [
        | inl here ↦
            let double = twice k in
            let both : in_bin k p ≡ eqb k k = grind (arith, nat_tests) in
            ap (λ b. in_bin b p) (sym here) ∙ both ∙ ap (eqb k) here
        | inr other ↦ elim other [
          | inl below ↦
              let next : 2 ^ (k + 1) ≤ 2 ^ bin = powers (k + 1) bin (omega arith) in
              let double = twice k in
              grind (arith, nat_tests)
          | inr above ↦
              let next : 2 ^ (bin + 1) ≤ 2 ^ k = powers (bin + 1) k (omega arith) in
              grind (arith, nat_tests)
        ]
      ];
      none = λ e. absurd (omega arith);
    }

-- a propensity in a bin, and one that is in another or in none
pub in_its_bin : (number p : ℕ) → IsBinOf number p → number < 36 → in_bin number p ≡ true
in_its_bin number p is less = is.same number less ∙ eq-eqb number number refl

pub in_no_other : (number p bin : ℕ) → IsBinOf number p → bin < 36 → number ≢ bin → in_bin bin p ≡ false
in_no_other number p bin is less other = is.same bin less ∙ ne_eqb number bin other

-- the share of a propensity in a bin, and what it counts there
share_in : (bin p : ℕ) → in_bin bin p ≡ true → share p bin ≡ p
share_in bin p is = ap (λ b. cond b p 0) is

share_out : (bin p : ℕ) → in_bin bin p ≡ false → share p bin ≡ 0
share_out bin p is = ap (λ b. cond b p 0) is

pub one_if : (bin p : ℕ) → in_bin bin p ≡ true → one_in bin p ≡ 1
one_if bin p is = ap (λ b. cond b 1 0) is

pub one_if_not : (bin p : ℕ) → in_bin bin p ≡ false → one_in bin p ≡ 0
one_if_not bin p is = ap (λ b. cond b 1 0) is

-- the bytes after a change
bytes_set : (list bytes : List ℕ) (i p number : ℕ) → ((place : ℕ) → place < length list → IsBinOf (get_or bytes place 0) (get_or list place 0)) → i < length list → length list ≤ length bytes → IsBinOf number p
    → (place : ℕ) → place < length (set list i p) → IsBinOf (get_or (set bytes i number) place 0) (get_or (set list i p) place 0)
bytes_set list bytes i p number are less long is place inside = elim (cases_eq place i) [
  | inl here ↦ rw (here, get_or-set_same list i p 0 less, get_or-set_same bytes i number 0 (omega arith)) is
  | inr other ↦ rw (get_or-set_other list i place p 0 other, get_or-set_other bytes i place number 0 other) (are place (omega (arith, inside, length-set list i p)))
]

pub kept_is : (kept : Kept) (list : List ℕ) (room : ℕ) → kept.list ≡ list → kept.room ≡ room → kept ≡ record { list = list; room = room }
kept_is kept list room list_is room_is =
    let of_list : List ℕ → Kept = λ l. record { list = l; room = kept.room } in
    let of_room : ℕ → Kept = λ r. record { list = list; room = r } in
    ap of_list list_is ∙ ap of_room room_is

-- a place goes into a bin, or out of it: the number of the bin, and the propensity there
pub record IsMove (list : List ℕ) (i p number total count : ℕ) : Type 0 where
  pub inside : i < length list
  pub number_is : number < 36
  pub only : (bin : ℕ) → bin < 36 → number ≢ bin → in_bin bin (get_or list i 0) ≡ in_bin bin p
  pub no_share : (bin : ℕ) → bin < 36 → number ≢ bin → share (get_or list i 0) bin ≡ share p bin
  pub total_is : total + share (get_or list i 0) number ≡ bin_total list number + share p number
  pub count_is : count + one_in number (get_or list i 0) ≡ get_or (block_counts list number) (i / 64) 0 + one_in number p

-- what is counted after such a move
pub counted_set : (list : List ℕ) (room : ℕ) (bytes totals : List ℕ) (trees : List Kept) (i p byte number total count : ℕ) (tree : Kept)
    → IsCounted list room bytes totals trees
    → length list ≤ room
    → IsMove list i p number total count
    → IsBinOf byte p
    → tree.list ≡ set (kept_at trees number).list (i / 64) count
    → tree.room ≡ (kept_at trees number).room
    → IsCounted (set list i p) room (set bytes i byte) (set totals number total) (set trees number tree)
counted_set list room bytes totals trees i p byte number total count tree counted fits move is list_is room_is = record {
  bytes_long = length-set bytes i byte ∙ counted.bytes_long;
  bytes_are = bytes_set list bytes i p byte counted.bytes_are move.inside (omega (arith, counted.bytes_long)) is;
  totals_long = length-set totals number total ∙ counted.totals_long;
  totals_are = λ bin less. elim (cases_eq bin number) [
    | inl here ↦
        let written : get_or (set totals number total) number 0 ≡ total = get_or-set_same totals number total 0 (omega (arith, counted.totals_long, move.number_is)) in
        let change = total_set list number i p move.inside in
        rw here (omega (arith, written, change, move.total_is))
    | inr other ↦
        let change = total_set list bin i p move.inside in
        rw (get_or-set_other totals number bin total 0 other) (omega (arith, counted.totals_are bin less, change, move.no_share bin less (λ e. other (sym e))))
  ];
  trees_long = length-set trees number tree ∙ counted.trees_long;
  trees_are = λ bin less. elim (cases_eq bin number) [
    | inl here ↦
        let was : kept_at trees number ≡ record { list = block_counts list number; room = blocks_of room } = counted.trees_are number move.number_is in
        let counts : block_counts (set list i p) number ≡ set (block_counts list number) (i / 64) count = counts_set list number i p count move.inside move.count_is in
        let written : kept_at (set trees number tree) number ≡ tree = get_or-set_same trees number tree (record { list = []; room = 0 }) (omega (arith, counted.trees_long, move.number_is)) in
        let list_now : tree.list ≡ block_counts (set list i p) number = list_is ∙ ap (λ k. set k.list (i / 64) count) was ∙ sym counts in
        let room_now : tree.room ≡ blocks_of room = room_is ∙ ap (λ k. k.room) was in
        rw here (written ∙ kept_is tree (block_counts (set list i p) number) (blocks_of room) list_now room_now)
    | inr other ↦
        rw (get_or-set_other trees number bin tree (record { list = []; room = 0 }) other, counts_same list bin i p move.inside (move.only bin less (λ e. other (sym e)))) (counted.trees_are bin less)
  ];
}

-- where a place is in a bin, its block has a member
pub counts_there : (list : List ℕ) (bin i : ℕ) → i < length list → in_bin bin (get_or list i 0) ≡ true → 0 < get_or (block_counts list bin) (i / 64) 0
counts_there list bin i less there =
    let change = count_set list bin i 0 (64 * (i / 64)) 64 less (omega arith) (omega arith) in
    omega (arith, counts_at list bin (i / 64) (omega arith), change, one_if bin (get_or list i 0) there, one_if_not bin 0 (zero_in_none bin))

-- a place leaves its bin
pub move_out : (list : List ℕ) (i number total count : ℕ)
    → i < length list
    → number < 36
    → IsBinOf number (get_or list i 0)
    → total ≡ bin_total list number - get_or list i 0
    → count ≡ get_or (block_counts list number) (i / 64) 0 - 1
    → IsMove list i 0 number total count
move_out list i number total count inside number_is is total_was count_was =
    let there : in_bin number (get_or list i 0) ≡ true = in_its_bin number (get_or list i 0) is number_is in
    let total_set_is = total_set list number i 0 inside in
    let counted = counts_there list number i inside there in
    record {
      inside = inside;
      number_is = number_is;
      only = λ bin less other. in_no_other number (get_or list i 0) bin is less other ∙ sym (zero_in_none bin);
      no_share = λ bin less other. share_out bin (get_or list i 0) (in_no_other number (get_or list i 0) bin is less other) ∙ sym (share_out bin 0 (zero_in_none bin));
      total_is = omega (arith, total_was, share_in number (get_or list i 0) there, share_out number 0 (zero_in_none number), total_set_is);
      count_is = omega (arith, count_was, one_if number (get_or list i 0) there, one_if_not number 0 (zero_in_none number), counted);
    }

-- a place comes into a bin
pub move_in : (list : List ℕ) (i p number total count : ℕ)
    → i < length list
    → number < 36
    → get_or list i 0 ≡ 0
    → IsBinOf number p
    → total ≡ bin_total list number + p
    → count ≡ get_or (block_counts list number) (i / 64) 0 + 1
    → IsMove list i p number total count
move_in list i p number total count inside number_is empty is total_was count_was =
    let there : in_bin number p ≡ true = in_its_bin number p is number_is in
    let nowhere : (bin : ℕ) → in_bin bin (get_or list i 0) ≡ false = λ bin. ap (in_bin bin) empty ∙ zero_in_none bin in
    record {
      inside = inside;
      number_is = number_is;
      only = λ bin less other. nowhere bin ∙ sym (in_no_other number p bin is less other);
      no_share = λ bin less other. share_out bin (get_or list i 0) (nowhere bin) ∙ sym (share_out bin p (in_no_other number p bin is less other));
      total_is = omega (arith, total_was, share_in number p there, share_out number (get_or list i 0) (nowhere number));
      count_is = omega (arith, count_was, one_if number p there, one_if_not number (get_or list i 0) (nowhere number));
    }

-- no block has more than 64 members
pub counts_small : (list : List ℕ) (bin block : ℕ) → get_or (block_counts list bin) block 0 ≤ 64
counts_small list bin block = elim (cases_lt block (blocks_of (length list))) [
  | inl less ↦ omega (arith, counts_at list bin block less, count_within list bin (64 * block) 64)
  | inr past ↦ omega (arith, get_or_past (block_counts list bin) block 0 (omega (arith, counts_long list bin)))
]

-- a list of zeros
zeros_total : (list : List ℕ) (bin n : ℕ) → ((place : ℕ) → get_or list place 0 ≡ 0) → total_before list bin n ≡ 0
zeros_total list bin zero zeros = refl
zeros_total list bin (suc n) zeros =
    let next : suc n ≡ n + 1 = omega arith in
    let none : share (get_or list n 0) bin ≡ 0 = ap (λ p. share p bin) (zeros n) ∙ share_out bin 0 (zero_in_none bin) in
    omega (arith, ap (total_before list bin) next, total_more list bin n, none, zeros_total list bin n zeros)

zeros_counts : (n bin : ℕ) → block_counts (zeros n) bin ≡ zeros (blocks_of n)
zeros_counts n bin =
    let long : blocks_of (length (zeros n)) ≡ blocks_of n = ap blocks_of (zeros_long n) in
    ext_get_or 0 (block_counts (zeros n) bin) (zeros (blocks_of n))
    (counts_long (zeros n) bin ∙ long ∙ sym (zeros_long (blocks_of n)))
    (λ block inside.
    let within : block < blocks_of (length (zeros n)) = omega (arith, inside, counts_long (zeros n) bin) in
    counts_at (zeros n) bin block within
    ∙ count_nowhere (zeros n) bin (64 * block) 64 (λ place after. zeros_at n place)
    ∙ sym (zeros_at (blocks_of n) block))

pub counted_zeros : (n room : ℕ) (bytes totals : List ℕ) (trees : List Kept)
    → length bytes ≡ room
    → ((place : ℕ) → place < n → get_or bytes place 0 ≡ 36)
    → totals ≡ zeros 36
    → length trees ≡ 36
    → ((bin : ℕ) → bin < 36 → kept_at trees bin ≡ record { list = zeros (blocks_of n); room = blocks_of room })
    → IsCounted (zeros n) room bytes totals trees
counted_zeros n room bytes totals trees bytes_long bytes_are totals_are trees_long trees_are = record {
  bytes_long = bytes_long;
  bytes_are = λ place less. rw (bytes_are place (omega (arith, zeros_long n)), zeros_at n place) none_of_zero;
  totals_long = ap length totals_are ∙ zeros_long 36;
  totals_are = λ bin less. ap (λ ts. get_or ts bin 0) totals_are ∙ zeros_at 36 bin ∙ sym (zeros_total (zeros n) bin (length (zeros n)) (zeros_at n));
  trees_long = trees_long;
  trees_are = λ bin less. rw (zeros_counts n bin) (trees_are bin less);
}

-- the totals of the bins add up to the total
pub totals_sum : (list : List ℕ) (room : ℕ) (bytes totals : List ℕ) (trees : List Kept)
    → IsCounted list room bytes totals trees
    → All (λ w. w ≤ 2 ^ 35) list
    → sum totals ≡ sum list
totals_sum list room bytes totals trees counted small =
    let all : take 36 totals ≡ totals = take_all 36 totals (omega (arith, counted.totals_long)) in
    sym (ap sum all)
    ∙ sum_places totals 36 (omega (arith, counted.totals_long))
    ∙ sum_on (λ k. get_or totals k 0) (bin_total list) 0 36 (λ bin low high. counted.totals_are bin (omega arith))
    ∙ all_totals list small

-- a bin has at least a member's propensity
pub bin_covers : (list : List ℕ) (bin i : ℕ) → i < length list → in_bin bin (get_or list i 0) ≡ true → get_or list i 0 ≤ bin_total list bin
bin_covers list bin i less there =
    omega (arith, total_set list bin i 0 less, share_in bin (get_or list i 0) there, share_out bin 0 (zero_in_none bin))
