-- A group before and after its calls.
use Rattle.std.proofs.Common.{◌≡◌, ℕ, ◌+◌, ◌-◌, ◌*◌, ◌/◌, ◌^◌, ◌<◌, ◌≤◌, List, refl, sym, ap, ◌∙◌, arith, length, get_or, set, take, sum, true, add-zero, []}
use Rattle.std.proofs.lemmas.List.{length-set, length-take-le, get_or-take, get_or_default}
use Rattle.std.proofs.lemmas.List.Sums.{sum_by-le}
use Rattle.std.proofs.Math.Seq.{take-set-lt}
use Rattle.std.specs.Prelude.{slice_index, Some, option_map}
use Rattle.spk_num.specs.Draws.{next_state, below_two_of}
use Rattle.spk_solve.specs.Bins.{in_bin, bin_total, bins, members, taken_of}
use Rattle.spk_solve.specs.Choice.{Choice, named, bin_choice, choice_of, target_of, two_draws}
use Rattle.spk_solve.specs.Kept.{Kept, kept_of}
use Rattle.spk_solve.specs.Groups.{IsBinOf, IsGrouped, block_counts, blocks_of, kept_at}
use Rattle.spk_solve.proofs.BinChanges.{counts_long}
use Rattle.spk_solve.proofs.BinSums.{bin_within}
use Rattle.spk_solve.proofs.GroupChanges.{counted_set, counted_zeros, counts_small, counts_there, in_its_bin, move_in, move_out, bin_covers, none_of_zero, totals_sum}
use Rattle.spk_solve.proofs.Inside.{members_there, named_some}
use Rattle.spk_solve.proofs.Keeps.{kept_set, kept_zeros}
use Rattle.spk_solve.proofs.Names.{bins_start, named_same}
use Rattle.spk_solve.proofs.SumTreeLaws.{zeros}

-- a list of zeros
pub grouped_zeros : (weights : List ℕ) (n room : ℕ) (bytes totals : List ℕ) (trees : List Kept)
    → n ≤ length weights
    → length weights ≡ room
    → room ≤ 4194304
    → take n weights ≡ zeros n
    → length bytes ≡ room
    → ((place : ℕ) → place < n → get_or bytes place 0 ≡ 36)
    → totals ≡ zeros 36
    → length trees ≡ 36
    → ((bin : ℕ) → bin < 36 → kept_at trees bin ≡ record { list = zeros (blocks_of n); room = blocks_of room })
    → IsGrouped weights n 0 bytes totals trees
grouped_zeros weights n room bytes totals trees within long few empty bytes_long bytes_are totals_are trees_long trees_are = record {
  kept = kept_zeros weights n within (omega arith) empty;
  counted = rw (empty, long) (counted_zeros n room bytes totals trees bytes_long bytes_are totals_are trees_long trees_are);
}

-- what a group has of a place, and of its bin
pub record IsPlaced (weights : List ℕ) (used total : ℕ) (bytes totals : List ℕ) (trees : List Kept) (i number : ℕ) : Type 0 where
  pub in_used : i < used
  pub inside : i < length (take used weights)
  pub same : get_or (take used weights) i 0 ≡ get_or weights i 0
  pub total_is : get_or totals number 0 ≡ bin_total (take used weights) number
  pub total_small : get_or totals number 0 < 2 ^ 62
  pub sum_small : total < 2 ^ 62
  pub counts_are : (kept_at trees number).list ≡ block_counts (take used weights) number
  pub block : i / 64 < length (kept_at trees number).list
  pub small : get_or (kept_at trees number).list (i / 64) 0 ≤ 64

pub placed : (weights : List ℕ) (used total : ℕ) (bytes totals : List ℕ) (trees : List Kept) (i number : ℕ)
    → IsGrouped weights used total bytes totals trees
    → i < length (take used weights)
    → number < 36
    → IsPlaced weights used total bytes totals trees i number
placed weights used total bytes totals trees i number grouped inside less =
    let list : List ℕ = take used weights in
    let long : length (take used weights) ≡ used = length-take-le used weights grouped.kept.within in
    let counts : (kept_at trees number).list ≡ block_counts (take used weights) number = ap (λ k. k.list) (grouped.counted.trees_are number less) in
    let sums : sum (take used weights) ≤ length (take used weights) * 2 ^ 35 = sum_by-le (λ w. w) (2 ^ 35) (take used weights) grouped.kept.small in
    record {
      in_used = omega arith;
      inside = inside;
      same = get_or-take used weights i 0 (omega arith);
      total_is = grouped.counted.totals_are number less;
      total_small = omega (arith, grouped.counted.totals_are number less, bin_within (take used weights) number less grouped.kept.small, sums, grouped.kept.room, grouped.kept.within);
      sum_small = omega (arith, sums, grouped.kept.room, grouped.kept.within, grouped.kept.total_is);
      counts_are = counts;
      block = rw (counts, counts_long (take used weights) number) (omega arith);
      small = rw counts (counts_small (take used weights) number (i / 64));
    }

-- a place whose bin is known
pub record IsOut (weights : List ℕ) (used total : ℕ) (bytes totals : List ℕ) (trees : List Kept) (i number : ℕ) : Type 0 where
  pub covers : get_or weights i 0 ≤ get_or totals number 0
  pub some : 0 < get_or (kept_at trees number).list (i / 64) 0
  pub after : (t : ℕ) (tree : Kept)
      → t + get_or weights i 0 ≡ get_or totals number 0
      → tree.list ≡ set (kept_at trees number).list (i / 64) (get_or (kept_at trees number).list (i / 64) 0 - 1)
      → tree.room ≡ (kept_at trees number).room
      → IsGrouped (set weights i 0) used (total - get_or weights i 0) (set bytes i 36) (set totals number t) (set trees number tree)

pub taken_out : (weights : List ℕ) (used total : ℕ) (bytes totals : List ℕ) (trees : List Kept) (i number : ℕ)
    → IsGrouped weights used total bytes totals trees
    → i < length (take used weights)
    → number < 36
    → number ≡ get_or bytes i 0
    → IsOut weights used total bytes totals trees i number
taken_out weights used total bytes totals trees i number grouped inside less byte =
    let known : IsPlaced weights used total bytes totals trees i number = placed weights used total bytes totals trees i number grouped inside less in
    let list : List ℕ = take used weights in
    let bin : IsBinOf number (get_or (take used weights) i 0) = rw byte (grouped.counted.bytes_are i inside) in
    let there : in_bin number (get_or (take used weights) i 0) ≡ true = in_its_bin number (get_or (take used weights) i 0) bin less in
    let some : 0 < get_or (block_counts (take used weights) number) (i / 64) 0 = counts_there (take used weights) number i inside there in
    let covers : get_or (take used weights) i 0 ≤ bin_total (take used weights) number = bin_covers (take used weights) number i inside there in
    record {
      covers = omega (arith, known.same, known.total_is, covers);
      some = rw known.counts_are some;
      after = λ t tree t_is list_is room_is. record {
        kept = rw add-zero at (kept_set weights used total i 0 (get_or weights i 0) grouped.kept known.in_used (omega arith) refl);
        counted = rw (take-set-lt used weights i 0 known.in_used, length-set weights i 0)
            (counted_set (take used weights) (length weights) bytes totals trees i 0 36 number t (get_or (block_counts (take used weights) number) (i / 64) 0 - 1) tree
            grouped.counted (omega (arith, length-take-le used weights grouped.kept.within, grouped.kept.within))
            (move_out (take used weights) i number t (get_or (block_counts (take used weights) number) (i / 64) 0 - 1) inside less bin
            (omega (arith, t_is, known.same, known.total_is)) refl)
            none_of_zero
            (list_is ∙ ap (λ c. set (kept_at trees number).list (i / 64) (get_or c (i / 64) 0 - 1)) known.counts_are)
            room_is);
      };
    }

-- after a propensity is written over one that is 0
pub put_in : (weights : List ℕ) (used total : ℕ) (bytes totals : List ℕ) (trees : List Kept) (i p byte number t : ℕ) (tree : Kept)
    → IsGrouped weights used total bytes totals trees
    → i < length (take used weights)
    → get_or (take used weights) i 0 ≡ 0
    → p ≤ 2 ^ 35
    → IsBinOf byte p
    → number < 36
    → number ≡ byte
    → t ≡ get_or totals number 0 + p
    → tree.list ≡ set (kept_at trees number).list (i / 64) (get_or (kept_at trees number).list (i / 64) 0 + 1)
    → tree.room ≡ (kept_at trees number).room
    → IsGrouped (set weights i p) used (total + p) (set bytes i byte) (set totals number t) (set trees number tree)
put_in weights used total bytes totals trees i p byte number t tree grouped inside empty small bin less same t_is list_is room_is =
    let known : IsPlaced weights used total bytes totals trees i number = placed weights used total bytes totals trees i number grouped inside less in
    let was : 0 ≡ get_or weights i 0 = sym empty ∙ known.same in
    let none : total - 0 + p ≡ total + p = omega arith in
    record {
      kept = rw none at (kept_set weights used total i p 0 grouped.kept known.in_used small was);
      counted = rw (take-set-lt used weights i p known.in_used, length-set weights i p)
          (counted_set (take used weights) (length weights) bytes totals trees i p byte number t (get_or (block_counts (take used weights) number) (i / 64) 0 + 1) tree
          grouped.counted (omega (arith, length-take-le used weights grouped.kept.within, grouped.kept.within))
          (move_in (take used weights) i p number t (get_or (block_counts (take used weights) number) (i / 64) 0 + 1) inside less empty (rw same bin)
          (omega (arith, t_is, known.total_is)) refl)
          bin
          (list_is ∙ ap (λ c. set (kept_at trees number).list (i / 64) (get_or c (i / 64) 0 + 1)) known.counts_are)
          room_is);
    }

-- the bytes, totals and trees that are read
pub byte_read : (weights : List ℕ) (used total : ℕ) (bytes totals : List ℕ) (trees : List Kept) (place byte : ℕ)
    → IsGrouped weights used total bytes totals trees
    → place < length (take used weights)
    → byte ≡ get_or bytes place byte
    → byte ≡ get_or bytes place 0
byte_read weights used total bytes totals trees place byte grouped inside read =
    let long : length (take used weights) ≡ used = length-take-le used weights grouped.kept.within in
    read ∙ get_or_default bytes place byte 0 (omega (arith, grouped.counted.bytes_long, grouped.kept.within))

pub weight_read : (weights : List ℕ) (used total : ℕ) (bytes totals : List ℕ) (trees : List Kept) (place weight : ℕ)
    → IsGrouped weights used total bytes totals trees
    → place < length (take used weights)
    → weight ≡ get_or weights place weight
    → weight ≡ get_or weights place 0
weight_read weights used total bytes totals trees place weight grouped inside read =
    let long : length (take used weights) ≡ used = length-take-le used weights grouped.kept.within in
    read ∙ get_or_default weights place weight 0 (omega (arith, grouped.kept.within))

pub total_read : (weights : List ℕ) (used total : ℕ) (bytes totals : List ℕ) (trees : List Kept) (bin t : ℕ)
    → IsGrouped weights used total bytes totals trees
    → bin < 36
    → t ≡ get_or totals bin t
    → t ≡ get_or totals bin 0
total_read weights used total bytes totals trees bin t grouped less read = read ∙ get_or_default totals bin t 0 (omega (arith, grouped.counted.totals_long))

pub tree_read : (weights : List ℕ) (used total : ℕ) (bytes totals : List ℕ) (trees : List Kept) (bin : ℕ) (tree : Kept)
    → IsGrouped weights used total bytes totals trees
    → bin < 36
    → tree ≡ get_or trees bin tree
    → tree ≡ kept_at trees bin
tree_read weights used total bytes totals trees bin tree grouped less read = read ∙ get_or_default trees bin tree (record { list = []; room = 0 }) (omega (arith, grouped.counted.trees_long))

-- the list of a group, and the bin of each place
pub list_long : (weights : List ℕ) (used total : ℕ) (bytes totals : List ℕ) (trees : List Kept) (kept : Kept)
    → IsGrouped weights used total bytes totals trees
    → kept_of weights used ≡ kept
    → length kept.list ≡ used
list_long weights used total bytes totals trees kept grouped is = ap (λ k. length k.list) (sym is) ∙ length-take-le used weights grouped.kept.within

pub byte_is : (weights : List ℕ) (used total : ℕ) (bytes totals : List ℕ) (trees : List Kept) (kept : Kept) (place byte : ℕ)
    → IsGrouped weights used total bytes totals trees
    → kept_of weights used ≡ kept
    → place < length kept.list
    → byte ≡ get_or bytes place byte
    → IsBinOf byte (get_or kept.list place 0)
byte_is weights used total bytes totals trees kept place byte grouped is inside read =
    let inside_front : place < length (take used weights) = rw (← is) at inside in
    let at_zero : byte ≡ get_or bytes place 0 = byte_read weights used total bytes totals trees place byte grouped inside_front read in
    rw (at_zero, ← is) (grouped.counted.bytes_are place inside_front)

pub tree_counts : (weights : List ℕ) (used total : ℕ) (bytes totals : List ℕ) (trees : List Kept) (kept : Kept) (bin number : ℕ) (tree : Kept)
    → IsGrouped weights used total bytes totals trees
    → kept_of weights used ≡ kept
    → bin < 36
    → number ≡ bin
    → tree ≡ get_or trees number tree
    → tree.list ≡ block_counts kept.list bin
tree_counts weights used total bytes totals trees kept bin number tree grouped is less same read =
    let inside : number < 36 = omega arith in
    let of_number : (kept_at trees number).list ≡ block_counts (take used weights) number = ap (λ k. k.list) (grouped.counted.trees_are number inside) in
    ap (λ k. k.list) (tree_read weights used total bytes totals trees number tree grouped inside read)
    ∙ of_number ∙ ap (λ k. block_counts k.list number) is ∙ ap (block_counts kept.list) same

pub place_read : (weights : List ℕ) (used total : ℕ) (bytes totals : List ℕ) (trees : List Kept) (kept : Kept) (place weight : ℕ)
    → IsGrouped weights used total bytes totals trees
    → kept_of weights used ≡ kept
    → place < length kept.list
    → weight ≡ get_or weights place weight
    → weight ≡ get_or kept.list place 0
place_read weights used total bytes totals trees kept place weight grouped is inside read =
    let inside_front : place < length (take used weights) = rw (← is) at inside in
    let long : length kept.list ≡ used = list_long weights used total bytes totals trees kept grouped is in
    weight_read weights used total bytes totals trees place weight grouped inside_front read
    ∙ sym (get_or-take used weights place 0 (omega arith))
    ∙ ap (λ k. get_or k.list place 0) is

-- the totals that are kept name the bin that the totals of the list name
pub record IsTotaled (list : List ℕ) (totals : List ℕ) (total : ℕ) : Type 0 where
  pub all : sum totals ≡ sum list
  pub total_is : total ≡ sum list
  pub same : (target : ℕ) → named (slice_index totals) target bins ≡ named (bin_total list) target bins

pub totaled : (weights : List ℕ) (used total : ℕ) (bytes totals : List ℕ) (trees : List Kept) (kept : Kept) (read : List ℕ)
    → IsGrouped weights used total bytes totals trees
    → kept_of weights used ≡ kept
    → read ≡ totals
    → IsTotaled kept.list read total
totaled weights used total bytes totals trees kept read grouped is read_is = rw (← is, read_is) (record {
  all = totals_sum (take used weights) (length weights) bytes totals trees grouped.counted grouped.kept.small;
  total_is = grouped.kept.total_is;
  same = λ target. named_same (slice_index totals) (bin_total (take used weights)) target grouped.counted.totals_are;
})

-- the choice from a bin that is named
pub chosen_from : (list : List ℕ) (stream total target after bin : ℕ) (choice : Choice)
    → total ≡ sum list
    → target ≡ below_two_of total (next_state stream) after
    → after ≡ two_draws stream
    → named (bin_total list) target bins ≡ Some bin
    → choice_of list (taken_of list bin after) ≡ choice
    → bin_choice list stream ≡ Some choice
chosen_from list stream total target after bin choice total_is target_is after_is named_is choice_is =
    let chooses : ℕ → Choice = λ b. choice_of list (taken_of list b (two_draws stream)) in
    let of_rule : target ≡ target_of list stream = target_is ∙ ap (λ n. below_two_of n (next_state stream) after) total_is ∙ ap (below_two_of (sum list) (next_state stream)) after_is in
    ap (λ t. option_map chooses (named (bin_total list) t bins)) (sym of_rule) ∙ ap (option_map chooses) named_is
    ∙ ap (λ s. Some (choice_of list (taken_of list bin s))) (sym after_is) ∙ ap Some choice_is

-- a bin that is named has members
pub named_members : (list : List ℕ) (target bin : ℕ) → named (bin_total list) target bins ≡ Some bin → 0 < length (members list bin)
named_members list target bin named_is =
    members_there list bin (named_some (bin_total list) 0 target bins bin (omega arith) (bins_start (bin_total list) target ∙ named_is))
