-- What a group keeps beside its list: the bin of each propensity, the totals of the bins, and how many members of each bin there
-- are in each block of 64 places.
use Rattle.std.specs.Prelude.{◌≡◌, ℕ, ◌+◌, ◌*◌, ◌/◌, ◌<◌, ◌≤◌, ◌==◌, List, [], length, map, take, slice_index, slice_index_or, count_by}
use Rattle.std.specs.List.{range_with_len}
use Rattle.spk_solve.specs.Bins.{in_bin, bin_total}
use Rattle.spk_solve.specs.Kept.{Kept, IsKept}

-- the number of the bin of a propensity, or 36 where it is in none
pub record IsBinOf (number p : ℕ) : Type 0 where
  pub most : number ≤ 36
  pub same : (bin : ℕ) → bin < 36 → in_bin bin p ≡ (number == bin)
  pub none : number ≡ 36 → p ≡ 0

-- how many blocks of 64 places so many places have
abbrev pub blocks_of : ℕ → ℕ
blocks_of n = (n + 63) / 64

-- how many of so many places, from one on, are in a bin
unfoldable pub count_in : List ℕ → ℕ → ℕ → ℕ → ℕ
count_in list bin from n = count_by (λ place. in_bin bin (slice_index list place)) (range_with_len from n)

-- how many places of each block are in a bin
unfoldable pub block_counts : List ℕ → ℕ → List ℕ
block_counts list bin = map (λ block. count_in list bin (64 * block) 64) (range_with_len 0 (blocks_of (length list)))

-- the tree of a bin, as its list and its room
abbrev pub kept_at : List Kept → ℕ → Kept
kept_at trees bin = slice_index_or trees bin (record { list = []; room = 0 })

-- bytes, totals and trees that are those of a list, with so much room
pub record IsCounted (list : List ℕ) (room : ℕ) (bytes totals : List ℕ) (trees : List Kept) : Type 0 where
  pub bytes_long : length bytes ≡ room
  pub bytes_are : (place : ℕ) → place < length list → IsBinOf (slice_index bytes place) (slice_index list place)
  pub totals_long : length totals ≡ 36
  pub totals_are : (bin : ℕ) → bin < 36 → slice_index totals bin ≡ bin_total list bin
  pub trees_long : length trees ≡ 36
  pub trees_are : (bin : ℕ) → bin < 36 → kept_at trees bin ≡ record { list = block_counts list bin; room = blocks_of room }

-- a kept list, with all that is counted of it
pub record IsGrouped (weights : List ℕ) (used total : ℕ) (bytes totals : List ℕ) (trees : List Kept) : Type 0 where
  pub kept : IsKept weights used total
  pub counted : IsCounted (take used weights) (length weights) bytes totals trees
