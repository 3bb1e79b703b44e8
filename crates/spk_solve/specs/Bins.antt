-- How a place is chosen by bins: first a bin, then a place in it, by tries. The idea is SPPARKS's, the draws are our own.
use Rattle.std.specs.Prelude.{ℕ, zero, suc, ◌+◌, ◌^◌, nat_le, nat_lt, if◌then◌else◌, Bool, ◌&&◌, List, length, slice_index, sum_by}
use Rattle.std.specs.List.{filter, range_with_len}
use Rattle.spk_num.specs.Draws.{next_state, below_of}

-- the bins by their numbers
unfoldable pub bins : List ℕ
bins = range_with_len 0 36

-- whether a bin has a propensity
abbrev pub in_bin : ℕ → ℕ → Bool
in_bin bin p = nat_le (2 ^ bin) p && nat_lt p (2 ^ (bin + 1))

-- the places of a bin, in order
abbrev pub members : List ℕ → ℕ → List ℕ
members weights bin = filter (λ place. in_bin bin (slice_index weights place)) (range_with_len 0 (length weights))

-- the total of a bin
abbrev pub bin_total : List ℕ → ℕ → ℕ
bin_total weights bin = sum_by (slice_index weights) (members weights bin)

-- what a try draws: a place, a value, and the stream after both
pub record Try : Type 0 where
  pub place : ℕ
  pub value : ℕ
  pub stream : ℕ

-- a member of a bin by one draw, and a value below the bin's end by the next
abbrev pub try_of : List ℕ → ℕ → ℕ → Try
try_of weights bin stream =
    let first = next_state stream in
    let second = next_state first in
    record {
      place = slice_index (members weights bin) (below_of (length (members weights bin)) first);
      value = below_of (2 ^ (bin + 1)) second;
      stream = second;
    }

-- the try that is taken: this one, or one of so many more
unfoldable pub taken : List ℕ → ℕ → ℕ → Try → Try
taken weights bin zero try = try
taken weights bin (suc more) try =
    if nat_lt try.value (slice_index weights try.place) then try else taken weights bin more (try_of weights bin try.stream)

-- the try that is taken of 64
abbrev pub taken_of : List ℕ → ℕ → ℕ → Try
taken_of weights bin stream = taken weights bin 63 (try_of weights bin stream)
