-- What ranks hand in for a text: the values of each rank's box.
use Rattle.std.specs.Prelude.{◌≡◌, ℕ, ◌<◌, List, [], length, map, slice_index, slice_index_or}
use Rattle.spk_lattice.specs.Layout.{sites_of}
use Rattle.spk_lattice.specs.Boxes.{layout_of, places_of}
use Rattle.spk_sched.specs.Decompositions.{Decomposition, Triple, rank_box, rank_count}
use Rattle.spk_sched.specs.declared.letter.Letter.{Letter}

abbrev pub one_rank : Triple
one_rank = record { x = 1; y = 1; z = 1 }

abbrev pub values_by_rank : List Letter → List (List ℕ)
values_by_rank pieces = map (λ piece. piece.values.items) pieces

abbrev pub piece_of : List Letter → ℕ → List ℕ
piece_of pieces rank = slice_index_or (values_by_rank pieces) rank []

-- one piece for each rank, with as many values as its box has sites
pub record ArePieces (boxes : Decomposition) (pieces : List Letter) : Type 0 where
  pub all : length pieces ≡ rank_count boxes.grid.ranks
  pub each : (rank : ℕ) → rank < rank_count boxes.grid.ranks →
      length (piece_of pieces rank) ≡ sites_of (layout_of boxes.grid.lattice (rank_box boxes rank))

-- these values of all sites, in the order of ids, are those of the pieces
pub record AreValuesOf (boxes : Decomposition) (pieces : List Letter) (values : List ℕ) : Type 0 where
  pub all : length values ≡ sites_of boxes.grid.lattice
  pub each : (rank : ℕ) → rank < rank_count boxes.grid.ranks →
      piece_of pieces rank ≡ map (slice_index values) (places_of boxes.grid.lattice (rank_box boxes rank))
