-- The only piece of one rank has the values of all sites.
use Rattle.std.proofs.Common.{◌≡◌, ℕ, ◌+◌, ◌*◌, ◌<◌, List, [], ◌∷◌, length, map, slice_index, get_or, ap, sym, subst, ◌∙◌, arith}
use Rattle.std.proofs.lemmas.List.{ext_get_or, get_or-map}
use Rattle.std.proofs.lemmas.List.FromFn.{get_or-map-range_with_len, length-map-range_with_len}
use Rattle.std.specs.List.{range_with_len}
use Rattle.spk_lattice.specs.Layout.{IsLattice, sites_of}
use Rattle.spk_lattice.specs.Boxes.{layout_of, places_of, whole_box}
use Rattle.spk_lattice.proofs.Boxes.{whole_layout, whole_places}
use Rattle.spk_sched.specs.Decompositions.{Decomposition, Triple, rank_box, rank_count}
use Rattle.spk_sched.proofs.OneRank.{one_rank_box}
use Rattle.spk_sched.specs.declared.letter.Letter.{Letter}
use Rattle.spk_report.specs.Pieces.{ArePieces, AreValuesOf, one_rank, piece_of}

-- the values at all places are the values
all_values : (values : List ℕ) (n : ℕ) → length values ≡ n → map (slice_index values) (range_with_len 0 n) ≡ values
all_values values n all =
    ext_get_or 0 (map (slice_index values) (range_with_len 0 n)) values (length-map-range_with_len (slice_index values) 0 n ∙ sym all)
    (λ i less. get_or-map-range_with_len (slice_index values) 0 n i i 0 (omega (arith, less, length-map-range_with_len (slice_index values) 0 n)) (let e : 0 + i ≡ i = omega arith in e))

-- one rank has all cells
one_box : (boxes : Decomposition) → boxes.grid.ranks ≡ one_rank → rank_box boxes 0 ≡ whole_box boxes.grid.lattice
one_box boxes one =
    ap (λ (ranks : Triple). rank_box (record { grid = record { lattice = boxes.grid.lattice; ranks = ranks }; halved = boxes.halved }) 0) one
    ∙ one_rank_box boxes.grid.lattice

pub one_exists : (boxes : Decomposition) → boxes.grid.ranks ≡ one_rank → 0 < boxes.grid.ranks.x * boxes.grid.ranks.y * boxes.grid.ranks.z
one_exists boxes one = subst (λ (ranks : Triple). 0 < ranks.x * ranks.y * ranks.z) (sym one) (omega arith)

pub piece_all : (boxes : Decomposition) (pieces : List Letter) → boxes.grid.ranks ≡ one_rank → ArePieces boxes pieces →
    length (piece_of pieces 0) ≡ sites_of boxes.grid.lattice
piece_all boxes pieces one are =
    are.each 0 (one_exists boxes one) ∙ ap (λ b. sites_of (layout_of boxes.grid.lattice b)) (one_box boxes one) ∙ ap sites_of (whole_layout boxes.grid.lattice)

pub piece_values : (boxes : Decomposition) (pieces : List Letter) (values : List ℕ) → IsLattice boxes.grid.lattice → boxes.grid.ranks ≡ one_rank →
    AreValuesOf boxes pieces values → piece_of pieces 0 ≡ values
piece_values boxes pieces values is one are =
    are.each 0 (one_exists boxes one)
    ∙ ap (λ b. map (slice_index values) (places_of boxes.grid.lattice b)) (one_box boxes one)
    ∙ ap (map (slice_index values)) (whole_places boxes.grid.lattice is)
    ∙ all_values values (sites_of boxes.grid.lattice) are.all

only_rank : (boxes : Decomposition) → boxes.grid.ranks ≡ one_rank → (rank : ℕ) → rank < rank_count boxes.grid.ranks → 0 ≡ rank
only_rank boxes one rank exists = omega (arith, subst (λ (ranks : Triple). rank < rank_count ranks) one exists)

-- the values of the only piece are those of all sites
pub piece_shows : (boxes : Decomposition) (pieces : List Letter) → IsLattice boxes.grid.lattice → boxes.grid.ranks ≡ one_rank → ArePieces boxes pieces →
    AreValuesOf boxes pieces (piece_of pieces 0)
piece_shows boxes pieces is one are = record {
  all = piece_all boxes pieces one are;
  each = λ rank exists. subst (λ r. piece_of pieces r ≡ map (slice_index (piece_of pieces 0)) (places_of boxes.grid.lattice (rank_box boxes r))) (only_rank boxes one rank exists)
      (sym (ap (λ b. map (slice_index (piece_of pieces 0)) (places_of boxes.grid.lattice b)) (one_box boxes one)
      ∙ ap (map (slice_index (piece_of pieces 0))) (whole_places boxes.grid.lattice is)
      ∙ all_values (piece_of pieces 0) (sites_of boxes.grid.lattice) (piece_all boxes pieces one are)));
}

-- the first piece, as a program finds it
pub first_piece : (pieces : List Letter) (found : Letter) → 0 < length pieces → (get_or pieces 0 found).values.items ≡ piece_of pieces 0
first_piece pieces found some = sym (get_or-map (λ (piece : Letter). piece.values.items) pieces 0 found [] some)

-- the only piece is as it must be where it has a value for each site
pub only_piece : (boxes : Decomposition) (piece : Letter) → boxes.grid.ranks ≡ one_rank → length piece.values.items ≡ sites_of boxes.grid.lattice →
    ArePieces boxes (piece ∷ [])
only_piece boxes piece one all = record {
  all = ap rank_count (sym one);
  each = λ rank exists. subst (λ r. length (piece_of (piece ∷ []) r) ≡ sites_of (layout_of boxes.grid.lattice (rank_box boxes r))) (only_rank boxes one rank exists)
      (all ∙ sym (ap (λ b. sites_of (layout_of boxes.grid.lattice b)) (one_box boxes one) ∙ ap sites_of (whole_layout boxes.grid.lattice)));
}
