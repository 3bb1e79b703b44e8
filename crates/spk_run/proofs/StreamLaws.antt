-- The first so many streams of the ranks.
use Rattle.std.proofs.Common.{◌≡◌, ℕ, ◌+◌, ◌*◌, ◌/◌, ◌%◌, List, [], ◌∷◌, ◌++◌, length, map, refl, sym, arith}
use Rattle.std.specs.List.{range_with_len}
use Rattle.std.proofs.lemmas.List.FromFn.{length-map-range_with_len, map-range_with_len_more}
use Rattle.spk_num.specs.Draws.{start_state}
use Rattle.spk_run.specs.Streams.{streams_of}

pub record FirstStreams (seed sectors : ℕ) (items : List ℕ) (count : ℕ) : Type 0 where
  pub in_order : items ≡ map (λ place. start_state seed (8 * (place / sectors) + place % sectors)) (range_with_len 0 count)

pub no_streams : (seed sectors : ℕ) → FirstStreams seed sectors [] 0
no_streams seed sectors = record { in_order = refl }

pub one_stream_more : (seed sectors : ℕ) (items : List ℕ) (count stream : ℕ) → FirstStreams seed sectors items count →
    stream ≡ start_state seed (8 * (count / sectors) + count % sectors) → FirstStreams seed sectors (items ++ stream ∷ []) (count + 1)
one_stream_more seed sectors items count stream first is = record {
  in_order = rw (first.in_order, is) (sym (map-range_with_len_more (λ place. start_state seed (8 * (place / sectors) + place % sectors)) 0 count count (omega arith)));
}

pub all_streams : (seed sectors : ℕ) (items : List ℕ) (count : ℕ) → FirstStreams seed sectors items count → items ≡ streams_of seed sectors count
unfolding streams_of
all_streams seed sectors items count first = first.in_order

pub length-streams : (seed sectors : ℕ) (items : List ℕ) (count : ℕ) → FirstStreams seed sectors items count → length items ≡ count
length-streams seed sectors items count first = rw first.in_order (length-map-range_with_len (λ place. start_state seed (8 * (place / sectors) + place % sectors)) 0 count)
