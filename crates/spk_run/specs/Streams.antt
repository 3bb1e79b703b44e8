-- The streams of the ranks, which are our own rule.
use Rattle.std.specs.Prelude.{ℕ, ◌+◌, ◌*◌, ◌/◌, ◌%◌, List, map}
use Rattle.std.specs.List.{range_with_len}
use Rattle.spk_num.specs.Draws.{start_state}

-- so many streams, by rank and then by sector: that of rank r and sector c has the number 8 r + c
unfoldable pub streams_of : ℕ → ℕ → ℕ → List ℕ
streams_of seed sectors count = map (λ place. start_state seed (8 * (place / sectors) + place % sectors)) (range_with_len 0 count)
