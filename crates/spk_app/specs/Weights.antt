-- The weights of events by the energies before and after them.
use Rattle.std.specs.Prelude.{ℕ, List, map, pos, ◌-ℤ◌}
use Rattle.std.specs.List.{range_with_len}
use Rattle.spk_num.specs.Weights.{weight_of}

-- the weight of an event that takes a site from one energy to another, at a temperature in millionths
abbrev pub weight_between : ℕ → ℕ → ℕ → ℕ
weight_between temperature before after = weight_of (pos after -ℤ pos before) temperature

-- the weights of the rises of the energy from 0 to 26
unfoldable pub rising_weights : ℕ → List ℕ
rising_weights temperature = map (λ rise. weight_of (pos rise) temperature) (range_with_len 0 27)
