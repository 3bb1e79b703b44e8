-- Trials: a value is proposed to a site, and accepted or rejected.
use Rattle.std.specs.Prelude.{ℕ, ◌^◌, ◌==◌, nat_lt, if◌then◌else◌, true, false, [], ◌∷◌, slice_index}
use Rattle.spk_num.specs.Draws.{next_state, below_of}
use Rattle.spk_app.specs.Sights.{Sight, values_near}
use Rattle.spk_app.specs.Applications.{Trial}
use Rattle.spk_potts.specs.Energies.{weight_to}

-- the site keeps its value
abbrev pub rejected : ℕ → Trial
rejected stream = record { writes = []; stream = stream; changed = false }

-- the site at place i takes the value
abbrev pub accepted : ℕ → ℕ → ℕ → Trial
accepted i value stream = record { writes = record { place = i; value = value } ∷ []; stream = stream; changed = true }

-- A value of weight 1 is accepted and one of weight 0 is rejected, without a draw. Else a draw below 2^30 decides.
abbrev pub judged : ℕ → ℕ → ℕ → ℕ → Trial
judged i value weight stream =
    if weight == 2 ^ 30 then accepted i value stream
    else (if weight == 0 then rejected stream
    else (if nat_lt (below_of (2 ^ 30) (next_state stream)) weight then accepted i value (next_state stream)
    else rejected (next_state stream)))

-- A value is proposed to the site at place i, at a temperature in millionths. The site's own value is rejected.
abbrev pub proposed : ℕ → Sight → ℕ → ℕ → ℕ → Trial
proposed temperature s i value stream =
    let own = slice_index s.values i in
    if value == own then rejected stream else judged i value (weight_to temperature own value (values_near s i)) stream
