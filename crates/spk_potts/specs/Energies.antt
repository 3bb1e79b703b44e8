-- Energies of sites, and the weights of changes of a site's value.
use Rattle.std.specs.Prelude.{ℕ, List, slice_index, not, ◌==◌, count_by}
use Rattle.spk_app.specs.Sights.{Sight, values_near}
use Rattle.spk_app.specs.Weights.{weight_between}

-- how many of these values differ from a site's own
abbrev pub unlike : ℕ → List ℕ → ℕ
unlike own near = count_by (λ v. not (v == own)) near

-- a site's energy: how many of its neighbours have another value
abbrev pub energy_of : Sight → ℕ → ℕ
energy_of s i = unlike (slice_index s.values i) (values_near s i)

-- the weight of taking a value, at a temperature in millionths, where the site has its own and its neighbours have these
abbrev pub weight_to : ℕ → ℕ → ℕ → List ℕ → ℕ
weight_to temperature own value near = weight_between temperature (unlike own near) (unlike value near)
