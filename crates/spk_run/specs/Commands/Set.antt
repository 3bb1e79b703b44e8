-- `set`: values for the sites, given or drawn. Each command draws from a stream of its own.
use Rattle.std.specs.Prelude.{ℕ, ◌+◌, ◌%◌, ◌^◌, Bool, true, false, not, if◌then◌else◌, List, [], ◌∷◌, Option, Some, None, is_some}
use Rattle.std.specs.Option.{option_map, option_and_then, unwrap_or}
use Rattle.spk_num.specs.Draws.{start_state}
use Rattle.spk_num.specs.declared.decimal.Dec.{Dec}
use Rattle.spk_lattice.specs.Layout.{Layout}
use Rattle.spk_lattice.specs.Neighbours.{point_of, coordinates}
use Rattle.spk_lattice.specs.Regions.{place_of, holds}
use Rattle.spk_lattice.specs.declared.regions.region.NamedShape.{NamedShape}
use Rattle.spk_cmds.specs.declared.command.SetValue.{SetValue}
use Rattle.spk_run.specs.declared.cause.Cause.{Cause}
use Rattle.spk_run.specs.declared.cause.Cause.TheVariants.{NoSites, NoSuchRegion}
use Rattle.spk_run.specs.declared.domain.Domain.{Domain}
use Rattle.spk_run.specs.declared.state.SessionState.{SessionState}
use Rattle.spk_run.specs.Drawing.{values_from}
use Rattle.spk_run.specs.States.{first_of, if_so, has_sites, are_made}

-- no region has the name
abbrev pub missing_region : List NamedShape → List ℕ → Option Cause
missing_region regions name = if_so (not (is_some (place_of regions name))) (NoSuchRegion name)

abbrev pub set_cause : SessionState → Option (List ℕ) → Option Cause
set_cause state region = first_of (if_so (not (are_made state.domain)) NoSites ∷ option_and_then (missing_region state.regions) region ∷ [])

-- whether a site lies in a region, where one is named
abbrev pub is_in : List NamedShape → Layout → Option (List ℕ) → ℕ → Bool
is_in regions layout None id = true
is_in regions layout (Some name) id = unwrap_or (holds regions name (coordinates (point_of layout id))) false

-- how many `set` commands there were since the last seed, modulo 2^32, this one included
abbrev pub next_set : SessionState → ℕ
next_set state = (state.sets + 1) % 2 ^ 32

-- the values of a box after that, where its sites are made
abbrev pub values_set : List NamedShape → Domain → SetValue → Option Dec → Option (List ℕ) → ℕ → List ℕ
values_set regions domain asked fraction region stream =
    if has_sites domain then values_from asked fraction (is_in regions domain.lattice region) 1 domain.values stream else domain.values

abbrev pub domain_with_values : SessionState → SetValue → Option Dec → Option (List ℕ) → ℕ → Domain → Domain
domain_with_values state asked fraction region seed domain = record domain {
  values = values_set state.regions domain asked fraction region (start_state seed (4096 + next_set state));
}

abbrev pub with_set_by : SessionState → SetValue → Option Dec → Option (List ℕ) → Option ℕ → SessionState
with_set_by state asked fraction region None = state
with_set_by state asked fraction region (Some seed) = record state {
  sets = next_set state;
  domain = option_map (domain_with_values state asked fraction region seed) state.domain;
}

abbrev pub with_set : SessionState → SetValue → Option Dec → Option (List ℕ) → SessionState
with_set state asked fraction region = with_set_by state asked fraction region state.seed
