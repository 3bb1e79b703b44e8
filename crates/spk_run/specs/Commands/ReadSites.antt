-- `read_sites`: the sites have the values that a file has for them.
use Rattle.std.specs.Prelude.{ℕ, not, nat_lt, if◌then◌else◌, List, [], ◌∷◌, length, Option, Some, None, unwrap_or, Result, Ok, Err}
use Rattle.std.specs.Option.{option_map, option_map_or}
use Rattle.spk_world.specs.Effects.{Effect, ◌>>=◌, answers, loads_file}
use Rattle.spk_files.specs.SiteFiles.{Wanted, site_file}
use Rattle.spk_files.specs.declared.site_fault.SiteFault.{SiteFault}
use Rattle.spk_lattice.specs.Layout.{sites_of}
use Rattle.spk_run.specs.Applications.{largest_value}
use Rattle.spk_run.specs.Causes.{site_file_cause}
use Rattle.spk_run.specs.declared.cause.Cause.{Cause}
use Rattle.spk_run.specs.declared.cause.Cause.TheVariants.{NoApp, NoSites, FileMissing, FileTooLong, NoHeader}
use Rattle.spk_run.specs.declared.domain.Domain.{Domain}
use Rattle.spk_run.specs.declared.state.SessionState.{SessionState}
use Rattle.spk_run.specs.States.{first_of, if_so, missing, are_made}

abbrev pub read_cause : SessionState → Option Cause
read_cause state = first_of (missing state.app NoApp ∷ if_so (not (are_made state.domain)) NoSites ∷ [])

-- a box has so many sites
abbrev pub site_count : Option Domain → ℕ
site_count domain = option_map_or (λ (box : Domain). sites_of box.lattice) domain 0

-- what a file is read for: a value for each site, and none above the greatest that the application allows
abbrev pub wanted_in : SessionState → Wanted
wanted_in state = record { sites = site_count state.domain; largest = option_map_or largest_value state.app 0 }

-- the values in a file, or the cause for which it is refused; each fault that a file can have is a cause
abbrev pub values_or_cause : Result (List ℕ) SiteFault → Result (List ℕ) Cause
values_or_cause (Ok values) = Ok values
values_or_cause (Err fault) = Err (unwrap_or (site_file_cause fault) NoHeader)

-- the values of the box become those of the file, and nothing else changes
abbrev pub with_values : SessionState → List ℕ → SessionState
with_values state values = record state { domain = option_map (λ (box : Domain). record box { values = values }) state.domain }

-- what a command comes to with what the file has in it
abbrev pub with_read : SessionState → Result (List ℕ) Cause → Result SessionState Cause
with_read state (Ok values) = Ok (with_values state values)
with_read state (Err cause) = Err cause

-- and with the file that has this name, where there is one
unfoldable pub with_file : SessionState → List ℕ → Option (List ℕ) → Result SessionState Cause
with_file state name None = Err (FileMissing name)
with_file state name (Some bytes) =
    if nat_lt 134217728 (length bytes) then Err (FileTooLong name)
    else with_read state (values_or_cause (site_file (wanted_in state) bytes))

abbrev pub performs_read_sites : SessionState → List ℕ → Effect (Result SessionState Cause)
performs_read_sites state name = loads_file name >>= λ file. answers (with_file state name file)
