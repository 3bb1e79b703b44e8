-- `region`: a shape with a name.
use Rattle.std.specs.Prelude.{ℕ, List, Option, Result, Ok, Err}
use Rattle.std.specs.Option.{option_and_then}
use Rattle.spk_num.specs.declared.shape.Shape.{Shape}
use Rattle.spk_lattice.specs.declared.regions.fault.RegionFault.{RegionFault}
use Rattle.spk_lattice.specs.declared.regions.fault.RegionFault.TheVariants.{Memory}
use Rattle.spk_lattice.specs.declared.regions.region.NamedShape.{NamedShape}
use Rattle.spk_lattice.specs.Regions.{fault_of, added}
use Rattle.spk_run.specs.declared.cause.Cause.{Cause}
use Rattle.spk_run.specs.declared.state.SessionState.{SessionState}
use Rattle.spk_run.specs.Causes.{shape_cause}

abbrev pub region_cause : SessionState → List ℕ → Shape → Option Cause
region_cause state name shape = option_and_then (shape_cause name) (fault_of state.regions name shape)

abbrev pub with_regions : SessionState → Result (List NamedShape) RegionFault → SessionState
with_regions state (Ok regions) = record state { regions = regions }
with_regions state (Err fault) = state

abbrev pub with_region : SessionState → List ℕ → Shape → SessionState
with_region state name shape = with_regions state (added state.regions name shape)

-- what adding a region came to, other than out of memory
abbrev pub IsNoMemory : Result (Unit {0}) RegionFault → Type 0
IsNoMemory (Err Memory) = ⊥
IsNoMemory added = Unit {0}
