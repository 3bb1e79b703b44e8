-- A region that was added, or refused, leaves the session of its definition.
use Rattle.std.proofs.Common.{◌≡◌, ℕ, false, List, Result, Ok, Err, refl, sym, ap, ◌∙◌}
use Rattle.std.specs.Result.{IfOk, OnErr}
use Rattle.spk_num.specs.declared.shape.Shape.{Shape}
use Rattle.spk_num.specs.Results.{IsPlainOrMemory, result_with}
use Rattle.spk_num.proofs.ResultLaws.{plain_is}
use Rattle.spk_lattice.specs.declared.regions.fault.RegionFault.{RegionFault}
use Rattle.spk_lattice.specs.declared.regions.fault.RegionFault.TheVariants.{Twice, Unknown, Empty, TooManyParts, TooManyRegions, Memory}
use Rattle.spk_lattice.specs.declared.regions.region.NamedShape.{NamedShape}
use Rattle.spk_lattice.specs.Regions.{added, is_memory}
use Rattle.spk_run.specs.declared.state.SessionState.{SessionState}
use Rattle.spk_run.specs.Commands.Region.{IsNoMemory, with_regions, with_region}

-- a fault that isn't out of memory
no_memory : (fault : RegionFault) → IsNoMemory (Err fault) → is_memory fault ≡ false
no_memory Twice none = refl
no_memory (Unknown part) none = refl
no_memory Empty none = refl
no_memory TooManyParts none = refl
no_memory TooManyRegions none = refl
no_memory Memory none = absurd none

refused_by : (plain : Result (List NamedShape) RegionFault) (fault : RegionFault) → IsPlainOrMemory is_memory plain (Err fault) → is_memory fault ≡ false → plain ≡ Err fault
unfolding IsPlainOrMemory
refused_by plain fault same none = same none

pub with_added : (state : SessionState) (name : List ℕ) (shape : Shape) (regions : List NamedShape) (result : Result (Unit {0}) RegionFault) →
    IsPlainOrMemory is_memory (added state.regions name shape) (result_with regions result) → OnErr result (regions ≡ state.regions) → IsNoMemory result →
    record state { regions = regions } ≡ with_region state name shape
with_added state name shape regions (Ok _) same kept none =
    ap (with_regions state) (sym (plain_is is_memory (added state.regions name shape) regions same))
with_added state name shape regions (Err fault) same kept none =
    ap (λ (all : List NamedShape). record state { regions = all }) kept
    ∙ ap (with_regions state) (sym (refused_by (added state.regions name shape) fault same (no_memory fault none)))

pub added_by : {E : Type 0} (outcome : Result (Unit {0}) E) (state : SessionState) (name : List ℕ) (shape : Shape) (regions : List NamedShape) (result : Result (Unit {0}) RegionFault) →
    IsPlainOrMemory is_memory (added state.regions name shape) (result_with regions result) → OnErr result (regions ≡ state.regions) → IfOk outcome (λ _. IsNoMemory result) →
    IfOk outcome (λ _. record state { regions = regions } ≡ with_region state name shape)
added_by (Ok _) state name shape regions result same kept none = with_added state name shape regions result same kept none
added_by (Err error) state name shape regions result same kept none = tt
