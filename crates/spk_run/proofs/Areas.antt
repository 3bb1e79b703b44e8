-- The sites of an area are those of the region that its name has.
use Rattle.std.proofs.Common.{◌≡◌, ℕ, Bool, true, false, List, Option, Some, None, refl, sym, ap, subst}
use Rattle.std.specs.Option.{unwrap_or}
use Rattle.spk_lattice.specs.Layout.{Layout}
use Rattle.spk_lattice.specs.Neighbours.{point_of, coordinates}
use Rattle.spk_lattice.specs.Regions.{name_at, holds}
use Rattle.spk_lattice.specs.declared.regions.region.NamedShape.{NamedShape}
use Rattle.spk_lattice.proofs.Stored.{name_found}
use Rattle.spk_lattice.proofs.Added.{unknown_holds}
use Rattle.spk_run.specs.declared.area.Area.TheVariants as area
use Rattle.spk_run.specs.Areas.{IsArea}
use Rattle.spk_run.specs.Commands.Set.{is_in}

pub all_in : (regions : List NamedShape) (layout : Layout) (id : ℕ) (name : Option (List ℕ)) → IsArea regions name area.All → true ≡ is_in regions layout name id
all_in regions layout id None is = refl
all_in regions layout id (Some name) is = absurd is

pub none_in : (regions : List NamedShape) (layout : Layout) (id : ℕ) (name : Option (List ℕ)) → IsArea regions name area.None → false ≡ is_in regions layout name id
none_in regions layout id None is = absurd is
none_in regions layout id (Some name) is = ap (λ (held : Option Bool). unwrap_or held false) (sym (unknown_holds regions name (coordinates (point_of layout id)) is))

pub region_in : (regions : List NamedShape) (layout : Layout) (id place : ℕ) (held : Bool) (name : Option (List ℕ)) → IsArea regions name (area.Region place) →
    holds regions (name_at regions place) (coordinates (point_of layout id)) ≡ Some held → held ≡ is_in regions layout name id
region_in regions layout id place held None is holds_it = absurd is
region_in regions layout id place held (Some name) is holds_it =
    let named : name_at regions place ≡ name = name_found regions name (Some place) (sym is) in
    let same : holds regions name (coordinates (point_of layout id)) ≡ Some held = subst (λ n. holds regions n (coordinates (point_of layout id)) ≡ Some held) named holds_it in
    ap (λ (o : Option Bool). unwrap_or o false) (sym same)
