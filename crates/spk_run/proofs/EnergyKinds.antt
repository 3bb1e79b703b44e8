-- What snapshots show as the energy of a site is its energy by the rules of its application.
use Rattle.std.proofs.Common.{◌≡◌, ℕ, suc, ◌+◌, ◌-◌, ◌≤◌, Bool, true, false, ◌&&◌, ◌==◌, not, if◌then◌else◌, List, [], ◌∷◌, map, count_by, inl, inr, refl, sym, ap, ◌∙◌, arith}
use Rattle.std.specs.Prelude.{filter, length, slice_index}
use Rattle.std.proofs.lemmas.List.Sums.{length-filter}
use Rattle.std.proofs.lemmas.Bool.{cases_Bool}
use Rattle.spk_lattice.specs.Layout.{Layout}
use Rattle.spk_lattice.specs.Neighbours.{nb}
use Rattle.spk_app.specs.PlainViews.{places_beside}
use Rattle.spk_app.specs.Sights.{Sight}
use Rattle.spk_cmds.specs.declared.command.AppStyle.{AppStyle}
use Rattle.spk_cmds.specs.declared.command.AppStyle.TheVariants.{Ising, IsingSingle, Potts, PottsNeighonly, DiffusionOff, DiffusionLinear}
use Rattle.spk_potts.specs.Energies.{energy_of as unlike_energy}
use Rattle.spk_diffusion.specs.Diffusion.{is_vacant, vacancies}
use Rattle.spk_sched.specs.declared.energy_kind.EnergyKind.TheVariants.{Unlike, Vacant}
use Rattle.spk_report.specs.Energies.{site_energy, value_of}
use Rattle.spk_run.specs.Applications.{application_of}
use Rattle.spk_run.specs.Energies.{energy_kind}

abbrev sight : Layout → List ℕ → Sight
sight lattice values = record { values = values; near = places_beside lattice }

filtered : (test : ℕ → Bool) (f : ℕ → ℕ) (xs : List ℕ) → length (filter test (map f xs)) ≡ length (filter (λ x. test (f x)) xs)
filtered test f [] = refl
filtered test f (x ∷ xs) =
    elim (cases_Bool (test (f x))) [
      | inl holds ↦ rw holds (ap suc (filtered test f xs))
      | inr fails ↦ rw fails (filtered test f xs)
    ]

counted : (test : ℕ → Bool) (f : ℕ → ℕ) (xs : List ℕ) → count_by test (map f xs) ≡ count_by (λ x. test (f x)) xs
counted test f xs = sym (length-filter test (map f xs)) ∙ filtered test f xs ∙ length-filter (λ x. test (f x)) xs

none_filtered : (xs : List ℕ) → length (filter (λ x. false) xs) ≡ 0
none_filtered [] = refl
none_filtered (x ∷ xs) = none_filtered xs

none_counted : (xs : List ℕ) → count_by (λ x. false) xs ≡ 0
none_counted xs = sym (length-filter (λ x. false) xs) ∙ none_filtered xs

-- the values beside a place, by the ids of its neighbours
beside : (test : ℕ → Bool) (lattice : Layout) (values : List ℕ) (id : ℕ) → 1 ≤ id →
    count_by test (map (slice_index values) (places_beside lattice (id - 1))) ≡ count_by (λ neighbour. test (value_of values neighbour)) (nb lattice id)
beside test lattice values id some =
    let back : id - 1 + 1 ≡ id = omega (arith, some) in
    ap (λ i. count_by test (map (slice_index values) (map (λ id. id - 1) (nb lattice i)))) back
    ∙ counted test (slice_index values) (map (λ id. id - 1) (nb lattice id)) ∙ counted (λ place. test (slice_index values place)) (λ id. id - 1) (nb lattice id)

vacant_by : (occupied : Bool) (values ids : List ℕ) →
    count_by (λ neighbour. occupied && (value_of values neighbour == 1)) ids ≡ (if occupied then count_by (λ neighbour. is_vacant (value_of values neighbour)) ids else 0)
vacant_by true values ids = refl
vacant_by false values ids = none_counted ids

shown_unlike : (lattice : Layout) (values : List ℕ) (id : ℕ) → 1 ≤ id → site_energy Unlike lattice values id ≡ unlike_energy (sight lattice values) (id - 1)
shown_unlike lattice values id some = sym (beside (λ v. not (v == value_of values id)) lattice values id some)

shown_vacant : (lattice : Layout) (values : List ℕ) (id : ℕ) → 1 ≤ id →
    site_energy Vacant lattice values id ≡ (if value_of values id == 2 then vacancies (sight lattice values) (id - 1) else 0)
shown_vacant lattice values id some =
    vacant_by (value_of values id == 2) values (nb lattice id) ∙ ap (λ n. if value_of values id == 2 then n else 0) (sym (beside is_vacant lattice values id some))

pub shown_energy : (style : AppStyle) (lattice : Layout) (temperature : ℕ) (values : List ℕ) (id : ℕ) → 1 ≤ id →
    site_energy (energy_kind style) lattice values id ≡ (application_of style lattice.style temperature).energy (sight lattice values) (id - 1)
shown_energy Ising lattice temperature values id some = shown_unlike lattice values id some
shown_energy IsingSingle lattice temperature values id some = shown_unlike lattice values id some
shown_energy (Potts q) lattice temperature values id some = shown_unlike lattice values id some
shown_energy (PottsNeighonly q) lattice temperature values id some = shown_unlike lattice values id some
shown_energy DiffusionOff lattice temperature values id some = none_counted (nb lattice id)
shown_energy DiffusionLinear lattice temperature values id some = shown_vacant lattice values id some
