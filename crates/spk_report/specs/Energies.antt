-- The energy of a site, by the kind of energy of its application.
use Rattle.std.specs.Prelude.{ℕ, ◌-◌, Bool, false, ◌&&◌, not, ◌==◌, List, count_by, slice_index}
use Rattle.spk_lattice.specs.Layout.{Layout}
use Rattle.spk_lattice.specs.Neighbours.{nb}
use Rattle.spk_sched.specs.declared.energy_kind.EnergyKind.{EnergyKind}
use Rattle.spk_sched.specs.declared.energy_kind.EnergyKind.TheVariants.{Unlike, Zero, Vacant}

-- a site with its own value counts a neighbour with this value: one with another value, or a vacant one beside an atom
abbrev pub is_counted : EnergyKind → ℕ → ℕ → Bool
is_counted Unlike own value = not (value == own)
is_counted Zero own value = false
is_counted Vacant own value = (own == 2) && (value == 1)

-- the value of the site with an id, where those of all sites stand in the order of ids
abbrev pub value_of : List ℕ → ℕ → ℕ
value_of values id = slice_index values (id - 1)

-- its energy: how many of its neighbours count
abbrev pub site_energy : EnergyKind → Layout → List ℕ → ℕ → ℕ
site_energy kind lattice values id = count_by (λ neighbour. is_counted kind (value_of values id) (value_of values neighbour)) (nb lattice id)
