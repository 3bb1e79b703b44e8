-- The energies of all sites together, and how the energy of a site is counted in snapshots.
use Rattle.std.specs.Prelude.{ℕ, length, map}
use Rattle.std.specs.List.{range_with_len, sum_by}
use Rattle.spk_app.specs.Applications.{Application}
use Rattle.spk_app.specs.Sights.{Sight}
use Rattle.spk_sched.specs.declared.energy_kind.EnergyKind.{EnergyKind}
use Rattle.spk_sched.specs.declared.energy_kind.EnergyKind.TheVariants.{Unlike, Zero, Vacant}
use Rattle.spk_cmds.specs.declared.command.AppStyle.{AppStyle}
use Rattle.spk_cmds.specs.declared.command.AppStyle.TheVariants.{DiffusionOff, DiffusionLinear}

-- the energies of the first so many sites
abbrev pub energy_of_first : Application → Sight → ℕ → ℕ
energy_of_first application sight count = sum_by (λ energy. energy) (map (application.energy sight) (range_with_len 0 count))

abbrev pub energy_of_all : Application → Sight → ℕ
energy_of_all application sight = energy_of_first application sight (length sight.values)

-- the neighbours that the energy of a site counts
abbrev pub energy_kind : AppStyle → EnergyKind
energy_kind DiffusionOff = Zero
energy_kind DiffusionLinear = Vacant
energy_kind other = Unlike
