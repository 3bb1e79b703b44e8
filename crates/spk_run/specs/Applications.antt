-- The application of a session: its style, on a lattice and at a temperature.
use Rattle.std.specs.Prelude.{◌↔◌, ℕ, Bool, IsTrue, true, false}
use Rattle.spk_num.specs.declared.style.Style.{Style}
use Rattle.spk_app.specs.Applications.{Application}
use Rattle.spk_potts.specs.Ising.{ising}
use Rattle.spk_potts.specs.Potts.{potts}
use Rattle.spk_diffusion.specs.Diffusion.{diffusion}
use Rattle.spk_cmds.specs.declared.command.AppStyle.{AppStyle}
use Rattle.spk_cmds.specs.declared.command.AppStyle.TheVariants as style
use Rattle.spk_cmds.specs.WellFormed.{IsFromTo}
use Rattle.spk_run.specs.declared.application.AnyApplication.{AnyApplication}
use Rattle.spk_run.specs.declared.application.AnyApplication.TheVariants as any

-- the rules of a style, on a lattice of some style at a temperature in millionths
abbrev pub application_of : AppStyle → Style → ℕ → Application
application_of style.Ising lattice temperature = ising (record { single = false; style = lattice; temperature = temperature })
application_of style.IsingSingle lattice temperature = ising (record { single = true; style = lattice; temperature = temperature })
application_of (style.Potts q) lattice temperature = potts (record { q = q; neighonly = false; style = lattice; temperature = temperature })
application_of (style.PottsNeighonly q) lattice temperature = potts (record { q = q; neighonly = true; style = lattice; temperature = temperature })
application_of style.DiffusionOff lattice temperature = diffusion (record { linear = false; style = lattice; temperature = temperature })
application_of style.DiffusionLinear lattice temperature = diffusion (record { linear = true; style = lattice; temperature = temperature })

-- the styles of which sites can be tried in sweeps
abbrev pub has_sweep : AppStyle → Bool
has_sweep style.DiffusionOff = false
has_sweep style.DiffusionLinear = false
has_sweep other = true

-- the greatest value of a style; the least is 1
abbrev pub largest_value : AppStyle → ℕ
largest_value (style.Potts q) = q
largest_value (style.PottsNeighonly q) = q
largest_value other = 2

-- a site may have exactly the values from 1 to this one, whatever the lattice and the temperature are
abbrev pub HasLargestValue : AppStyle → ℕ → Type 0
HasLargestValue asked largest =
    (lattice : Style) (temperature value : ℕ) → IsTrue ((application_of asked lattice temperature).is_valid value) ↔ IsFromTo 1 largest value

-- the rules that an application follows
abbrev pub rules_of : AnyApplication → Application
rules_of (any.Ising settings) = ising settings
rules_of (any.Potts settings) = potts settings
rules_of (any.Diffusion settings) = diffusion settings

-- an application has trials
abbrev pub has_trials : AnyApplication → Bool
has_trials (any.Ising settings) = true
has_trials (any.Potts settings) = true
has_trials (any.Diffusion settings) = false
