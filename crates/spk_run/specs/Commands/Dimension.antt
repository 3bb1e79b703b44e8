-- `dimension`: how many dimensions the lattice is to use. It and `lattice` come in any order, and must agree.
use Rattle.std.specs.Prelude.{ℕ, ◌==◌, Bool, false, not, Option}
use Rattle.std.specs.Option.{option_map_or}
use Rattle.spk_num.specs.declared.style.Style.{Style}
use Rattle.spk_lattice.specs.Layout.{dimensions_of}
use Rattle.spk_run.specs.declared.cause.Cause.{Cause}
use Rattle.spk_run.specs.declared.cause.Cause.TheVariants.{WrongDimension}
use Rattle.spk_run.specs.declared.state.LatticeStyle.{LatticeStyle}
use Rattle.spk_run.specs.declared.state.SessionState.{SessionState}
use Rattle.spk_run.specs.States.{if_so}

-- a number of dimensions is not that of a style
abbrev pub disagrees : ℕ → Style → Bool
disagrees dimensions style = not (dimensions == dimensions_of style)

abbrev pub dimension_cause : SessionState → ℕ → Option Cause
dimension_cause state dimensions = if_so (option_map_or (λ (lattice : LatticeStyle). disagrees dimensions lattice.style) state.lattice false) WrongDimension
