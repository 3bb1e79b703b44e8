-- `lattice`: how the sites of a box lie.
use Rattle.std.specs.Prelude.{false, [], ◌∷◌, Option}
use Rattle.std.specs.Option.{option_map_or}
use Rattle.spk_num.specs.declared.style.Style.{Style}
use Rattle.spk_run.specs.declared.cause.Cause.{Cause}
use Rattle.spk_run.specs.declared.cause.Cause.TheVariants.{WrongDimension}
use Rattle.spk_run.specs.declared.state.SessionState.{SessionState}
use Rattle.spk_run.specs.States.{first_of, if_so, already}
use Rattle.spk_run.specs.Commands.Dimension.{disagrees}

abbrev pub style_cause : SessionState → Style → Option Cause
style_cause state style = first_of (
    already state.lattice
    ∷ if_so (option_map_or (λ dimensions. disagrees dimensions style) state.dimension false) WrongDimension
    ∷ [])
