-- `print`: a line for the screen and the log.
use Rattle.std.specs.Prelude.{ℕ, List, [], ◌∷◌, ◌++◌, Result, Ok}
use Rattle.spk_world.specs.Effects.{Effect, ◌>>◌, answers}
use Rattle.spk_run.specs.declared.cause.Cause.{Cause}
use Rattle.spk_run.specs.declared.state.SessionState.{SessionState}
use Rattle.spk_report.specs.Output.{prints}

abbrev pub performs_print : SessionState → List ℕ → Effect (Result SessionState Cause)
performs_print state text = prints state.log (text ++ 10 ∷ []) >> answers (Ok state)
