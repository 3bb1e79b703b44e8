-- A buffer before a file: what was put into it goes to the file sooner or later, in the order in which it was put.
use Rattle.std.specs.Prelude.{ℕ, List, ◌++◌, Result, Ok, Err}
use Rattle.spk_world.specs.Outside.{adds}
use Rattle.spk_world.specs.States.{WorldState}
use Rattle.spk_world.specs.declared.world.Failed.{Failed}
use Rattle.spk_world.specs.Effects.{Effect, Wrote, writes}
use Rattle.spk_world.proofs.Loops.{GoesOn}
use Rattle.spk_report.specs.Output.{failed_stop}

-- who adds this text to a file from now on has carried out the whole from the start
abbrev pub GoesOnWith : List ℕ → WorldState → WorldState → Effect (Unit {0}) → List ℕ → Type 0
GoesOnWith file start now whole text = GoesOn (failed_stop file) start now whole (writes (adds file text))

abbrev pub GoesOnOrFailed : List ℕ → WorldState → WorldState → Effect (Unit {0}) → List ℕ → Result (Unit {0}) Failed → Type 0
GoesOnOrFailed file start now whole text (Ok _) = GoesOnWith file start now whole text
GoesOnOrFailed file start now whole text (Err failed) = Wrote (failed_stop file) start now whole (Err failed)

-- A piece was put: what the buffer had and the piece are now in the file or in the buffer, or a write has failed.
abbrev pub Puts : List ℕ → List ℕ → WorldState → WorldState → List ℕ → List ℕ → Result (Unit {0}) Failed → Type 0
Puts file piece before now old new result =
    (start : WorldState) (whole : Effect (Unit {0})) (rest : List ℕ) →
    GoesOnWith file start before whole (old ++ (piece ++ rest)) → GoesOnOrFailed file start now whole (new ++ rest) result
