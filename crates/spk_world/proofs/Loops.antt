-- Laws for loops that write: what was written so far, and what is left to be done of the whole effect.
use Rattle.std.proofs.Common.{◌≡◌, Result, Ok, Err}
use Rattle.std.specs.Result.{IsErrAnd}
use Rattle.spk_world.specs.States.{WorldState}
use Rattle.spk_world.specs.Effects.{Effect, ◌>>=◌, answers, Stop, Wrote}
use Rattle.spk_world.proofs.EffectLaws.{wrote_then, wrote_failed, wrote_answer}

-- Who carries out the rest from now on has carried out the whole from the start.
pub record GoesOn {A E : Type 0} (stop : E → Stop) (start now : WorldState) (whole rest : Effect A) : Type 0 where
  pub goes : (end : WorldState) (result : Result A E) → Wrote stop now end rest result → Wrote stop start end whole result

pub goes_from_start : {A E : Type 0} {stop : E → Stop} {start : WorldState} {whole : Effect A} → GoesOn stop start start whole whole
goes_from_start = record { goes = λ end result done. done }

-- a part was carried out, and what comes after it is left
pub goes_after : {A B E : Type 0} {stop : E → Stop} {start now later : WorldState} {whole : Effect B} {effect : Effect A} {a : A} (next : A → Effect B) →
    GoesOn stop start now whole (effect >>= next) → Wrote stop now later effect (Ok a) → GoesOn stop start later whole (next a)
goes_after next on part = record { goes = λ end result rest. on.goes end result (wrote_then next part rest) }

-- a part failed
pub goes_no_further : {A B E : Type 0} {stop : E → Stop} {start now later : WorldState} {whole : Effect B} {effect : Effect A} {e : E} {result : Result B E} (next : A → Effect B) →
    GoesOn stop start now whole (effect >>= next) → IsErrAnd result (λ y. y ≡ e) → Wrote stop now later effect (Err e) → Wrote stop start later whole result
goes_no_further next on is part = on.goes _ _ (wrote_failed next is part)

-- nothing is left to be done
pub goes_to_end : {A E : Type 0} {stop : E → Stop} {start now : WorldState} {whole : Effect A} {a : A} →
    GoesOn stop start now whole (answers a) → Wrote stop start now whole (Ok a)
goes_to_end on = on.goes _ _ wrote_answer
