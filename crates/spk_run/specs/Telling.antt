-- What a teller has come to: it goes on with what is left of the texts, or a write has failed.
use Rattle.std.specs.Prelude.{◌≡◌, ℕ, false, is_err, List, Option, Result, Ok, Err}
use Rattle.spk_world.specs.States.{WorldState}
use Rattle.spk_world.specs.Effects.{Effect, ◌>>◌, Wrote}
use Rattle.spk_world.proofs.Loops.{GoesOn}
use Rattle.spk_run.specs.Endings.{target_stop}
use Rattle.spk_run.specs.declared.answer.Target.{Target}
use Rattle.spk_run.specs.declared.teller.Teller.{Teller}
use Rattle.spk_run.specs.Snapshots.{CanWrite}

abbrev pub GoesOnAfter : Result (Unit {0}) Target → WorldState → WorldState → Effect (Unit {0}) → Effect (Unit {0}) → Type 0
GoesOnAfter (Ok _) start now whole rest = GoesOn target_stop start now whole rest
GoesOnAfter (Err target) start now whole rest = Wrote target_stop start now whole (Err target)

-- where no write has failed, the output still has the log's name
abbrev pub HasLog : Result (Unit {0}) Target → Option (List ℕ) → Option (List ℕ) → Type 0
HasLog (Ok _) log now = now ≡ log
HasLog (Err target) log now = Unit {0}

pub record GoesOnTelling (start now : WorldState) (log : Option (List ℕ)) (teller : Teller) (whole rest : Effect (Unit {0})) : Type 0 where
  pub has_log : HasLog teller.written log teller.output.log
  pub goes : GoesOnAfter teller.written start now whole rest

-- a part of the whole was told, or a write has failed
abbrev pub Tells : Option (List ℕ) → Effect (Unit {0}) → WorldState → WorldState → Teller → Teller → Type 0
Tells log part before now old new =
    (start : WorldState) (whole rest : Effect (Unit {0})) →
    GoesOnTelling start before log old whole (part >> rest) → GoesOnTelling start now log new whole rest

-- as long as no write has failed, it can write snapshots
abbrev pub CanTell : Teller → Type 0
CanTell teller = is_err teller.written ≡ false → CanWrite teller.writer
