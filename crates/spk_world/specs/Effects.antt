-- What a program must do outside: a list of events and an answer, which may depend on what it finds there.
-- Beside it, what was done where it was carried out, or where it stopped on the way.
use Rattle.std.specs.Prelude.{◌≡◌, ◌⊎◌, ℕ, ◌+◌, List, [], ◌∷◌, ◌++◌, length, map, Option, Some, None, Result, Ok, Err, IfErr}
use Rattle.spk_world.specs.Outside.{Outside, Event, Place, Screen, File, place_of, after}
use Rattle.spk_world.specs.States.{Faults, WorldState}
use Rattle.spk_world.specs.Causes.{Rose, Later}

-- The events of an effect, its loads and its answer. A load is the number of events before it and the file's name.
pub record Outcome (A : Type 0) : Type 0 where
  pub events : List Event
  pub loads : List (ℕ × List ℕ)
  pub answer : A

abbrev pub Effect : Type 0 → Type 0
Effect A = Outside → Outcome A

-- loads that come after so many more events
abbrev pub later_loads : ℕ → List (ℕ × List ℕ) → List (ℕ × List ℕ)
later_loads n loads = map (λ load. (n + load.0, load.1)) loads

abbrev pub outcome_then : {A B : Type 0} → Outcome A → Outcome B → Outcome B
outcome_then first second = record {
  events = first.events ++ second.events;
  loads = first.loads ++ later_loads (length first.events) second.loads;
  answer = second.answer;
}

-- one effect, and then the next, which may depend on its answer and finds files and screen as the first one left them
infixl 10 ◌>>=◌
unfoldable pub ◌>>=◌ : {A B : Type 0} → Effect A → (A → Effect B) → Effect B
(effect >>= next) outside =
    outcome_then (effect outside) (next (effect outside).answer (after outside (effect outside).events))

infixl 10 ◌>>◌
abbrev pub ◌>>◌ : {A B : Type 0} → Effect A → Effect B → Effect B
effect >> next = effect >>= λ _. next

-- nothing is done
unfoldable pub answers : {A : Type 0} → A → Effect A
answers a outside = record { events = []; loads = []; answer = a }

-- these events are done, whatever is found
unfoldable pub writes : List Event → Effect (Unit {0})
writes events outside = record { events = events; loads = []; answer = tt }

-- a file is looked up
unfoldable pub loads_file : List ℕ → Effect (Option (List ℕ))
loads_file name outside = record { events = []; loads = (0, name) ∷ []; answer = outside.files name }

-- why a call stopped: a load of this file or a write to this place failed, or it was out of memory
pub data Stop : Type 0 where
  LoadFailed : List ℕ → Stop
  WriteFailed : Place → Stop
  OutOfMemory : Stop

-- the last event changes this place
pub record EndsAt (place : Place) (events : List Event) : Type 0 where
  pub prefix : List Event
  pub last : Event
  pub split : prefix ++ (last ∷ []) ≡ events
  pub at : place_of last ≡ place

-- the first event changes this place
abbrev pub BeginsAt : Place → List Event → Type 0
BeginsAt place [] = ⊥
BeginsAt place (e ∷ es) = place_of e ≡ place

-- this is one of the loads
pub record IsLoad (load : ℕ × List ℕ) (loads : List (ℕ × List ℕ)) : Type 0 where
  pub before : List (ℕ × List ℕ)
  pub rest : List (ℕ × List ℕ)
  pub split : before ++ (load ∷ rest) ≡ loads

-- A failed load is one that the effect makes right after the events written. A failed write is that of the last of
-- them or of the next.
abbrev pub StopsAt : Stop → List Event → List Event → List (ℕ × List ℕ) → Type 0
StopsAt (LoadFailed name) written left loads = IsLoad (length written, name) loads
StopsAt (WriteFailed place) written left loads = EndsAt place written ⊎ BeginsAt place left
StopsAt OutOfMemory written left loads = Unit {0}

-- A prefix of the events was carried out, and what failed stands where that prefix ends.
pub record Stopped {A : Type 0} (outside : Outside) (now : Option Outside) (outcome : Outcome A) (stop : Stop) : Type 0 where
  pub written : List Event
  pub left : List Event
  pub split : written ++ left ≡ outcome.events
  pub stands : now ≡ Some (after outside written)
  pub cause : StopsAt stop written left outcome.loads

-- how things stand outside now, by cases on what was told before and on the result
abbrev pub Stands : {A E : Type 0} → (E → Stop) → Option Outside → Option Outside → Effect A → Result A E → Type 0
Stands stop None now effect result = now ≡ None
Stands stop (Some outside) now effect (Ok a) = (now ≡ Some (after outside (effect outside).events)) × (a ≡ (effect outside).answer)
Stands stop (Some outside) now effect (Err e) = Stopped outside now (effect outside) (stop e)

-- A failed load or write has raised its count, or the count stands at its greatest value.
abbrev pub StopCause : Stop → Faults → Faults → Type 0
StopCause (LoadFailed name) before now = Rose before.loads now.loads
StopCause (WriteFailed Screen) before now = Rose before.screen now.screen
StopCause (WriteFailed (File name)) before now = Rose before.files now.files
StopCause OutOfMemory before now = Unit {0}

-- An effect was carried out with this result: the whole and its answer on Ok, a prefix of it on Err. The function says
-- why an error stopped it. Where nothing is told before, nothing is told now, and no more is said of it. No count of
-- faults fell, and a failed load or write that stopped the effect has raised its own.
pub record Wrote {A E : Type 0} (stop : E → Stop) (before now : WorldState) (effect : Effect A) (result : Result A E) : Type 0 where
  pub stands : Stands stop before.told now.told effect result
  pub later : Later before.faults now.faults
  pub cause : IfErr result (λ e. StopCause (stop e) before.faults now.faults)
