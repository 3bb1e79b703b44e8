-- Laws of effects: what was carried out in parts was carried out whole, and a fault in a part is one of the whole.
use Rattle.std.proofs.Common.{◌≡◌, ℕ, ◌≤◌, List, [], ◌∷◌, ◌++◌, length, Option, Some, None, Result, Ok, Err, refl, ap, sym, ◌∙◌, subst, inl, inr, append_assoc, length-append, arith}
use Rattle.std.proofs.lemmas.List.{map-append}
use Rattle.std.specs.Result.{IsErrAnd, IfErr}
use Rattle.spk_world.specs.Outside.{Outside, Event, Place, Screen, File, after}
use Rattle.spk_world.specs.States.{Faults, WorldState}
use Rattle.spk_world.specs.Causes.{Rose, Later}
use Rattle.spk_world.specs.Effects.{Outcome, Effect, later_loads, outcome_then, ◌>>=◌, answers, Stop, LoadFailed, WriteFailed, OutOfMemory, BeginsAt, StopsAt, Stopped, Stands, Wrote, StopCause}
use Rattle.spk_world.proofs.Events.{after-append}

shifted_split : (first written : List Event) (name : List ℕ) (before rest : List (ℕ × List ℕ)) →
    later_loads (length first) before ++ ((length (first ++ written), name) ∷ later_loads (length first) rest) ≡ later_loads (length first) (before ++ ((length written, name) ∷ rest))
shifted_split first written name before rest =
    rw (length-append first written) (sym (map-append _ before ((length written, name) ∷ rest)))

-- where something stops, seen from an earlier beginning
stops_later : (stop : Stop) (first written left : List Event) (loads more : List (ℕ × List ℕ)) →
    StopsAt stop written left more → StopsAt stop (first ++ written) left (loads ++ later_loads (length first) more)
stops_later (LoadFailed name) first written left loads more at = record {
  before = loads ++ later_loads (length first) at.before;
  rest = later_loads (length first) at.rest;
  split = append_assoc loads _ _ ∙ ap (λ ls. loads ++ ls) (shifted_split first written name at.before at.rest ∙ ap (later_loads (length first)) at.split);
}
stops_later (WriteFailed place) first written left loads more (inl ends) =
    inl (record { prefix = first ++ ends.prefix; last = ends.last; split = append_assoc first ends.prefix (ends.last ∷ []) ∙ ap (λ es. first ++ es) ends.split; at = ends.at })
stops_later (WriteFailed place) first written left loads more (inr begins) = inr begins
stops_later OutOfMemory first written left loads more at = tt

-- the same, where more follows
begins_more : (place : Place) (left more : List Event) → BeginsAt place left → BeginsAt place (left ++ more)
begins_more place [] more begins = absurd begins
begins_more place (e ∷ es) more begins = begins

stops_more : (stop : Stop) (written left more : List Event) (loads others : List (ℕ × List ℕ)) →
    StopsAt stop written left loads → StopsAt stop written (left ++ more) (loads ++ others)
stops_more (LoadFailed name) written left more loads others at = record {
  before = at.before;
  rest = at.rest ++ others;
  split = sym (append_assoc at.before _ others) ∙ ap (λ ls. ls ++ others) at.split;
}
stops_more (WriteFailed place) written left more loads others (inl ends) = inl ends
stops_more (WriteFailed place) written left more loads others (inr begins) = inr (begins_more place left more begins)
stops_more OutOfMemory written left more loads others at = tt

stopped_later : {A B : Type 0} (outside : Outside) (now : Option Outside) (first : Outcome A) (second : Outcome B) (stop : Stop) →
    Stopped (after outside first.events) now second stop → Stopped outside now (outcome_then first second) stop
stopped_later outside now first second stop s = record {
  written = first.events ++ s.written;
  left = s.left;
  split = append_assoc first.events s.written s.left ∙ ap (λ es. first.events ++ es) s.split;
  stands = s.stands ∙ ap Some (sym (after-append outside first.events s.written));
  cause = stops_later stop first.events s.written s.left first.loads second.loads s.cause;
}

stopped_more : {A B : Type 0} (outside : Outside) (now : Option Outside) (first : Outcome A) (second : Outcome B) (stop : Stop) →
    Stopped outside now first stop → Stopped outside now (outcome_then first second) stop
stopped_more outside now first second stop s = record {
  written = s.written;
  left = s.left ++ second.events;
  split = sym (append_assoc s.written s.left second.events) ∙ ap (λ es. es ++ second.events) s.split;
  stands = s.stands;
  cause = stops_more stop s.written s.left second.events first.loads _ s.cause;
}

pub then_by_cases : {A B E : Type 0} (stop : E → Stop) (before now later : Option Outside) (effect : Effect A) (next : A → Effect B) (a : A) (result : Result B E) →
    Stands stop before now effect (Ok a) → Stands stop now later (next a) result → Stands stop before later (effect >>= next) result
unfolding ◌>>=◌
then_by_cases stop None now later effect next a result first second =
    subst (λ t. Stands stop t later (next a) result) first second
then_by_cases stop (Some outside) now later effect next a (Ok b) first second =
    let whole = subst (λ x. Stands stop (Some (after outside (effect outside).events)) later (next x) (Ok b)) first.1 (subst (λ t. Stands stop t later (next a) (Ok b)) first.0 second) in
    (whole.0 ∙ ap Some (sym (after-append outside _ _)), whole.1)
then_by_cases stop (Some outside) now later effect next a (Err e) first second =
    let part = subst (λ x. Stands stop (Some (after outside (effect outside).events)) later (next x) (Err e)) first.1 (subst (λ t. Stands stop t later (next a) (Err e)) first.0 second) in
    stopped_later outside later (effect outside) _ (stop e) part

rose_earlier : (a b c : ℕ) → a ≤ b → Rose b c → Rose a c
rose_earlier a b c le rose = omega arith

pub rose_later : (a b c : ℕ) → Rose a b → b ≤ c → Rose a c
rose_later a b c rose le = omega arith

pub later_later : (before now later : Faults) → Later before now → Later now later → Later before later
later_later before now later first second = record { loads = omega arith; files = omega arith; screen = omega arith }

-- no count has changed
pub later_same : (now : Faults) → Later now now
later_same now = record { loads = omega arith; files = omega arith; screen = omega arith }

cause_later : (stop : Stop) (before now later : Faults) → Later before now → StopCause stop now later → StopCause stop before later
cause_later (LoadFailed name) before now later first rose = rose_earlier _ _ _ first.loads rose
cause_later (WriteFailed Screen) before now later first rose = rose_earlier _ _ _ first.screen rose
cause_later (WriteFailed (File name)) before now later first rose = rose_earlier _ _ _ first.files rose
cause_later OutOfMemory before now later first rose = tt

pub causes_by_cases : {B E : Type 0} (stop : E → Stop) (before now later : Faults) (result : Result B E) → Later before now →
    IfErr result (λ e. StopCause (stop e) now later) → IfErr result (λ e. StopCause (stop e) before later)
causes_by_cases stop before now later (Ok b) first second = second
causes_by_cases stop before now later (Err e) first second = cause_later (stop e) before now later first second

-- one effect was carried out, and then the next one, whole or in part
pub wrote_then : {A B E : Type 0} {stop : E → Stop} {before now later : WorldState} {effect : Effect A} {a : A} {result : Result B E} (next : A → Effect B) →
    Wrote stop before now effect (Ok a) → Wrote stop now later (next a) result → Wrote stop before later (effect >>= next) result
wrote_then {before = before} {now = now} {later = later} {result = result} next first second = record {
  stands = then_by_cases _ before.told now.told later.told _ next _ _ first.stands second.stands;
  later = later_later _ _ _ first.later second.later;
  cause = causes_by_cases _ before.faults now.faults later.faults result first.later second.cause;
}

-- a result that is this error
pub is_error : {B E : Type 0} (result : Result B E) (e : E) → IsErrAnd result (λ y. y ≡ e) → result ≡ Err e
is_error (Ok b) e is = absurd is
is_error (Err y) e is = ap Err is

failed_by_cases : {A B E : Type 0} (stop : E → Stop) (before now : Option Outside) (effect : Effect A) (next : A → Effect B) (e : E) →
    Stands stop before now effect (Err e) → Stands stop before now (effect >>= next) (Err e)
unfolding ◌>>=◌
failed_by_cases stop None now effect next e first = first
failed_by_cases stop (Some outside) now effect next e first = stopped_more outside now (effect outside) _ (stop e) first

-- the first effect failed, and the next one wasn't begun
pub wrote_failed : {A B E : Type 0} {stop : E → Stop} {before now : WorldState} {effect : Effect A} {e : E} {result : Result B E} (next : A → Effect B) →
    IsErrAnd result (λ y. y ≡ e) → Wrote stop before now effect (Err e) → Wrote stop before now (effect >>= next) result
wrote_failed {before = before} {now = now} {result = result} next is first =
    rw (is_error result _ is) (record { stands = failed_by_cases _ before.told now.told _ next _ first.stands; later = first.later; cause = first.cause })

answer_by_cases : {A E : Type 0} (stop : E → Stop) (told : Option Outside) (a : A) → Stands stop told told (answers a) (Ok a)
unfolding answers after
answer_by_cases stop None a = refl
answer_by_cases stop (Some outside) a = (refl, refl)

-- an effect that does nothing
pub wrote_answer : {A E : Type 0} {stop : E → Stop} {state : WorldState} {a : A} → Wrote stop state state (answers a) (Ok a)
wrote_answer = record { stands = answer_by_cases _ _ _; later = later_same _; cause = tt }

-- an effect was carried out, and its answer is given on through a function
pub wrote_mapped : {A B E : Type 0} {stop : E → Stop} {before now : WorldState} {effect : Effect A} {a : A} (f : A → B) →
    Wrote stop before now effect (Ok a) → Wrote stop before now (effect >>= λ x. answers (f x)) (Ok (f a))
wrote_mapped f whole = wrote_then (λ x. answers (f x)) whole wrote_answer

-- the same where it failed
pub wrote_mapped_failed : {A B E : Type 0} {stop : E → Stop} {before now : WorldState} {effect : Effect A} {e : E} (f : A → B) →
    Wrote stop before now effect (Err e) → Wrote {A = B} stop before now (effect >>= λ x. answers (f x)) (Err e)
wrote_mapped_failed f part = wrote_failed (λ x. answers (f x)) refl part

pub out_of_memory_by_cases : {A E : Type 0} (stop : E → Stop) (told : Option Outside) (effect : Effect A) (e : E) → stop e ≡ OutOfMemory → Stands stop told told effect (Err e)
unfolding after
out_of_memory_by_cases stop None effect e memory = refl
out_of_memory_by_cases stop (Some outside) effect e memory = record {
  written = [];
  left = (effect outside).events;
  split = refl;
  stands = refl;
  cause = rw memory tt;
}

out_of_memory_cause : (stop : Stop) (now : Faults) → stop ≡ OutOfMemory → StopCause stop now now
out_of_memory_cause stop now memory = rw memory tt

-- out of memory before anything was done
pub wrote_nothing : {A E : Type 0} {stop : E → Stop} {state : WorldState} {effect : Effect A} {result : Result A E} (e : E) →
    IsErrAnd result (λ y. y ≡ e) → stop e ≡ OutOfMemory → Wrote stop state state effect result
wrote_nothing {state = state} {result = result} e is memory =
    rw (is_error result _ is) (record { stands = out_of_memory_by_cases _ state.told _ _ memory; later = later_same _; cause = out_of_memory_cause _ state.faults memory })

whole_anywhere : {A E F : Type 0} (stop : E → Stop) (other : F → Stop) (before now : Option Outside) (effect : Effect A) (a : A) → Stands stop before now effect (Ok a) → Stands other before now effect (Ok a)
whole_anywhere stop other None now effect a whole = whole
whole_anywhere stop other (Some outside) now effect a whole = whole

-- what was carried out whole says nothing of faults
pub wrote_whole : {A E F : Type 0} {stop : E → Stop} {other : F → Stop} {before now : WorldState} {effect : Effect A} {a : A} →
    Wrote {E = E} stop before now effect (Ok a) → Wrote other before now effect (Ok a)
wrote_whole {before = before} {now = now} whole = record { stands = whole_anywhere _ _ before.told now.told _ _ whole.stands; later = whole.later; cause = tt }

fault_by_cases : {A E F : Type 0} (stop : E → Stop) (other : F → Stop) (before now : Option Outside) (effect : Effect A) (e : E) (f : F) → other f ≡ stop e → Stands stop before now effect (Err e) → Stands other before now effect (Err f)
fault_by_cases stop other None now effect e f same part = part
fault_by_cases stop other (Some outside) now effect e f same part = rw same part

-- the same fault under another name
pub wrote_fault : {A E F : Type 0} {stop : E → Stop} {other : F → Stop} {before now : WorldState} {effect : Effect A} (e : E) {f : F} → other f ≡ stop e →
    Wrote stop before now effect (Err e) → Wrote other before now effect (Err f)
wrote_fault {before = before} {now = now} e same part =
    record { stands = fault_by_cases _ _ before.told now.told _ e _ same part.stands; later = part.later; cause = rw same part.cause }

pub ruleset joins = (wrote_then, wrote_failed, wrote_answer, wrote_nothing)
