-- What one call of a world does, as an effect: the whole piece, or a prefix of it and a fault there.
use Rattle.std.proofs.Common.{◌≡◌, ◌⊎◌, ℕ, suc, ◌<◌, List, [], ◌∷◌, ◌++◌, length, Option, Some, None, Result, Ok, Err, refl, ap, sym, ◌∙◌, subst, inl, inr, arith}
use Rattle.std.specs.Option.{option_map}
use Rattle.spk_world.specs.Outside.{Outside, Event, Place, Screen, File, place_of, after, after_told, added, started, spoken, says, adds, starts, WritesPrefix}
use Rattle.spk_world.specs.States.{WorldState}
use Rattle.spk_world.specs.Causes.{Later, FileCause, ScreenCause}
use Rattle.spk_world.specs.declared.world.Failed.{Failed}
use Rattle.spk_world.specs.Effects.{writes, Stop, WriteFailed, EndsAt, BeginsAt, Stands, Wrote}
use Rattle.spk_world.proofs.EffectLaws.{later_same}
use Rattle.spk_world.proofs.Events.{after-says, after-adds, after-starts}

-- all these events are there
abbrev AllAt : Place → List Event → Type 0
AllAt place [] = Unit {0}
AllAt place (e ∷ es) = (place_of e ≡ place) × AllAt place es

prefix_at : (place : Place) (written left : List Event) → AllAt place (written ++ left) → AllAt place written
prefix_at place [] left all = tt
prefix_at place (e ∷ written) left all = (all.0, prefix_at place written left all.1)

rest_at : (place : Place) (written left : List Event) → AllAt place (written ++ left) → AllAt place left
rest_at place [] left all = all
rest_at place (e ∷ written) left all = rest_at place written left all.1

ends_at : (place : Place) (e : Event) (es : List Event) → AllAt place (e ∷ es) → EndsAt place (e ∷ es)
ends_at place e [] all = record { prefix = []; last = e; split = refl; at = all.0 }
ends_at place e (f ∷ es) all =
    let later = ends_at place f es all.1 in
    record { prefix = e ∷ later.prefix; last = later.last; split = ap (λ fs. e ∷ fs) later.split; at = later.at }

-- where events of one place are cut, the cut is there
cut_at : (place : Place) (written left : List Event) → 0 < length (written ++ left) → AllAt place (written ++ left) → EndsAt place written ⊎ BeginsAt place left
cut_at place written (e ∷ es) some all = inr (rest_at place written (e ∷ es) all).0
cut_at place (e ∷ es) [] some all = inl (ends_at place e es (prefix_at place (e ∷ es) [] all))
cut_at place [] [] some all = absurd (omega arith)

whole_by_cases : {E : Type 0} (stop : E → Stop) (before now : Option Outside) (events : List Event) → now ≡ after_told before events → Stands {A = Unit {0}} stop before now (writes events) (Ok tt)
unfolding after_told writes
whole_by_cases stop None now events is = is
whole_by_cases stop (Some outside) now events is = (is, refl)

prefix_by_cases : {E : Type 0} (stop : E → Stop) (place : Place) (before now : Option Outside) (events : List Event) (e : E) →
    0 < length events → AllAt place events → stop e ≡ WriteFailed place → WritesPrefix before now events → Stands stop before now (writes events) (Err e)
unfolding after_told writes
prefix_by_cases stop place None now events e some all is prefix = prefix.stands
prefix_by_cases stop place (Some outside) now events e some all is prefix = record {
  written = prefix.written;
  left = prefix.left;
  split = prefix.split;
  stands = prefix.stands;
  cause = rw is (cut_at place prefix.written prefix.left (rw (prefix.split) some) (subst (AllAt place) (sym prefix.split) all));
}

says_at : (bytes : List ℕ) → AllAt Screen (says bytes)
unfolding says
says_at [] = tt
says_at (b ∷ bytes) = (refl, says_at bytes)

adds_at : (name bytes : List ℕ) → AllAt (File name) (adds name bytes)
unfolding adds
adds_at name [] = tt
adds_at name (b ∷ bytes) = (refl, adds_at name bytes)

length-says : (bytes : List ℕ) → length (says bytes) ≡ length bytes
unfolding says
length-says [] = refl
length-says (b ∷ bytes) = ap (λ n. suc n) (length-says bytes)

length-adds : (name bytes : List ℕ) → length (adds name bytes) ≡ length bytes
unfolding adds
length-adds name [] = refl
length-adds name (b ∷ bytes) = ap (λ n. suc n) (length-adds name bytes)

spoken_is : (before : Option Outside) (bytes : List ℕ) → option_map (λ outside. spoken outside bytes) before ≡ after_told before (says bytes)
unfolding after_told
spoken_is None bytes = refl
spoken_is (Some outside) bytes = ap Some (sym (after-says outside bytes))

added_is : (before : Option Outside) (name bytes : List ℕ) → 0 < length bytes → option_map (λ outside. added outside name bytes) before ≡ after_told before (adds name bytes)
unfolding after_told
added_is None name bytes some = refl
added_is (Some outside) name (b ∷ bytes) some = ap Some (sym (after-adds outside name b bytes))
added_is (Some outside) name [] some = absurd (omega arith)

started_is : (before : Option Outside) (name : List ℕ) → option_map (λ outside. started outside name) before ≡ after_told before (starts name)
unfolding after_told
started_is None name = refl
started_is (Some outside) name = ap Some (sym (after-starts outside name))

nothing_by_cases : {E : Type 0} (stop : E → Stop) (told : Option Outside) (events : List Event) → events ≡ [] → Stands {A = Unit {0}} stop told told (writes events) (Ok tt)
unfolding writes after
nothing_by_cases stop None events is = refl
nothing_by_cases stop (Some outside) events is = (rw is refl, refl)

no_says : (bytes : List ℕ) → length bytes ≡ 0 → says bytes ≡ []
unfolding says
no_says [] is = refl
no_says (b ∷ bytes) is = absurd (omega arith)

no_adds : (name bytes : List ℕ) → length bytes ≡ 0 → adds name bytes ≡ []
unfolding adds
no_adds name [] is = refl
no_adds name (b ∷ bytes) is = absurd (omega arith)

-- no count falls by a write
pub screen_later : {T E : Type 0} {before now : WorldState} {result : Result T E} → ScreenCause before now result → Later before.faults now.faults
screen_later {before = before} {now = now} cause = record { loads = omega (arith, cause.loads); files = omega (arith, cause.files); screen = cause.later }

pub file_later : {T E : Type 0} {before now : WorldState} {result : Result T E} → FileCause before now result → Later before.faults now.faults
file_later {before = before} {now = now} cause = record { loads = omega (arith, cause.loads); files = cause.later; screen = omega (arith, cause.screen) }

-- a piece is on the screen
pub wrote_says : {E : Type 0} (stop : E → Stop) (before now : WorldState) (bytes : List ℕ) →
    now.told ≡ option_map (λ outside. spoken outside bytes) before.told → ScreenCause {T = Unit {0}} {E = Failed} before now (Ok tt) →
    Wrote stop before now (writes (says bytes)) (Ok tt)
wrote_says stop before now bytes is cause =
    record { stands = whole_by_cases stop before.told now.told _ (is ∙ spoken_is before.told bytes); later = screen_later cause; cause = tt }

pub failed_says : {E : Type 0} (stop : E → Stop) (before now : WorldState) (bytes : List ℕ) (fault : Failed) (e : E) →
    0 < length bytes → stop e ≡ WriteFailed Screen → WritesPrefix before.told now.told (says bytes) → ScreenCause {T = Unit {0}} before now (Err fault) →
    Wrote stop before now (writes (says bytes)) (Err e)
failed_says stop before now bytes fault e some is prefix cause = record {
  stands = prefix_by_cases stop Screen before.told now.told _ e (rw (length-says bytes) some) (says_at bytes) is prefix;
  later = screen_later cause;
  cause = rw is cause.failed;
}

-- a piece is in a file
pub wrote_adds : {E : Type 0} (stop : E → Stop) (before now : WorldState) (name bytes : List ℕ) → 0 < length bytes →
    now.told ≡ option_map (λ outside. added outside name bytes) before.told → FileCause {T = Unit {0}} {E = Failed} before now (Ok tt) →
    Wrote stop before now (writes (adds name bytes)) (Ok tt)
wrote_adds stop before now name bytes some is cause =
    record { stands = whole_by_cases stop before.told now.told _ (is ∙ added_is before.told name bytes some); later = file_later cause; cause = tt }

pub failed_adds : {E : Type 0} (stop : E → Stop) (before now : WorldState) (name bytes : List ℕ) (fault : Failed) (e : E) →
    0 < length bytes → stop e ≡ WriteFailed (File name) → WritesPrefix before.told now.told (adds name bytes) → FileCause {T = Unit {0}} before now (Err fault) →
    Wrote stop before now (writes (adds name bytes)) (Err e)
failed_adds stop before now name bytes fault e some is prefix cause = record {
  stands = prefix_by_cases stop (File name) before.told now.told _ e (rw (length-adds name bytes) some) (adds_at name bytes) is prefix;
  later = file_later cause;
  cause = rw is cause.failed;
}

-- a file has started
pub wrote_starts : {E : Type 0} (stop : E → Stop) (before now : WorldState) (name : List ℕ) →
    now.told ≡ option_map (λ outside. started outside name) before.told → FileCause {T = Unit {0}} {E = Failed} before now (Ok tt) →
    Wrote stop before now (writes (starts name)) (Ok tt)
wrote_starts stop before now name is cause =
    record { stands = whole_by_cases stop before.told now.told _ (is ∙ started_is before.told name); later = file_later cause; cause = tt }

pub failed_starts : {E : Type 0} (stop : E → Stop) (before now : WorldState) (name : List ℕ) (fault : Failed) (e : E) →
    stop e ≡ WriteFailed (File name) → WritesPrefix before.told now.told (starts name) → FileCause {T = Unit {0}} before now (Err fault) →
    Wrote stop before now (writes (starts name)) (Err e)
unfolding starts
failed_starts stop before now name fault e is prefix cause = record {
  stands = prefix_by_cases stop (File name) before.told now.told (starts name) e (omega arith) (refl, tt) is prefix;
  later = file_later cause;
  cause = rw is cause.failed;
}

-- an empty piece is no event
pub wrote_no_says : {E : Type 0} (stop : E → Stop) (state : WorldState) (bytes : List ℕ) → length bytes ≡ 0 → Wrote stop state state (writes (says bytes)) (Ok tt)
wrote_no_says stop state bytes is = record { stands = nothing_by_cases stop state.told _ (no_says bytes is); later = later_same _; cause = tt }

pub wrote_no_adds : {E : Type 0} (stop : E → Stop) (state : WorldState) (name bytes : List ℕ) → length bytes ≡ 0 → Wrote stop state state (writes (adds name bytes)) (Ok tt)
wrote_no_adds stop state name bytes is = record { stands = nothing_by_cases stop state.told _ (no_adds name bytes is); later = later_same _; cause = tt }
