-- Laws of buffers: texts that were put one after another are one text.
use Rattle.std.proofs.Common.{◌≡◌, ℕ, ◌+◌, ◌<◌, List, [], ◌++◌, length, take, drop, get_or, flat_map, Result, Ok, Err, refl, ap, sym, subst, ◌∙◌, append_assoc}
use Rattle.std.proofs.Math.Path.{fun_ext}
use Rattle.std.proofs.lemmas.Grind.{flat_map-append}
use Rattle.std.proofs.lemmas.List.{append-nil, drop_more, map-append, take-append-drop}
use Rattle.std.specs.Result.{IsErrAnd}
use Rattle.spk_world.specs.Outside.{Event, adds, says, WritesPrefix}
use Rattle.spk_world.specs.States.{WorldState}
use Rattle.spk_world.specs.Causes.{FileCause, ScreenCause}
use Rattle.spk_world.specs.Effects.{Effect, ◌>>=◌, ◌>>◌, writes, Wrote}
use Rattle.spk_world.specs.declared.world.Failed.{Failed}
use Rattle.spk_world.proofs.EffectLaws.{is_error, wrote_fault}
use Rattle.spk_world.proofs.Loops.{GoesOn, goes_after, goes_from_start, goes_no_further}
use Rattle.spk_world.proofs.Writes.{failed_adds, failed_says}
use Rattle.spk_report.specs.Buffers.{GoesOnOrFailed, GoesOnWith, Puts}
use Rattle.spk_report.specs.Output.{failed_stop, trouble_stop}
use Rattle.spk_report.specs.declared.write_trouble.WriteTrouble.{WriteTrouble}
use Rattle.spk_report.specs.declared.write_trouble.WriteTrouble.TheVariants as trouble

-- two lists of events, one after the other
writes_append : (first second : List Event) → writes (first ++ second) ≡ (writes first >> writes second)
unfolding writes ◌>>=◌
writes_append first second = fun_ext (λ outside. refl)

adds_append : (name first second : List ℕ) → adds name (first ++ second) ≡ adds name first ++ adds name second
unfolding adds
adds_append name first second = map-append _ first second

-- a text in a file, and then another
pub writes_both : (name first second : List ℕ) → writes (adds name (first ++ second)) ≡ (writes (adds name first) >> writes (adds name second))
writes_both name first second = ap writes (adds_append name first second) ∙ writes_append (adds name first) (adds name second)

-- a write to the file failed
pub add_failed : (before now : WorldState) (name bytes : List ℕ) (fault : Failed) → 0 < length bytes → WritesPrefix before.told now.told (adds name bytes) →
    FileCause {T = Unit {0}} before now (Err fault) → Wrote (failed_stop name) before now (writes (adds name bytes)) (Err fault)
unfolding failed_stop
add_failed before now name bytes fault some prefix cause = failed_adds _ before now name bytes fault _ some refl prefix cause

pub file_failed : (before now : WorldState) (name bytes : List ℕ) (fault : Failed) → 0 < length bytes → WritesPrefix before.told now.told (adds name bytes) →
    FileCause {T = Unit {0}} before now (Err fault) → Wrote (trouble_stop name) before now (writes (adds name bytes)) (Err trouble.File)
unfolding trouble_stop
file_failed before now name bytes fault some prefix cause = failed_adds _ before now name bytes fault _ some refl prefix cause

pub screen_failed : (before now : WorldState) (name bytes : List ℕ) (fault : Failed) → 0 < length bytes → WritesPrefix before.told now.told (says bytes) →
    ScreenCause {T = Unit {0}} before now (Err fault) → Wrote (trouble_stop name) before now (writes (says bytes)) (Err trouble.Screen)
unfolding trouble_stop
screen_failed before now name bytes fault some prefix cause = failed_says _ before now bytes fault _ some refl prefix cause

-- a part of the text went to the file
pub went_on : (file : List ℕ) (start before now : WorldState) (whole : Effect (Unit {0})) (part rest : List ℕ) →
    GoesOnWith file start before whole (part ++ rest) → Wrote (failed_stop file) before now (writes (adds file part)) (Ok tt) → GoesOnWith file start now whole rest
went_on file start before now whole part rest goes wrote =
    goes_after (λ _. writes (adds file rest)) (subst (λ effect. GoesOn (failed_stop file) start before whole effect) (writes_both file part rest) goes) wrote

-- a part of it failed
pub went_no_further : (file : List ℕ) (start before now : WorldState) (whole : Effect (Unit {0})) (part rest : List ℕ) (e : Failed) →
    GoesOnWith file start before whole (part ++ rest) → Wrote (failed_stop file) before now (writes (adds file part)) (Err e) →
    Wrote (failed_stop file) start now whole (Err e)
went_no_further file start before now whole part rest e goes wrote =
    goes_no_further (λ _. writes (adds file rest)) (subst (λ effect. GoesOn (failed_stop file) start before whole effect) (writes_both file part rest) goes) refl wrote

-- all text went to the file, or failed to
pub flush_puts : (file : List ℕ) (before now : WorldState) (old new : List ℕ) → new ≡ [] → Wrote (failed_stop file) before now (writes (adds file old)) (Ok tt) →
    Puts file [] before now old new (Ok tt)
flush_puts file before now old new is wrote start whole rest goes = rw is (went_on file start before now whole old rest goes wrote)

pub flush_failed : (file : List ℕ) (before now : WorldState) (old new : List ℕ) (e : Failed) →
    Wrote (failed_stop file) before now (writes (adds file old)) (Err e) → Puts file [] before now old new (Err e)
flush_failed file before now old new e wrote start whole rest goes = went_no_further file start before now whole old rest e goes wrote

-- a piece where there is room
pub put_here : (file piece : List ℕ) (state : WorldState) (old : List ℕ) → Puts file piece state state old (old ++ piece) (Ok tt)
put_here file piece state old start whole rest goes = subst (λ text. GoesOnWith file start state whole text) (sym (append_assoc old piece rest)) goes

-- a piece, and then another
pub puts_then : (file first second : List ℕ) (before now later : WorldState) (old new newer : List ℕ) (result : Result (Unit {0}) Failed) →
    Puts file first before now old new (Ok tt) → Puts file second now later new newer result → Puts file (first ++ second) before later old newer result
puts_then file first second before now later old new newer result one two start whole rest goes =
    two start whole rest (one start whole (second ++ rest) (subst (λ text. GoesOnWith file start before whole (old ++ text)) (append_assoc first second rest) goes))

failed_same : (file : List ℕ) (start now : WorldState) (whole : Effect (Unit {0})) (text other : List ℕ) (e : Failed) (result : Result (Unit {0}) Failed) →
    result ≡ Err e → GoesOnOrFailed file start now whole text (Err e) → GoesOnOrFailed file start now whole other result
failed_same file start now whole text other e (Ok _) is failed = absurd cc
failed_same file start now whole text other e (Err f) is failed = subst (λ r. Wrote (failed_stop file) start now whole r) (sym is) failed

-- the first of two pieces failed
pub puts_failed : (file first second : List ℕ) (before now : WorldState) (old new newer : List ℕ) (e : Failed) (result : Result (Unit {0}) Failed) →
    Puts file first before now old new (Err e) → IsErrAnd result (λ y. y ≡ e) → Puts file (first ++ second) before now old newer result
puts_failed file first second before now old new newer e result one is start whole rest goes =
    failed_same file start now whole (new ++ (second ++ rest)) (newer ++ rest) e result (is_error result e is)
    (one start whole (second ++ rest) (subst (λ text. GoesOnWith file start before whole (old ++ text)) (append_assoc first second rest) goes))

-- the texts of all elements, of which those up to one are put, and that one fails
all_split : {A : Type 0} (text_of : A → List ℕ) (xs : List A) (i : ℕ) (d : A) → i < length xs →
    flat_map text_of xs ≡ flat_map text_of (take i xs) ++ (text_of (get_or xs i d) ++ flat_map text_of (drop (i + 1) xs))
all_split text_of xs i d inside =
    ap (flat_map text_of) (sym (take-append-drop i xs) ∙ ap (λ ys. take i xs ++ ys) (drop_more xs i d inside)) ∙ flat_map-append text_of (take i xs) _

pub puts_stopped : {A : Type 0} (file : List ℕ) (text_of : A → List ℕ) (xs : List A) (i : ℕ) (d : A) (before now later : WorldState) (old new newer : List ℕ) (e : Failed) (result : Result (Unit {0}) Failed) →
    i < length xs → Puts file (flat_map text_of (take i xs)) before now old new (Ok tt) → Puts file (text_of (get_or xs i d)) now later new newer (Err e) →
    IsErrAnd result (λ y. y ≡ e) → Puts file (flat_map text_of xs) before later old newer result
puts_stopped file text_of xs i d before now later old new newer e result inside so_far failed is =
    subst (λ text. Puts file text before later old newer result) (sym (all_split text_of xs i d inside))
    (puts_then file (flat_map text_of (take i xs)) _ before now later old new newer result so_far
    (puts_failed file (text_of (get_or xs i d)) (flat_map text_of (drop (i + 1) xs)) now later new newer newer e result failed is))

-- nothing was put
pub puts_nothing : (file : List ℕ) (state : WorldState) (old : List ℕ) → Puts file [] state state old old (Ok tt)
puts_nothing file state old start whole rest goes = goes

-- a text that was put whole, or in part, from an empty buffer on
whole_from_start : (file text : List ℕ) (state : WorldState) (old : List ℕ) → old ≡ [] →
    GoesOnWith file state state (writes (adds file text)) (old ++ (text ++ []))
whole_from_start file text state old empty =
    subst (λ left. GoesOnWith file state state (writes (adds file text)) (left ++ (text ++ []))) (sym empty)
    (subst (λ left. GoesOnWith file state state (writes (adds file text)) left) (sym (append-nil text)) goes_from_start)

pub puts_whole : (file text : List ℕ) (before now later : WorldState) (old new : List ℕ) (result : Result (Unit {0}) Failed) → old ≡ [] →
    Puts file text before now old new (Ok tt) → Wrote (failed_stop file) now later (writes (adds file new)) result →
    Wrote (failed_stop file) before later (writes (adds file text)) result
puts_whole file text before now later old new result empty puts wrote =
    (puts before (writes (adds file text)) [] (whole_from_start file text before old empty)).goes later result
    (subst (λ left. Wrote (failed_stop file) now later (writes (adds file left)) result) (sym (append-nil new)) wrote)

failed_is : (file : List ℕ) (before now : WorldState) (whole : Effect (Unit {0})) (e : Failed) (result : Result (Unit {0}) Failed) →
    result ≡ Err e → Wrote (failed_stop file) before now whole (Err e) → Wrote (failed_stop file) before now whole result
failed_is file before now whole e result is failed = subst (λ r. Wrote (failed_stop file) before now whole r) (sym is) failed

pub puts_broken : (file text : List ℕ) (before now : WorldState) (old new : List ℕ) (e : Failed) (result : Result (Unit {0}) Failed) → old ≡ [] →
    Puts file text before now old new (Err e) → IsErrAnd result (λ y. y ≡ e) → Wrote (failed_stop file) before now (writes (adds file text)) result
puts_broken file text before now old new e result empty puts is =
    failed_is file before now (writes (adds file text)) e result (is_error result e is)
    (puts before (writes (adds file text)) [] (whole_from_start file text before old empty))

-- a file at which a write failed is the trouble
failed_trouble : (name : List ℕ) (fault : Failed) → trouble_stop name trouble.File ≡ failed_stop name fault
unfolding trouble_stop failed_stop
failed_trouble name fault = refl

pub file_is_failed : (file : List ℕ) (before now : WorldState) (effect : Effect (Unit {0})) (fault : Failed) (result : Result (Unit {0}) WriteTrouble) → IsErrAnd result (λ y. y ≡ trouble.File) →
    Wrote (failed_stop file) before now effect (Err fault) → Wrote (trouble_stop file) before now effect result
file_is_failed file before now effect fault result is wrote =
    subst (λ r. Wrote (trouble_stop file) before now effect r) (sym (is_error result trouble.File is)) (wrote_fault fault (failed_trouble file fault) wrote)
