-- Snapshots of all dumps, one dump after another.
use Rattle.std.proofs.Common.{◌≡◌, ℕ, Option, ◌+◌, ◌<◌, ◌≤◌, true, false, List, [], ◌∷◌, ◌++◌, length, take, get_or, flat_map, map, inl, inr, refl, sym, ap, subst, ◌∙◌, arith}
use Rattle.std.proofs.lemmas.Bool.{cases_Bool}
use Rattle.std.proofs.lemmas.Grind.{flat_map-append}
use Rattle.std.proofs.lemmas.List.{append-nil, take_all, take_more}
use Rattle.std.proofs.lemmas.List.Elements.{All-nil, All-cons, All-head, All-tail}
use Rattle.spk_world.specs.Outside.{Event}
use Rattle.spk_world.specs.Effects.{answers, writes}
use Rattle.spk_world.specs.States.{WorldState}
use Rattle.spk_run.specs.declared.dump.DumpState.{DumpState}
use Rattle.spk_run.specs.declared.snapshot_writer.SnapshotWriter.{SnapshotWriter}
use Rattle.spk_run.specs.Dumps.{Scene, dump_events, dumps_events, has_sites_dump, is_any_due, is_due, is_of_sites, passed, snapshot_events, started}
use Rattle.spk_run.specs.Snapshots.{HasRoomForDumps, HasSitesRoom, HasTextRoom, ShowsAs, scene_at}
use Rattle.spk_run.specs.declared.teller.Teller.{Teller}
use Rattle.spk_run.specs.Telling.{Tells}
use Rattle.spk_run.proofs.SnapshotWrites.{no_events}
use Rattle.spk_run.proofs.Tellers.{tells_events, tells_nothing}

-- a dump of which a snapshot is due, and one of which none is
pub due_events : (scene : Scene) (dump : DumpState) → is_due scene.time dump ≡ true → dump_events scene dump ≡ snapshot_events scene dump
unfolding dump_events
due_events scene dump due = rw due refl

pub no_snapshot : (scene : Scene) (dump : DumpState) → is_due scene.time dump ≡ false → dump_events scene dump ≡ []
unfolding dump_events
no_snapshot scene dump not_due = rw not_due refl

pub events_are : (scene : Scene) (dumps : List DumpState) → dumps_events scene dumps ≡ flat_map (dump_events scene) dumps
unfolding dumps_events
events_are scene dumps = refl

none_due_by : (scene : Scene) (dumps : List DumpState) → is_any_due scene.time dumps ≡ false → flat_map (dump_events scene) dumps ≡ []
none_due_by scene [] none = refl
none_due_by scene (dump ∷ dumps) none =
    elim (cases_Bool (is_due scene.time dump)) [
      | inl due ↦ let some : is_any_due scene.time (dump ∷ dumps) ≡ true = rw due refl in absurd (cc (some, none))
      | inr not_due ↦
          let rest : is_any_due scene.time dumps ≡ false = (let same : is_any_due scene.time (dump ∷ dumps) ≡ is_any_due scene.time dumps = rw not_due refl in sym same ∙ none) in
          rw (no_snapshot scene dump not_due) (none_due_by scene dumps rest)
    ]

-- where no snapshot is due nothing is written
pub none_due : (scene : Scene) (dumps : List DumpState) → is_any_due scene.time dumps ≡ false → writes (dumps_events scene dumps) ≡ answers tt
none_due scene dumps none = ap writes (events_are scene dumps ∙ none_due_by scene dumps none) ∙ no_events

-- the events of one dump more
pub events_more : (scene : Scene) (dumps : List DumpState) (i : ℕ) (d : DumpState) → i < length dumps →
    flat_map (dump_events scene) (take (i + 1) dumps) ≡ flat_map (dump_events scene) (take i dumps) ++ dump_events scene (get_or dumps i d)
events_more scene dumps i d inside = ap (flat_map (dump_events scene)) (take_more dumps i d inside) ∙ flat_map-append (dump_events scene) (take i dumps) (get_or dumps i d ∷ []) ∙ ap (λ (es : List Event). flat_map (dump_events scene) (take i dumps) ++ es) (append-nil (dump_events scene (get_or dumps i d)))

-- the same writer, but for what it has written
pub shows_itself : (writer : SnapshotWriter) → ShowsAs writer writer
shows_itself writer = record { sectors = refl; scale = refl; energy = refl; report = refl; room = omega arith }

pub shows_same : (before now : SnapshotWriter) → now ≡ before → ShowsAs before now
shows_same before now same = rw same (shows_itself before)

pub shows_on : (first second third : SnapshotWriter) → ShowsAs first second → ShowsAs second third → ShowsAs first third
shows_on first second third one two = record {
  sectors = two.sectors ∙ one.sectors;
  scale = two.scale ∙ one.scale;
  energy = two.energy ∙ one.energy;
  report = two.report ∙ one.report;
  room = omega (arith, one.room, two.room);
}

pub same_scene : (before now : SnapshotWriter) (time : ℕ) (values : List ℕ) → ShowsAs before now → scene_at now time values ≡ scene_at before time values
same_scene before now time values shows = rw (shows.sectors, shows.scale, shows.energy) refl

pub text_room : (before now : SnapshotWriter) (dump : DumpState) → ShowsAs before now → HasTextRoom before dump → HasTextRoom now dump
text_room before now dump shows has = λ sites. rw shows.sectors (omega (arith, shows.room, has sites))

pub room_kept : (before now : SnapshotWriter) (dumps : List DumpState) → ShowsAs before now → HasRoomForDumps before dumps → HasRoomForDumps now dumps
room_kept before now [] shows has = All-nil (HasTextRoom now)
room_kept before now (dump ∷ dumps) shows has =
    All-cons (HasTextRoom now) dump dumps (text_room before now dump shows (All-head (HasTextRoom before) dump dumps has)) (room_kept before now dumps shows (All-tail (HasTextRoom before) dump dumps has))

-- a dump that has come further has its style still
passed_style : (time : ℕ) (dump : DumpState) → (passed time dump).style ≡ dump.style
passed_style time dump =
    elim (cases_Bool (is_due time dump)) [
      | inl due ↦ rw due refl
      | inr not_due ↦ rw not_due refl
    ]

pub room_passed : (writer : SnapshotWriter) (time : ℕ) (dumps : List DumpState) → HasRoomForDumps writer dumps → HasRoomForDumps writer (map (passed time) dumps)
room_passed writer time [] has = All-nil (HasTextRoom writer)
room_passed writer time (dump ∷ dumps) has =
    All-cons (HasTextRoom writer) (passed time dump) (map (passed time) dumps) (λ sites. All-head (HasTextRoom writer) dump dumps has (ap is_of_sites (sym (passed_style time dump)) ∙ sites)) (room_passed writer time dumps (All-tail (HasTextRoom writer) dump dumps has))

pub room_started : (writer : SnapshotWriter) (time : ℕ) (dumps : List DumpState) → HasRoomForDumps writer dumps → HasRoomForDumps writer (map (started time) dumps)
room_started writer time [] has = All-nil (HasTextRoom writer)
room_started writer time (dump ∷ dumps) has =
    All-cons (HasTextRoom writer) (started time dump) (map (started time) dumps) (λ sites. All-head (HasTextRoom writer) dump dumps has sites) (room_started writer time dumps (All-tail (HasTextRoom writer) dump dumps has))

later_sites : (dump : DumpState) (dumps : List DumpState) → has_sites_dump dumps ≡ true → has_sites_dump (dump ∷ dumps) ≡ true
later_sites dump dumps later =
    elim (cases_Bool (is_of_sites dump.style)) [
      | inl sites ↦ rw sites refl
      | inr other ↦ rw other later
    ]

-- room for a site file is room for all dumps, and without a dump of style sites there is always room
pub room_for_all : (writer : SnapshotWriter) (dumps : List DumpState) → (has_sites_dump dumps ≡ true → HasSitesRoom writer) → HasRoomForDumps writer dumps
room_for_all writer [] has = All-nil (HasTextRoom writer)
room_for_all writer (dump ∷ dumps) has =
    All-cons (HasTextRoom writer) dump dumps (λ sites. has (let first : has_sites_dump (dump ∷ dumps) ≡ true = rw sites refl in first))
    (room_for_all writer dumps (λ later. has (later_sites dump dumps later)))

-- the snapshots of the first dumps: of none, of one more, and of all
pub dumps_so_far_none : (log : Option (List ℕ)) (scene : Scene) (dumps : List DumpState) (now : WorldState) (teller : Teller) →
    Tells log (writes (flat_map (dump_events scene) (take 0 dumps))) now now teller teller
dumps_so_far_none log scene dumps now teller = tells_nothing log _ now teller no_events

pub dumps_so_far_more : (log : Option (List ℕ)) (first writer : SnapshotWriter) (time : ℕ) (values : List ℕ) (dumps : List DumpState) (i : ℕ) (dump : DumpState) (before now later : WorldState) (old new newer : Teller) →
    i < length dumps → dump ≡ get_or dumps i dump → ShowsAs first writer → Tells log (writes (flat_map (dump_events (scene_at first time values)) (take i dumps))) before now old new →
    Tells log (writes (dump_events (scene_at writer time values) dump)) now later new newer →
    Tells log (writes (flat_map (dump_events (scene_at first time values)) (take (i + 1) dumps))) before later old newer
dumps_so_far_more log first writer time values dumps i dump before now later old new newer inside is shows so_far next =
    let here : Tells log (writes (dump_events (scene_at first time values) dump)) now later new newer =
    subst (λ (scene : Scene). Tells log (writes (dump_events scene dump)) now later new newer) (same_scene first writer time values shows) next in
    let there : Tells log (writes (dump_events (scene_at first time values) (get_or dumps i dump))) now later new newer =
    subst (λ (d : DumpState). Tells log (writes (dump_events (scene_at first time values) d)) now later new newer) is here in
    subst (λ (es : List Event). Tells log (writes es) before later old newer) (sym (events_more (scene_at first time values) dumps i dump inside))
    (tells_events log _ _ before now later old new newer so_far there)

pub dumps_so_far_all : (log : Option (List ℕ)) (scene : Scene) (shown dumps : List DumpState) (i : ℕ) (before now : WorldState) (old new : Teller) → shown ≡ dumps → length shown ≤ i →
    Tells log (writes (flat_map (dump_events scene) (take i shown))) before now old new → Tells log (writes (dumps_events scene dumps)) before now old new
dumps_so_far_all log scene shown dumps i before now old new same past tells =
    subst (λ (es : List Event). Tells log (writes es) before now old new) (ap (flat_map (dump_events scene)) (take_all i shown past ∙ same) ∙ sym (events_are scene dumps)) tells
