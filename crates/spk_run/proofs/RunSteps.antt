-- A run goes on by a cycle, and by a text.
use Rattle.std.proofs.Common.{◌≡◌, ℕ, ◌+◌, ◌-◌, ◌/◌, ◌%◌, ◌^◌, ◌<◌, ◌≤◌, ◌==◌, min, arith, Bool, true, false, List, length, map, set, Option, Some, None, Ok, Err, Result, inl, inr, refl, sym, ap, ◌∙◌, subst, add-one}
use Rattle.std.proofs.Math.Nat.{div-one, mod-one}
use Rattle.std.proofs.lemmas.Bool.{cases_Bool}
use Rattle.std.proofs.lemmas.Bool.Decides.{nat_tests}
use Rattle.spk_world.specs.States.{WorldState}
use Rattle.spk_world.specs.Effects.{Effect, ◌>>◌, answers, writes, Wrote}
use Rattle.spk_world.proofs.Loops.{goes_from_start, goes_to_end}
use Rattle.spk_app.specs.Applications.{Application}
use Rattle.spk_app.specs.PlainViews.{places_beside}
use Rattle.spk_app.specs.Sights.{Sight}
use Rattle.spk_run.specs.declared.answer.Target.{Target}
use Rattle.spk_run.specs.declared.domain.Domain.{Domain}
use Rattle.spk_run.specs.declared.dump.DumpState.{DumpState}
use Rattle.spk_sched.specs.declared.counts.Counts.{Counts}
use Rattle.spk_sched.specs.declared.run_settings.RunSettings.{RunSettings}
use Rattle.spk_run.specs.declared.running.Running.{Running}
use Rattle.spk_run.specs.declared.teller.Teller.{Teller}
use Rattle.spk_sched.specs.Turns.{Sector, counts_sum, turn_by}
use Rattle.spk_run.specs.Ranks.{sector_at_rank, state_of}
use Rattle.spk_num.specs.declared.sweep.Sweep.{Sweep}
use Rattle.spk_patch.specs.Patches.{IsPatch, near_of, sight_of}
use Rattle.spk_patch.proofs.Whole.{values_are, whole}
use Rattle.spk_turn.proofs.Patches.{wrapped_near}
use Rattle.spk_sched.specs.declared.plan.PlanFault.TheVariants.{RunTooLong}
use Rattle.spk_sched.specs.Plans.{IsRun, cycle_at, elapsed, has_line, is_line_after, is_line_due, is_too_long, is_whole, plan_fault, sector_at, window, cycles, steps, is_mark, marks_from}
use Rattle.spk_sched.specs.Globals.{Kinetics}
use Rattle.spk_report.specs.declared.stats_line.StatsLine.{StatsLine}
use Rattle.spk_report.specs.Statistics.{statistics_text}
use Rattle.spk_report.specs.Output.{prints}
use Rattle.spk_run.specs.Dumps.{dumps_events, passed, started}
use Rattle.spk_run.specs.Energies.{energy_of_all}
use Rattle.spk_run.specs.Output.{header_text}
use Rattle.spk_run.specs.Endings.{target_stop}
use Rattle.spk_run.specs.Runs.{Display, domain_after, domain_at, energy_if, line_of, passed_mark, passed_marks, scene_of, sight_on, sweeps_after, tells_if, tells_line, tells_mark, tells_marks, tells_run}
use Rattle.spk_run.specs.Snapshots.{ShowsAs, scene_at}
use Rattle.spk_run.specs.declared.rank.Rank.{Rank}
use Rattle.spk_lattice.specs.Layout.{sites_of}
use Rattle.spk_run.proofs.DumpTelling.{room_kept, room_passed, shows_same}
use Rattle.spk_run.proofs.WholeRanks.{all_cells_with}
use Rattle.spk_run.specs.Solvers.{rule_of, style_of}
use Rattle.spk_run.specs.Running.{CanShow, KeepsBox, HasDone, IsShownBy, RunsOn}
use Rattle.spk_run.specs.Telling.{CanTell, GoesOnAfter, GoesOnTelling, Tells}
use Rattle.spk_sched.proofs.PlanLaws.{elapsed_all, elapsed_at_most, elapsed_more, steps_are, marks_more, marks_none, marks_skip, whole_plan}
use Rattle.spk_sched.proofs.SweepLaws.{sweeps_cut, sweeps_more}
use Rattle.spk_run.proofs.Ranks.{of_one_rank, only_sector, one_rank_step, domain_at_is, domain_after_is}

-- the sweeps of a run after a turn, where it has a sweep and where it has none
pub sweeps_go : (settings : RunSettings) (style : Sweep) (done sweeps before ticks : ℕ) → settings.sectors ≡ 1 → settings.sweep ≡ Some style → is_whole settings ≡ true → ticks ≡ window settings done →
    before ≡ sweeps_after settings.sweep sweeps (elapsed settings done) → min (before + ticks / 1000000000) (2 ^ 64 - 1) ≡ sweeps_after settings.sweep sweeps (elapsed settings (done + 1))
sweeps_go settings style done sweeps before ticks one is whole window_is at =
    let more : elapsed settings (done + 1) / 1000000000 ≡ elapsed settings done / 1000000000 + ticks / 1000000000 =
    sweeps_more settings style done one is whole ∙ ap (λ n. elapsed settings done / 1000000000 + n / 1000000000) (sym window_is) in
    let so_far : before ≡ min (sweeps + elapsed settings done / 1000000000) (2 ^ 64 - 1) = at ∙ ap (λ (sweep : Option Sweep). sweeps_after sweep sweeps (elapsed settings done)) is in
    ap (λ n. min (n + ticks / 1000000000) (2 ^ 64 - 1)) so_far
    ∙ sweeps_cut sweeps (elapsed settings done / 1000000000) (ticks / 1000000000) (elapsed settings (done + 1) / 1000000000) (2 ^ 64 - 1) more
    ∙ ap (λ (sweep : Option Sweep). sweeps_after sweep sweeps (elapsed settings (done + 1))) (sym is)

pub sweeps_stay : (settings : RunSettings) (done sweeps before : ℕ) → settings.sweep ≡ None → before ≡ sweeps_after settings.sweep sweeps (elapsed settings done) → before ≡ sweeps_after settings.sweep sweeps (elapsed settings (done + 1))
sweeps_stay settings done sweeps before is at =
    at ∙ ap (λ (sweep : Option Sweep). sweeps_after sweep sweeps (elapsed settings done)) is
    ∙ ap (λ (sweep : Option Sweep). sweeps_after sweep sweeps (elapsed settings (done + 1))) (sym is)

-- after a turn
pub has_turned : (kinetics : Kinetics) (settings : RunSettings) (domain : Domain) (done ticks : ℕ) (old new : Running) → settings.sectors ≡ 1 → ticks ≡ window settings done → IsPatch old.rank.patch →
    HasDone kinetics settings domain done old → KeepsBox domain new → new.time ≡ old.time + ticks → new.sweeps ≡ sweeps_after settings.sweep domain.sweeps (elapsed settings (done + 1)) →
    style_of new.rank.solver ≡ style_of old.rank.solver →
    state_of new.rank ≡ turn_by settings.sweep (sector_at_rank kinetics.application (rule_of (style_of old.rank.solver)) old.rank) ticks (state_of old.rank) →
    HasDone kinetics settings domain (done + 1) new
has_turned kinetics settings domain done ticks old new one window_is patch has keeps time sweeps solver state =
    let sector = only_sector kinetics settings domain (sector_at settings done) old.rank patch has.keeps.patch has.keeps.cells in
    record {
      keeps = keeps;
      time = omega (arith, time, has.time, window_is, elapsed_more settings done one);
      sweeps = sweeps;
      rule = ap rule_of solver ∙ has.rule;
      state = one_rank_step kinetics settings domain done (state_of old.rank) one has.keeps.some_stream has.state
          ∙ ap (of_one_rank domain) (ap (λ (s : Sector). turn_by settings.sweep s (window settings done) (state_of old.rank)) sector ∙ sym (rw (window_is, has.rule) at state));
    }

-- the box at a mark, by what the run holds
abbrev pub box_of : Running → Domain
box_of running = record {
  lattice = running.lattice;
  time = running.time;
  values = running.rank.patch.values;
  streams = set running.streams 0 running.rank.stream;
  counts = counts_sum running.counts running.rank.counts;
  sweeps = running.sweeps;
}

pub box_at : (kinetics : Kinetics) (settings : RunSettings) (domain : Domain) (done : ℕ) (running : Running) → settings.sectors ≡ 1 →
    HasDone kinetics settings domain done running → domain_at kinetics settings domain done ≡ box_of running
box_at kinetics settings domain done running one has =
    domain_at_is kinetics settings domain done (state_of running.rank) one has.state
    ∙ rw (has.keeps.lattice, has.time, has.keeps.streams, has.keeps.counts, has.sweeps) refl

-- what the application sees of the patch is what it sees of the box
pub sight_is : (running : Running) → CanShow running → IsPatch running.rank.patch → sight_of running.rank.patch ≡ sight_on (box_of running)
sight_is running show patch =
    let near : near_of running.rank.patch ≡ places_beside running.lattice = wrapped_near running.rank.patch show.patch.wrapped ∙ ap places_beside show.patch.lattice_is in
    rw near refl

pub line_at : (kinetics : Kinetics) (settings : RunSettings) (domain : Domain) (done : ℕ) (running : Running) (counts : Counts) (energy : Option ℕ) → settings.sectors ≡ 1 → CanShow running → IsPatch running.rank.patch →
    counts ≡ counts_sum running.counts running.rank.counts → energy ≡ energy_if running.with_energy (energy_of_all kinetics.application (sight_of running.rank.patch)) → HasDone kinetics settings domain done running →
    record { time = running.time; counts = counts; sweeps = running.sweeps; energy = energy } ≡ line_of running.with_energy kinetics.application (domain_at kinetics settings domain done)
line_at kinetics settings domain done running counts energy one show patch counted summed has =
    rw (counted, summed, box_at kinetics settings domain done running one has) (ap (λ (s : Sight). let line : StatsLine = record {
      time = running.time;
      counts = counts_sum running.counts running.rank.counts;
      sweeps = running.sweeps;
      energy = energy_if running.with_energy (energy_of_all kinetics.application s);
    } in line) (sight_is running show patch))

-- it has a value for each site
pub all_values : (running : Running) → CanShow running → IsPatch running.rank.patch → length running.rank.patch.values ≡ sites_of running.lattice
all_values running show patch = values_are running.rank.patch patch (whole running.rank.patch patch show.patch.wrapped) ∙ ap sites_of show.patch.lattice_is

-- what snapshots show is the box
pub scene_is : (kinetics : Kinetics) (settings : RunSettings) (domain : Domain) (done : ℕ) (running : Running) (display : Display) → settings.sectors ≡ 1 → CanShow running → IsShownBy display running →
    HasDone kinetics settings domain done running →
    scene_at running.teller.writer running.time running.rank.patch.values ≡ scene_of display (domain_at kinetics settings domain done)
scene_is kinetics settings domain done running display one show shown has =
    rw (box_at kinetics settings domain done running one has, show.lattice, shown.scale, shown.energy) refl

-- what is told at a mark
pub mark_parts : (display : Display) (application : Application) (lined : Bool) (domain : Domain) (dumps : List DumpState) →
    (tells_if lined (tells_line display application domain) >> writes (dumps_events (scene_of display domain) dumps)) ≡ tells_mark display application lined domain dumps
unfolding tells_mark
mark_parts display application lined domain dumps = refl

-- the line of statistics that is told, where one is
pub line_told : (display : Display) (application : Application) (lined : Bool) (domain : Domain) (line : StatsLine) (with_energy : Bool) → lined ≡ true → with_energy ≡ display.with_energy → line ≡ line_of with_energy application domain →
    prints display.log (statistics_text line) ≡ tells_if lined (tells_line display application domain)
line_told display application lined domain line with_energy is shown told = rw (is, told, shown) refl

pub no_line : (lined : Bool) (line : Effect (Unit {0})) → lined ≡ false → tells_if lined line ≡ answers tt
no_line lined line is = rw is refl

-- after all steps the whole length has passed
all_elapsed : (settings : RunSettings) → settings.sectors ≡ 1 → IsRun settings → elapsed settings (steps settings) ≡ settings.length
all_elapsed settings one is = ap (elapsed settings) (steps_are settings one) ∙ elapsed_all settings is

-- the box after a run
pub finished_box : (kinetics : Kinetics) (settings : RunSettings) (domain : Domain) (running : Running) → settings.sectors ≡ 1 → IsRun settings → HasDone kinetics settings domain (steps settings) running →
    domain_after kinetics settings domain ≡ box_of running
finished_box kinetics settings domain running one is has =
    let all : elapsed settings (steps settings) ≡ settings.length = all_elapsed settings one is in
    let time : running.time ≡ domain.time + settings.length = has.time ∙ ap (λ n. domain.time + n) all in
    let sweeps : running.sweeps ≡ sweeps_after settings.sweep domain.sweeps settings.length = has.sweeps ∙ ap (sweeps_after settings.sweep domain.sweeps) all in
    domain_after_is kinetics settings domain (state_of running.rank) has.state
    ∙ rw (has.keeps.lattice, time, has.keeps.streams, has.keeps.counts, sweeps) refl

-- what was told changes nothing of the sites
keeps_with : {domain : Domain} (running : Running) (piece : List ℕ) (dumps : List DumpState) (teller : Teller) → KeepsBox domain running →
    KeepsBox domain (record running { piece = piece; dumps = dumps; teller = teller })
keeps_with running piece dumps teller keeps = record {
  lattice = keeps.lattice;
  streams = keeps.streams;
  counts = keeps.counts;
  patch = keeps.patch;
  cells = keeps.cells;
  on = keeps.on;
  some_stream = keeps.some_stream;
}

pub has_done_telling : (kinetics : Kinetics) (settings : RunSettings) (domain : Domain) (done : ℕ) (running : Running) (piece : List ℕ) (dumps : List DumpState) (teller : Teller) → HasDone kinetics settings domain done running →
    HasDone kinetics settings domain done (record running { piece = piece; dumps = dumps; teller = teller })
has_done_telling kinetics settings domain done running piece dumps teller has = record {
  keeps = keeps_with running piece dumps teller has.keeps;
  time = has.time;
  sweeps = has.sweeps;
  rule = has.rule;
  state = has.state;
}

-- how a run is shown, and that it can be, with another teller and after a turn
pub shown_telling : (display : Display) (running : Running) (piece : List ℕ) (dumps : List DumpState) (teller : Teller) → ShowsAs running.teller.writer teller.writer → IsShownBy display running →
    IsShownBy display (record running { piece = piece; dumps = dumps; teller = teller })
shown_telling display running piece dumps teller same shown = record {
  with_energy = shown.with_energy;
  scale = same.scale ∙ shown.scale;
  energy = same.energy ∙ shown.energy;
}

pub told_has : (kinetics : Kinetics) (settings : RunSettings) (domain : Domain) (done : ℕ) (running told : Running) → told ≡ record running { teller = told.teller } → HasDone kinetics settings domain done running →
    HasDone kinetics settings domain done told
told_has kinetics settings domain done running told is has =
    subst (HasDone kinetics settings domain done) (sym is) (has_done_telling kinetics settings domain done running running.piece running.dumps told.teller has)

pub told_shown : (display : Display) (running told : Running) → told ≡ record running { teller = told.teller } → told.teller.writer ≡ running.teller.writer → IsShownBy display running → IsShownBy display told
told_shown display running told is same shown =
    subst (IsShownBy display) (sym is) (shown_telling display running running.piece running.dumps told.teller (shows_same running.teller.writer told.teller.writer same) shown)

pub show_telling : (running : Running) (piece : List ℕ) (teller : Teller) → length piece ≡ sites_of running.lattice → CanTell teller → ShowsAs running.teller.writer teller.writer → CanShow running →
    CanShow (record running { piece = piece; teller = teller })
show_telling running piece teller all can same show = record {
  patch = show.patch;
  piece = all;
  tell = can;
  lattice = rw same.sectors show.lattice;
  ranks = rw same.sectors show.ranks;
  texts = room_kept running.teller.writer teller.writer running.dumps same show.texts;
}

pub show_passed : (running : Running) (dumps : List DumpState) (time : ℕ) → dumps ≡ map (passed time) running.dumps → CanShow running → CanShow (record running { dumps = dumps })
show_passed running dumps time is show = record {
  patch = show.patch;
  piece = show.piece;
  tell = show.tell;
  lattice = show.lattice;
  ranks = show.ranks;
  texts = rw is (room_passed running.teller.writer time running.dumps show.texts);
}

pub turned_shows : (running : Running) (rank : Rank) (time sweeps : ℕ) → rank.patch ≡ record running.rank.patch { values = rank.patch.values } → CanShow running → CanShow (record running { rank = rank; time = time; sweeps = sweeps })
turned_shows running rank time sweeps is show = record {
  patch = all_cells_with running.lattice running.rank.patch rank.patch rank.patch.values is show.patch;
  piece = show.piece;
  tell = show.tell;
  lattice = show.lattice;
  ranks = show.ranks;
  texts = show.texts;
}

-- in a run of one sector a step ends before the run's end does
pub step_fits : (settings : RunSettings) (step start time : ℕ) → settings.sectors ≡ 1 → start + settings.length ≤ 4000000000000000000 → time ≡ start + elapsed settings step → time + window settings step ≤ 4000000000000000000
step_fits settings step start time one fits at =
    let less : elapsed settings (step + 1) ≤ settings.length = elapsed_at_most settings (step + 1) in
    omega (arith, elapsed_more settings step one, less, fits, at)

-- a run with a plan ends in time
pub ends_in_time : (settings : RunSettings) → plan_fault settings ≡ None → settings.start + settings.length ≤ 4000000000000000000
ends_in_time settings none =
    elim (cases_Bool (is_too_long settings)) [
      | inl long ↦ let some : plan_fault settings ≡ Some RunTooLong = rw (whole_plan settings none, long) refl in absurd (cc (some, none))
      | inr short ↦ grind (arith, nat_tests)
    ]

-- a line of statistics is due after a step where one is due at the mark after it
cycle_is : (settings : RunSettings) (step : ℕ) → settings.sectors ≡ 1 → cycle_at settings step ≡ step
cycle_is settings step one = rw one (div-one step)

last_of_one : (step : ℕ) → (step % 1 + 1 == 1) ≡ true
last_of_one step = rw (mod-one step) refl

line_due_is : (settings : RunSettings) (step : ℕ) → settings.sectors ≡ 1 → is_line_after settings step ≡ is_line_due settings step
line_due_is settings step one = rw (cycle_is settings step one) (rw one (rw (last_of_one step) refl))

pub line_is : (settings : RunSettings) (step : ℕ) → settings.sectors ≡ 1 → is_line_after settings step ≡ has_line settings (step + 1)
line_is settings step one = line_due_is settings step one ∙ ap (has_line settings) (sym (add-one step))

-- what is left to be told after a cycle with a mark, after one without, and after the last
pub marks_left_more : (display : Display) (kinetics : Kinetics) (settings : RunSettings) (domain : Domain) (cycle : ℕ) (dumps : List DumpState) → cycle < cycles settings → is_mark settings cycle ≡ true →
    tells_marks display kinetics settings domain (marks_from settings cycle) dumps
    ≡ (tells_mark display kinetics.application (has_line settings (cycle + 1)) (domain_at kinetics settings domain (cycle + 1)) dumps
    >> tells_marks display kinetics settings domain (marks_from settings (cycle + 1)) (passed_mark settings domain (cycle + 1) dumps))
unfolding tells_marks
marks_left_more display kinetics settings domain cycle dumps below marked = rw (marks_more settings cycle below marked) refl

pub dumps_left_more : (settings : RunSettings) (domain : Domain) (cycle : ℕ) (dumps : List DumpState) → cycle < cycles settings → is_mark settings cycle ≡ true →
    passed_marks settings domain (marks_from settings cycle) dumps ≡ passed_marks settings domain (marks_from settings (cycle + 1)) (passed_mark settings domain (cycle + 1) dumps)
dumps_left_more settings domain cycle dumps below marked = rw (marks_more settings cycle below marked) refl

pub marks_left_none : (display : Display) (kinetics : Kinetics) (settings : RunSettings) (domain : Domain) (cycle : ℕ) (dumps : List DumpState) → cycles settings ≤ cycle →
    tells_marks display kinetics settings domain (marks_from settings cycle) dumps ≡ answers tt
unfolding tells_marks
marks_left_none display kinetics settings domain cycle dumps past = rw (marks_none settings cycle past) refl

pub dumps_left_none : (settings : RunSettings) (domain : Domain) (cycle : ℕ) (dumps : List DumpState) → cycles settings ≤ cycle →
    passed_marks settings domain (marks_from settings cycle) dumps ≡ dumps
dumps_left_none settings domain cycle dumps past = rw (marks_none settings cycle past) refl

-- a run goes on by a step with a mark, and by one without
pub runs_marked : (start now later : WorldState) (display : Display) (kinetics : Kinetics) (settings : RunSettings) (domain : Domain) (given : List DumpState) (step : ℕ) (lined : Bool) (old turned new : Running) →
    settings.sectors ≡ 1 → step < cycles settings → is_mark settings step ≡ true → lined ≡ is_line_after settings step → turned.dumps ≡ old.dumps → turned.teller ≡ old.teller →
    HasDone kinetics settings domain (step + 1) turned → HasDone kinetics settings domain (step + 1) new → IsShownBy display new → new.dumps ≡ map (passed turned.time) turned.dumps →
    Tells display.log (tells_mark display kinetics.application lined (domain_at kinetics settings domain (step + 1)) turned.dumps) now later turned.teller new.teller →
    RunsOn start now display kinetics settings domain given step old → RunsOn start later display kinetics settings domain given (step + 1) new
runs_marked start now later display kinetics settings domain given step lined old turned new one below marked is_lined same_dumps same_teller turned_has has shown passed_on tells on =
    let left : new.dumps ≡ passed_mark settings domain (step + 1) old.dumps = passed_on ∙ ap (λ t. map (passed t) turned.dumps) turned_has.time ∙ ap (passed_mark settings domain (step + 1)) same_dumps in
    let goes : GoesOnTelling start now display.log old.teller (tells_run display kinetics settings domain given)
    (tells_mark display kinetics.application (has_line settings (step + 1)) (domain_at kinetics settings domain (step + 1)) old.dumps
    >> tells_marks display kinetics settings domain (marks_from settings (step + 1)) (passed_mark settings domain (step + 1) old.dumps)) =
    subst (λ (e : Effect (Unit {0})). GoesOnTelling start now display.log old.teller (tells_run display kinetics settings domain given) e) (marks_left_more display kinetics settings domain step old.dumps below marked) on.goes in
    let told : Tells display.log (tells_mark display kinetics.application (has_line settings (step + 1)) (domain_at kinetics settings domain (step + 1)) old.dumps) now later old.teller new.teller =
    subst (λ (t : Teller). Tells display.log (tells_mark display kinetics.application (has_line settings (step + 1)) (domain_at kinetics settings domain (step + 1)) old.dumps) now later t new.teller) same_teller
    (subst (λ (ds : List DumpState). Tells display.log (tells_mark display kinetics.application (has_line settings (step + 1)) (domain_at kinetics settings domain (step + 1)) ds) now later turned.teller new.teller) same_dumps
    (subst (λ (l : Bool). Tells display.log (tells_mark display kinetics.application l (domain_at kinetics settings domain (step + 1)) turned.dumps) now later turned.teller new.teller) (is_lined ∙ line_is settings step one) tells)) in
    record {
      has_done = has;
      shown = shown;
      dumps = ap (passed_marks settings domain (marks_from settings (step + 1))) left ∙ sym (dumps_left_more settings domain step old.dumps below marked) ∙ on.dumps;
      goes = subst (λ (ds : List DumpState). GoesOnTelling start later display.log new.teller (tells_run display kinetics settings domain given) (tells_marks display kinetics settings domain (marks_from settings (step + 1)) ds)) (sym left)
          (told start (tells_run display kinetics settings domain given) _ goes);
    }

pub runs_unmarked : (start now : WorldState) (display : Display) (kinetics : Kinetics) (settings : RunSettings) (domain : Domain) (given : List DumpState) (step : ℕ) (old new : Running) →
    step < cycles settings → is_mark settings step ≡ false → new.dumps ≡ old.dumps → new.teller ≡ old.teller → HasDone kinetics settings domain (step + 1) new → IsShownBy display new →
    RunsOn start now display kinetics settings domain given step old → RunsOn start now display kinetics settings domain given (step + 1) new
runs_unmarked start now display kinetics settings domain given step old new below unmarked same_dumps same_teller has shown on = record {
  has_done = has;
  shown = shown;
  dumps = rw (same_dumps, ← marks_skip settings step below unmarked) on.dumps;
  goes = rw (same_dumps, same_teller, ← marks_skip settings step below unmarked) on.goes;
}

-- a turn changes nothing of how a run is shown
pub shown_turned : (display : Display) (old new : Running) → new.with_energy ≡ old.with_energy → new.teller ≡ old.teller → IsShownBy display old → IsShownBy display new
shown_turned display old new same_energy same_teller shown = record {
  with_energy = same_energy ∙ shown.with_energy;
  scale = ap (λ (t : Teller). t.writer.scale) same_teller ∙ shown.scale;
  energy = ap (λ (t : Teller). t.writer.energy) same_teller ∙ shown.energy;
}

-- the first mark is the run's start
pub first_left : (settings : RunSettings) (domain : Domain) (given now : List DumpState) (time : ℕ) (begun : List DumpState) → begun ≡ map (started domain.time) given → time ≡ domain.time + elapsed settings 0 → now ≡ map (passed time) begun →
    now ≡ passed_mark settings domain 0 (map (started domain.time) given)
first_left settings domain given now time begun is at passed_on = passed_on ∙ ap (λ t. map (passed t) begun) at ∙ ap (passed_mark settings domain 0) is

-- at a run's start the header and all marks are still to be told
tells_run_is : (display : Display) (kinetics : Kinetics) (settings : RunSettings) (domain : Domain) (dumps : List DumpState) →
    tells_run display kinetics settings domain dumps
    ≡ (prints display.log (header_text display.with_energy)
    >> (tells_mark display kinetics.application true (domain_at kinetics settings domain 0) (map (started domain.time) dumps)
    >> tells_marks display kinetics settings domain (marks_from settings 0) (passed_mark settings domain 0 (map (started domain.time) dumps))))
unfolding tells_run tells_marks
tells_run_is display kinetics settings domain dumps = refl

pub starts_telling : (start : WorldState) (display : Display) (kinetics : Kinetics) (settings : RunSettings) (domain : Domain) (dumps : List DumpState) (teller : Teller) → teller.written ≡ Ok tt → teller.output.log ≡ display.log →
    GoesOnTelling start start display.log teller (tells_run display kinetics settings domain dumps)
    (prints display.log (header_text display.with_energy)
    >> (tells_mark display kinetics.application true (domain_at kinetics settings domain 0) (map (started domain.time) dumps)
    >> tells_marks display kinetics settings domain (marks_from settings 0) (passed_mark settings domain 0 (map (started domain.time) dumps))))
starts_telling start display kinetics settings domain dumps teller none is = record {
  has_log = rw none is;
  goes = rw (none, tells_run_is display kinetics settings domain dumps) goes_from_start;
}

ended_by : (written : Result (Unit {0}) Target) (start now : WorldState) (whole : Effect (Unit {0})) → GoesOnAfter written start now whole (answers tt) → Wrote target_stop start now whole written
ended_by (Ok _) start now whole on = goes_to_end on
ended_by (Err target) start now whole on = on

-- where all is told
pub ends_telling : (start now : WorldState) (log : Option (List ℕ)) (teller : Teller) (whole rest : Effect (Unit {0})) → rest ≡ answers tt →
    GoesOnTelling start now log teller whole rest → Wrote target_stop start now whole teller.written
ends_telling start now log teller whole rest none on = ended_by teller.written start now whole (subst (λ (r : Effect (Unit {0})). GoesOnAfter teller.written start now whole r) none on.goes)
