-- The plan of a run: its cycles, the step of each sector in each cycle, and the marks at which something is written. It is made
-- after SPPARKS's runs; the length of a cycle and the times are our own rules.
use Rattle.std.specs.Prelude.{ℕ, zero, suc, ◌+◌, ◌-◌, ◌*◌, ◌/◌, ◌%◌, ◌^◌, ◌≤◌, ◌≡◌, Bool, true, not, ◌&&◌, ◌||◌, ◌==◌, nat_lt, min, max, if◌then◌else◌, List, [], ◌∷◌, map, filter, Option, Some, None, Result, Ok, Err}
use Rattle.std.specs.Int.{div_ceil}
use Rattle.std.specs.Option.{option_map_or}
use Rattle.std.specs.List.{range_with_len, list_any, All}
use Rattle.spk_num.specs.declared.sweep.Sweep.{Sweep}
use Rattle.spk_sched.specs.declared.dues.Due.{Due}
use Rattle.spk_sched.specs.declared.plan.PlanFault.{PlanFault}
use Rattle.spk_sched.specs.declared.plan.PlanFault.TheVariants.{NotWhole, RunTooLong, Memory}
use Rattle.spk_sched.specs.declared.run_settings.Cycle.{Cycle}
use Rattle.spk_sched.specs.declared.run_settings.Cycle.TheVariants.{Ticks, Nstop}
use Rattle.spk_sched.specs.declared.run_settings.RunSettings.{RunSettings}

abbrev pub cycle_number : Cycle → ℕ
cycle_number (Ticks ticks) = ticks
cycle_number (Nstop millionths) = millionths

-- settings in the ranges of all runs
pub record IsRun (settings : RunSettings) : Type 0 where
  pub some_cycle : 1 ≤ cycle_number settings.cycle
  pub short_cycle : cycle_number settings.cycle ≤ 1000000000000000
  pub some_weight : 1 ≤ settings.largest
  pub some_sector : 1 ≤ settings.sectors
  pub few_sectors : settings.sectors ≤ 8
  pub short : settings.length ≤ 4000000000000000000
  pub some_deltas : All (λ due. 1 ≤ due.delta) settings.dumps

-- A cycle takes so many ticks, or so many millionths of the time in which the readiest site has one event on the average. With
-- a sweep it takes as many sweeps, each of 10^9 ticks.
abbrev pub ticks_by : Cycle → Option Sweep → ℕ → ℕ
ticks_by (Ticks ticks) sweep largest = ticks
ticks_by (Nstop millionths) None largest = max 1 (millionths * 1000 * 2 ^ 30 / largest)
ticks_by (Nstop millionths) (Some sweep) largest = millionths * 1000

abbrev pub cycle_ticks : RunSettings → ℕ
cycle_ticks settings = ticks_by settings.cycle settings.sweep settings.largest

abbrev pub cycles : RunSettings → ℕ
cycles settings = div_ceil settings.length (cycle_ticks settings)

-- the ticks since the run's start after so many cycles, of which the last is cut at the run's end
abbrev pub elapsed : RunSettings → ℕ → ℕ
elapsed settings done = min settings.length (cycle_ticks settings * done)

-- each cycle has one step per sector, in rising order, whose window is the cycle's length
abbrev pub steps : RunSettings → ℕ
steps settings = cycles settings * settings.sectors

abbrev pub sector_at : RunSettings → ℕ → ℕ
sector_at settings step = step % settings.sectors

abbrev pub cycle_at : RunSettings → ℕ → ℕ
cycle_at settings step = step / settings.sectors

abbrev pub window : RunSettings → ℕ → ℕ
window settings step = elapsed settings (cycle_at settings step + 1) - elapsed settings (cycle_at settings step)

abbrev pub is_last_of_cycle : RunSettings → ℕ → Bool
is_last_of_cycle settings step = sector_at settings step + 1 == settings.sectors

-- with sweeps, both a cycle and the run take whole ones
abbrev pub is_in_sweeps : ℕ → Bool
is_in_sweeps ticks = ticks % 1000000000 == 0

abbrev pub is_whole : RunSettings → Bool
is_whole settings = option_map_or (λ (sweep : Sweep). is_in_sweeps (cycle_ticks settings) && is_in_sweeps settings.length) settings.sweep true

-- a run has at most 10^9 steps, and ends at 4 * 10^18 ticks at the latest
abbrev pub is_too_long : RunSettings → Bool
is_too_long settings = nat_lt 1000000000 (steps settings) || nat_lt 4000000000000000000 (settings.start + settings.length)

-- why there is no plan
abbrev pub plan_fault : RunSettings → Option PlanFault
plan_fault settings =
    if not (is_whole settings) then Some NotWhole
    else (if is_too_long settings then Some RunTooLong
    else None)

-- a plan for settings, or the fault; memory may be out where there is no fault
abbrev pub IsPlanOr : RunSettings → Result RunSettings PlanFault → Type 0
IsPlanOr settings (Ok plan) = (plan ≡ settings) × (plan_fault settings ≡ None)
IsPlanOr settings (Err NotWhole) = plan_fault settings ≡ Some NotWhole
IsPlanOr settings (Err RunTooLong) = plan_fault settings ≡ Some RunTooLong
IsPlanOr settings (Err Memory) = plan_fault settings ≡ None

-- how many of the times next, next + delta, next + 2 delta and so on have come by a time
abbrev pub times_by : Due → ℕ → ℕ
times_by due time = if nat_lt time due.next then 0 else (time - due.next) / due.delta + 1

-- the least of them above a time by which one has come
abbrev pub next_above : ℕ → Due → ℕ
next_above time due = due.next + times_by due time * due.delta

-- one of them has come since the first of two times
abbrev pub is_reached : Due → ℕ → ℕ → Bool
is_reached due before time = nat_lt (times_by due before) (times_by due time)

abbrev pub is_any_reached : List Due → ℕ → ℕ → Bool
is_any_reached dues before time = list_any (λ due. is_reached due before time) dues

-- lines of statistics are due at whole intervals from the run's start, or not at all
abbrev pub lines_due : RunSettings → List Due
lines_due settings = if settings.stats == 0 then [] else (record { next = settings.stats; delta = settings.stats } ∷ [])

-- the time after so many cycles
abbrev pub time_after : RunSettings → ℕ → ℕ
time_after settings done = settings.start + elapsed settings done

-- a line of statistics is written at a cycle's end where one is due, and after the last cycle
abbrev pub is_line_due : RunSettings → ℕ → Bool
is_line_due settings cycle =
    (cycle + 1 == cycles settings) || is_any_reached (lines_due settings) (elapsed settings cycle) (elapsed settings (cycle + 1))

-- a line of statistics or a snapshot is written at a cycle's end where one is due
abbrev pub is_mark : RunSettings → ℕ → Bool
is_mark settings cycle = is_line_due settings cycle || is_any_reached settings.dumps (time_after settings cycle) (time_after settings (cycle + 1))

abbrev pub is_line_after : RunSettings → ℕ → Bool
is_line_after settings step = is_last_of_cycle settings step && is_line_due settings (cycle_at settings step)

abbrev pub is_mark_after : RunSettings → ℕ → Bool
is_mark_after settings step = is_last_of_cycle settings step && is_mark settings (cycle_at settings step)

-- the marks at the ends of the cycles from one on, each by the number of cycles before it
abbrev pub marks_from : RunSettings → ℕ → List ℕ
marks_from settings cycle = map (λ marked. marked + 1) (filter (is_mark settings) (range_with_len cycle (cycles settings - cycle)))

-- all marks: the run's start is one
abbrev pub marks : RunSettings → List ℕ
marks settings = 0 ∷ marks_from settings 0

-- a line is written at this mark
abbrev pub has_line : RunSettings → ℕ → Bool
has_line settings zero = true
has_line settings (suc cycle) = is_line_due settings cycle
