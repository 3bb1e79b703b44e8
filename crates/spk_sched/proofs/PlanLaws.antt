-- Laws of plans: how long a run goes on, and which marks are left after a cycle.
use Rattle.std.proofs.Common.{◌≡◌, ℕ, suc, ◌+◌, ◌-◌, ◌*◌, ◌/◌, ◌%◌, ◌^◌, ◌<◌, ◌≤◌, ◌==◌, true, false, Option, Some, None, [], ◌∷◌, inl, inr, refl, arith}
use Rattle.std.specs.Int.{div_ceil}
use Rattle.std.proofs.Math.Nat.{div-add-mod, div-one, mod-one, mod-lt}
use Rattle.spk_num.specs.declared.sweep.Sweep.{Sweep}
use Rattle.spk_sched.specs.declared.run_settings.Cycle.{Cycle}
use Rattle.spk_sched.specs.declared.run_settings.Cycle.TheVariants.{Ticks, Nstop}
use Rattle.spk_sched.specs.declared.run_settings.RunSettings.{RunSettings}
use Rattle.std.proofs.lemmas.Bool.{cases_Bool}
use Rattle.std.proofs.lemmas.Bool.Decides.{nat_tests}
use Rattle.spk_sched.specs.declared.plan.PlanFault.TheVariants.{NotWhole, RunTooLong}
use Rattle.spk_sched.specs.Plans.{IsRun, is_whole, is_too_long, plan_fault, cycle_number, ticks_by, cycle_ticks, cycles, elapsed, steps, cycle_at, window, is_mark, is_mark_after, marks_from}

-- a cycle takes one tick at least
some_ticks : (cycle : Cycle) (sweep : Option Sweep) (largest : ℕ) → 1 ≤ cycle_number cycle → 1 ≤ ticks_by cycle sweep largest
some_ticks (Ticks ticks) sweep largest some = some
some_ticks (Nstop millionths) None largest some = omega arith
some_ticks (Nstop millionths) (Some sweep) largest some = omega arith

covers : (ticks length : ℕ) → 1 ≤ ticks → length ≤ ticks * div_ceil length ticks
covers ticks length some =
    let whole : ticks * (length / ticks) + length % ticks ≡ length = div-add-mod length ticks in
    let rest : length % ticks < ticks = mod-lt length some in
    grind (arith, whole, rest)

-- all cycles together take the whole run
pub elapsed_all : (settings : RunSettings) → IsRun settings → elapsed settings (cycles settings) ≡ settings.length
elapsed_all settings is =
    let all : settings.length ≤ cycle_ticks settings * cycles settings = covers (cycle_ticks settings) settings.length (some_ticks settings.cycle settings.sweep settings.largest is.some_cycle) in
    omega (arith, all)

-- no time has passed at the start
pub elapsed_none : (settings : RunSettings) → elapsed settings 0 ≡ 0
elapsed_none settings = omega arith

pub elapsed_at_most : (settings : RunSettings) (done : ℕ) → elapsed settings done ≤ settings.length
elapsed_at_most settings done = omega arith

more : (ticks done : ℕ) → ticks * done ≤ ticks * (done + 1)
more ticks done = grind arith

-- with one sector, a step is a cycle
pub steps_are : (settings : RunSettings) → settings.sectors ≡ 1 → steps settings ≡ cycles settings
steps_are settings one = rw one (omega arith)

cycle_is : (settings : RunSettings) (step : ℕ) → settings.sectors ≡ 1 → cycle_at settings step ≡ step
cycle_is settings step one = rw one (div-one step)

-- its window leads from its start to its end
pub elapsed_more : (settings : RunSettings) (step : ℕ) → settings.sectors ≡ 1 → elapsed settings step + window settings step ≡ elapsed settings (step + 1)
elapsed_more settings step one =
    let further : cycle_ticks settings * step ≤ cycle_ticks settings * (step + 1) = more (cycle_ticks settings) step in
    rw (cycle_is settings step one) (omega (arith, further))

last_of_one : (step : ℕ) → (step % 1 + 1 == 1) ≡ true
last_of_one step = rw (mod-one step) refl

pub mark_is : (settings : RunSettings) (step : ℕ) → settings.sectors ≡ 1 → is_mark_after settings step ≡ is_mark settings step
mark_is settings step one = rw (cycle_is settings step one) (rw one (rw (last_of_one step) refl))

-- the marks from a cycle on, where something is written at its end and where nothing is
pub marks_more : (settings : RunSettings) (cycle : ℕ) → cycle < cycles settings → is_mark settings cycle ≡ true →
    marks_from settings cycle ≡ (cycle + 1) ∷ marks_from settings (cycle + 1)
marks_more settings cycle below marked =
    let more : cycles settings - cycle ≡ suc (cycles settings - (cycle + 1)) = omega arith in
    rw (more, marked) refl

pub marks_skip : (settings : RunSettings) (cycle : ℕ) → cycle < cycles settings → is_mark settings cycle ≡ false →
    marks_from settings cycle ≡ marks_from settings (cycle + 1)
marks_skip settings cycle below marked =
    let more : cycles settings - cycle ≡ suc (cycles settings - (cycle + 1)) = omega arith in
    rw (more, marked) refl

pub marks_none : (settings : RunSettings) (cycle : ℕ) → cycles settings ≤ cycle → marks_from settings cycle ≡ []
marks_none settings cycle past = let none : cycles settings - cycle ≡ 0 = omega arith in rw none refl

-- a run with a plan has no fault: with sweeps it takes whole ones, and it ends before the last number of 64 bits
pub whole_plan : (settings : RunSettings) → plan_fault settings ≡ None → is_whole settings ≡ true
whole_plan settings none =
    elim (cases_Bool (is_whole settings)) [
      | inl whole ↦ whole
      | inr not_whole ↦ let some : plan_fault settings ≡ Some NotWhole = rw not_whole refl in absurd (cc (some, none))
    ]

short_plan : (settings : RunSettings) → plan_fault settings ≡ None → is_too_long settings ≡ false
short_plan settings none =
    elim (cases_Bool (is_too_long settings)) [
      | inl long ↦ let some : plan_fault settings ≡ Some RunTooLong = rw (whole_plan settings none, long) refl in absurd (cc (some, none))
      | inr short ↦ short
    ]

pub in_time : (settings : RunSettings) → plan_fault settings ≡ None → settings.start + settings.length < 2 ^ 64
in_time settings none = let short : is_too_long settings ≡ false = short_plan settings none in grind (arith, nat_tests)
