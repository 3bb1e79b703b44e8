-- Laws of runs with sweeps: each cycle takes whole sweeps, so that their counts add up.
use Rattle.std.proofs.Common.{◌≡◌, ℕ, ◌+◌, ◌*◌, ◌/◌, ◌%◌, min, true, Some, ◌&&◌, refl, arith}
use Rattle.std.proofs.lemmas.Bool.{and_parts, eqb-true}
use Rattle.std.proofs.lemmas.Nat.{mul-mod_first}
use Rattle.spk_num.specs.declared.sweep.Sweep.{Sweep}
use Rattle.spk_sched.specs.declared.run_settings.RunSettings.{RunSettings}
use Rattle.spk_sched.specs.Plans.{cycle_ticks, elapsed, is_in_sweeps, is_whole, window}
use Rattle.spk_sched.proofs.PlanLaws.{elapsed_more}

-- a cycle and the run take whole sweeps
whole_parts : (settings : RunSettings) (style : Sweep) → settings.sweep ≡ Some style → is_whole settings ≡ true →
    (cycle_ticks settings % 1000000000 ≡ 0) × (settings.length % 1000000000 ≡ 0)
whole_parts settings style swept whole =
    let both : is_whole settings ≡ (is_in_sweeps (cycle_ticks settings) && is_in_sweeps settings.length) = rw swept refl in
    let (cycle, length) = and_parts (is_in_sweeps (cycle_ticks settings)) (is_in_sweeps settings.length) (cc (both, whole)) in
    (eqb-true (cycle_ticks settings % 1000000000) 0 cycle, eqb-true (settings.length % 1000000000) 0 length)

multiple : (ticks done : ℕ) → ticks % 1000000000 ≡ 0 → ticks * done % 1000000000 ≡ 0
multiple ticks done whole =
    let same : (ticks % 1000000000) * done % 1000000000 ≡ ticks * done % 1000000000 = mul-mod_first ticks done 1000000000 in
    grind (arith, same, whole)

whole_of_both : (length ticks : ℕ) → length % 1000000000 ≡ 0 → ticks % 1000000000 ≡ 0 → min length ticks % 1000000000 ≡ 0
whole_of_both length ticks first second = omega (arith, first, second)

-- so do any number of cycles
pub elapsed_in_sweeps : (settings : RunSettings) (style : Sweep) (done : ℕ) → settings.sweep ≡ Some style → is_whole settings ≡ true → elapsed settings done % 1000000000 ≡ 0
elapsed_in_sweeps settings style done swept whole =
    let (cycle, length) = whole_parts settings style swept whole in
    whole_of_both settings.length (cycle_ticks settings * done) length (multiple (cycle_ticks settings) done cycle)

quotients_add : (before more after : ℕ) → before + more ≡ after → before % 1000000000 ≡ 0 → after / 1000000000 ≡ before / 1000000000 + more / 1000000000
quotients_add before more after sum whole = omega (arith, sum, whole)

-- each cycle adds its sweeps to those before it
pub sweeps_more : (settings : RunSettings) (style : Sweep) (done : ℕ) → settings.sectors ≡ 1 → settings.sweep ≡ Some style → is_whole settings ≡ true →
    elapsed settings (done + 1) / 1000000000 ≡ elapsed settings done / 1000000000 + window settings done / 1000000000
sweeps_more settings style done one swept whole =
    quotients_add (elapsed settings done) (window settings done) (elapsed settings (done + 1)) (elapsed_more settings done one) (elapsed_in_sweeps settings style done swept whole)

-- a count that is cut at the greatest number at each step is the sum, cut once
pub sweeps_cut : (sweeps before more after most : ℕ) → after ≡ before + more → min (min (sweeps + before) most + more) most ≡ min (sweeps + after) most
sweeps_cut sweeps before more after most sum = omega (arith, sum)
