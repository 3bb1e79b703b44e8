-- The definition of times that are due is right: one is reached where it lies in the span after the first time, up to the second.
use Rattle.std.proofs.Common.{◌≡◌, ℕ, ◌+◌, ◌-◌, ◌*◌, ◌/◌, ◌<◌, ◌≤◌, true, false, inl, inr, refl, arith}
use Rattle.std.specs.Prelude.{nat_lt}
use Rattle.std.proofs.Math.Nat.{div-mul-le_self}
use Rattle.std.proofs.lemmas.Bool.{cases_Bool, cases_lt, lt-ltb, ltb-true}
use Rattle.std.proofs.lemmas.Bool.Decides.{nat_tests}
use Rattle.std.proofs.lemmas.Nat.{le-div, mul-le}
use Rattle.spk_sched.specs.declared.dues.Due.{Due}
use Rattle.spk_sched.specs.Plans.{times_by, is_reached}

-- the m-th of the times, from 0 on
abbrev due_time : Due → ℕ → ℕ
due_time due m = due.next + m * due.delta

-- it has come by a time if so many of them have
come_by : (due : Due) (m time : ℕ) → m < times_by due time → due_time due m ≤ time
come_by due m time below =
    elim (cases_Bool (nat_lt time due.next)) [
      | inl early ↦ let none : times_by due time ≡ 0 = rw early refl in omega (arith, none, below)
      | inr late ↦
          let some : times_by due time ≡ (time - due.next) / due.delta + 1 = rw late refl in
          let since : due.next ≤ time = grind (arith, nat_tests) in
          let times : m * due.delta ≤ (time - due.next) / due.delta * due.delta = mul-le m due.delta ((time - due.next) / due.delta) due.delta (omega (arith, some, below)) (omega arith) in
          let whole : (time - due.next) / due.delta * due.delta ≤ time - due.next = div-mul-le_self (time - due.next) due.delta in
          omega (arith, since, times, whole)
    ]

by_come : (due : Due) (m time : ℕ) → 1 ≤ due.delta → due_time due m ≤ time → m < times_by due time
by_come due m time some come =
    let late : nat_lt time due.next ≡ false = grind (arith, nat_tests) in
    let all : times_by due time ≡ (time - due.next) / due.delta + 1 = rw late refl in
    let times : m ≤ (time - due.next) / due.delta = le-div m (time - due.next) due.delta some (omega (arith, come)) in
    omega (arith, all, times)

-- the first that has not come by the first time lies in the span
pub reached_at : (due : Due) (before time : ℕ) → 1 ≤ due.delta → is_reached due before time ≡ true →
    (m : ℕ) × (before < due.next + m * due.delta) × (due.next + m * due.delta ≤ time)
reached_at due before time some reached =
    let more : times_by due before < times_by due time = ltb-true (times_by due before) (times_by due time) reached in
    let come : due_time due (times_by due before) ≤ time = come_by due (times_by due before) time more in
    elim (cases_lt before (due_time due (times_by due before))) [
      | inl after ↦ (times_by due before, after, come)
      | inr early ↦ let one_more : times_by due before < times_by due before = by_come due (times_by due before) before some early in absurd (omega (arith, one_more))
    ]

pub at_reached : (due : Due) (before time m : ℕ) → 1 ≤ due.delta → before < due.next + m * due.delta → due.next + m * due.delta ≤ time → is_reached due before time ≡ true
at_reached due before time m some after come =
    let by_time : m < times_by due time = by_come due m time some come in
    elim (cases_lt m (times_by due before)) [
      | inl earlier ↦ let come_before : due_time due m ≤ before = come_by due m before earlier in absurd (omega (arith, after, come_before))
      | inr not_yet ↦ let more : times_by due before < times_by due time = omega (arith, by_time, not_yet) in lt-ltb (times_by due before) (times_by due time) more
    ]
