-- The definitions of rings are right: cuts count on without an end, and the parts of one kind make a ring.
use Rattle.std.proofs.Common.{◌≡◌, ℕ, zero, suc, ◌+◌, ◌*◌, ◌/◌, ◌%◌, ◌<◌, ◌≤◌, refl, arith}
use Rattle.std.proofs.Math.Nat.{add-mul-div_right, div-one}
use Rattle.std.proofs.lemmas.Nat.{div-add-mod', le-div, mod_below}
use Rattle.spk_sched.specs.declared.part.Part.TheVariants.{Whole, Lower, Upper}
use Rattle.spk_sched.specs.Rings.{cut, middle, part_from, part_to, HalvesHave, IsRing}

-- one rank has all cells
pub first_cut : (n : ℕ) → cut n 1 0 ≡ 0
first_cut n =
    let none : 0 * n ≡ 0 = omega arith in
    rw none (div-one 0)

pub last_cut : (n : ℕ) → cut n 1 1 ≡ n
last_cut n =
    let all : 1 * n ≡ n = omega arith in
    rw all (div-one n)

-- the cuts, a lap on
pub cut_lap : (n p a : ℕ) → 0 < p → cut n p (a + p) ≡ cut n p a + n
cut_lap n p a some =
    let e : (a + p) * n ≡ a * n + n * p = omega arith in
    rw (e, add-mul-div_right) refl

pub middle_lap : (n p a : ℕ) → 0 < p → middle n p (a + p) ≡ middle n p a + n
middle_lap n p a some =
    let first : cut n p (a + p) ≡ cut n p a + n = cut_lap n p a some in
    let second : cut n p (suc a + p) ≡ cut n p (suc a) + n = cut_lap n p (suc a) some in
    let e : suc a + p ≡ suc (a + p) = omega arith in
    let second' : cut n p (suc (a + p)) ≡ cut n p (suc a) + n = rw e at second in
    omega (arith, first, second')

next_lap : (n p a : ℕ) → 0 < p → cut n p (suc (a + p)) ≡ cut n p (suc a) + n
next_lap n p a some =
    let e : suc a + p ≡ suc (a + p) = omega arith in
    rw e at (cut_lap n p (suc a) some)

cut_rises : (n p a : ℕ) → 0 < p → cut n p a ≤ cut n p (suc a)
cut_rises n p a some =
    let floor : a * n / p * p + (a * n) % p ≡ a * n = div-add-mod' (a * n) p in
    le-div (a * n / p) (suc a * n) p some (omega arith)

-- k laps on
laps : (n p : ℕ) (f : ℕ → ℕ) → ((a : ℕ) → f (a + p) ≡ f a + n) → (a k : ℕ) → f (a + k * p) ≡ f a + k * n
laps n p f lap a zero =
    let e : a + zero * p ≡ a = omega arith in
    rw e (omega arith)
laps n p f lap a (suc k) =
    let e : a + suc k * p ≡ (a + k * p) + p = omega arith in
    let before : f (a + k * p) ≡ f a + k * n = laps n p f lap a k in
    let last : f ((a + k * p) + p) ≡ f (a + k * p) + n = lap (a + k * p) in
    rw e (omega arith)

-- the halves in any lap are as long as those in the first
halves_on : (w n p a k : ℕ) → 0 < p → (cut n p a + w ≤ middle n p a) × (middle n p a + w ≤ cut n p (suc a)) →
    (cut n p (a + k * p) + w ≤ middle n p (a + k * p)) × (middle n p (a + k * p) + w ≤ cut n p (suc (a + k * p)))
halves_on w n p a k some have =
    let lap : (b : ℕ) → cut n p (b + p) ≡ cut n p b + n = λ b. cut_lap n p b some in
    let from : cut n p (a + k * p) ≡ cut n p a + k * n = laps n p (cut n p) lap a k in
    let half : middle n p (a + k * p) ≡ middle n p a + k * n = laps n p (middle n p) (λ b. middle_lap n p b some) a k in
    let e : suc a + k * p ≡ suc (a + k * p) = omega arith in
    let to : cut n p (suc (a + k * p)) ≡ cut n p (suc a) + k * n = rw e at (laps n p (cut n p) lap (suc a) k) in
    (omega (arith, from, half, have.0), omega (arith, to, half, have.1))

halves : (w n p a : ℕ) → 0 < p → HalvesHave w n p → (cut n p a + w ≤ middle n p a) × (middle n p a + w ≤ cut n p (suc a))
halves w n p a some have =
    let e : a % p + a / p * p ≡ a = omega (arith, div-add-mod' a p) in
    rw e at (halves_on w n p (a % p) (a / p) some (have (a % p) (mod_below a p some)))

-- whole intervals touch
pub whole_ring : (n p : ℕ) → 0 < p → IsRing n p 0 (cut n p) (part_from n p Whole) (part_to n p Whole)
whole_ring n p some = record {
  begins = omega arith;
  lap_lo = λ a. cut_lap n p a some;
  lap_from = λ a. cut_lap n p a some;
  lap_to = λ a. next_lap n p a some;
  low = λ a. omega arith;
  some = λ a. cut_rises n p a some;
  high = λ a. omega arith;
  gap = λ a. omega arith;
}

-- between two halves of one kind there is a half of the other
pub lower_ring : (w n p : ℕ) → 0 < p → HalvesHave w n p → IsRing n p w (cut n p) (part_from n p Lower) (part_to n p Lower)
lower_ring w n p some have = record {
  begins = omega arith;
  lap_lo = λ a. cut_lap n p a some;
  lap_from = λ a. cut_lap n p a some;
  lap_to = λ a. middle_lap n p a some;
  low = λ a. omega arith;
  some = λ a. omega (arith, (halves w n p a some have).0);
  high = λ a. omega (arith, (halves w n p a some have).1);
  gap = λ a. (halves w n p a some have).1;
}

pub upper_ring : (w n p : ℕ) → 0 < p → HalvesHave w n p → IsRing n p w (cut n p) (part_from n p Upper) (part_to n p Upper)
upper_ring w n p some have = record {
  begins = omega arith;
  lap_lo = λ a. cut_lap n p a some;
  lap_from = λ a. middle_lap n p a some;
  lap_to = λ a. next_lap n p a some;
  low = λ a. omega (arith, (halves w n p a some have).0);
  some = λ a. omega (arith, (halves w n p a some have).1);
  high = λ a. omega arith;
  gap = λ a. (halves w n p (suc a) some have).0;
}
