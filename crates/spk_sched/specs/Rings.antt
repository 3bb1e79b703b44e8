-- One dimension of a lattice, cut among ranks, after the report SAND2009-6226; where the cuts lie is our own rule. Cells and
-- ranks are counted on without an end: the cell n after a cell is the same cell, and the rank p after a rank the same rank.
use Rattle.std.specs.Prelude.{ℕ, suc, ◌≡◌, ◌+◌, ◌*◌, ◌/◌, ◌<◌, ◌≤◌}
use Rattle.spk_lattice.specs.Boxes.{Interval}
use Rattle.spk_sched.specs.declared.part.Part.{Part}
use Rattle.spk_sched.specs.declared.part.Part.TheVariants.{Whole, Lower, Upper}

-- where the interval of a rank begins, of n cells and p ranks; that of the next rank ends it
abbrev pub cut : ℕ → ℕ → ℕ → ℕ
cut n p a = a * n / p

-- where the interval of a rank is halved
abbrev pub middle : ℕ → ℕ → ℕ → ℕ
middle n p a = (cut n p a + cut n p (suc a)) / 2

-- the part of its interval on which a rank works in a step
abbrev pub part_from : ℕ → ℕ → Part → ℕ → ℕ
part_from n p Whole a = cut n p a
part_from n p Lower a = cut n p a
part_from n p Upper a = middle n p a

abbrev pub part_to : ℕ → ℕ → Part → ℕ → ℕ
part_to n p Whole a = cut n p (suc a)
part_to n p Lower a = middle n p a
part_to n p Upper a = cut n p (suc a)

abbrev pub part : ℕ → ℕ → Part → ℕ → Interval
part n p which a = record { from = part_from n p which a; to = part_to n p which a }

-- a cell lies in an interval that is so many cells wider at both ends
pub record IsInWide (w : ℕ) (along : Interval) (cell : ℕ) : Type 0 where
  pub low : along.from ≤ cell + w
  pub high : cell < along.to + w

-- each half of each rank's interval has so many cells
abbrev pub HalvesHave : ℕ → ℕ → ℕ → Type 0
HalvesHave w n p = (a : ℕ) → a < p → (cut n p a + w ≤ middle n p a) × (middle n p a + w ≤ cut n p (suc a))

-- Parts that lie so many cells apart, each within the interval of its rank, round and round. The intervals begin at `lo`.
pub record IsRing (n p w : ℕ) (lo from to : ℕ → ℕ) : Type 0 where
  pub begins : lo 0 ≡ 0
  pub lap_lo : (a : ℕ) → lo (a + p) ≡ lo a + n
  pub lap_from : (a : ℕ) → from (a + p) ≡ from a + n
  pub lap_to : (a : ℕ) → to (a + p) ≡ to a + n
  pub low : (a : ℕ) → lo a ≤ from a
  pub some : (a : ℕ) → from a ≤ to a
  pub high : (a : ℕ) → to a ≤ lo (suc a)
  pub gap : (a : ℕ) → to a + w ≤ from (suc a)
