-- A sum tree: its nodes in one list, the root first, and the 16 children of node k at 16 k + 1 to 16 k + 16. Each node that has
-- children has the sum of theirs, and the leaves have the list.
use Rattle.std.specs.Prelude.{◌≡◌, ℕ, zero, suc, ◌+◌, ◌*◌, ◌/◌, ◌^◌, ◌<◌, ◌≤◌, nat_lt, if◌then◌else◌, List, length, take, drop, sum, slice_index, All}

-- how often a number can be halved before it is below 2, of so many times at most
abbrev pub halvings : ℕ → ℕ → ℕ
halvings zero n = 0
halvings (suc more) n = if nat_lt n 2 then 0 else halvings more (n / 2) + 1

-- the most steps of a search in a list of so many: the greatest p with 2^p at most 4 n + 4
unfoldable pub search_steps : ℕ → ℕ
search_steps n = halvings (4 * n + 4) (4 * n + 4)

-- the sum of the first k
unfoldable pub prefix_sum : List ℕ → ℕ → ℕ
prefix_sum xs k = sum (take k xs)

-- the first node of level d
unfoldable pub start : ℕ → ℕ
start zero = 0
start (suc d) = 16 * start d + 1

-- each of the first so many nodes has the sum of its children
abbrev pub AddUp : List ℕ → ℕ → Type 0
AddUp nodes base = (m : ℕ) → m < base → slice_index nodes m + prefix_sum nodes (16 * m + 1) ≡ prefix_sum nodes (16 * m + 17)

-- The leaves begin at the base, which is the start of the deepest level. It is the least level with places for the list, and
-- after the list there are zeros alone.
pub record IsTree (nodes : List ℕ) (base depth used room : ℕ) : Type 0 where
  pub inner : AddUp nodes base
  pub base_is : base ≡ start depth
  pub fits : used ≤ 15 * base + 1
  pub shallow : 2 ^ depth ≤ 4 * used + 4
  pub within : used ≤ room
  pub few : room ≤ 4194304
  pub flat : base ≤ 8388608
  pub whole_blocks : (q : ℕ) × (length nodes ≡ 16 * q + 1)
  pub deepest : (e : ℕ) × (room ≤ 15 * start e + 1) × (start e + room ≤ length nodes)
  pub inside : base + used ≤ length nodes
  pub tail : sum (drop (base + used) nodes) ≡ 0
  pub small : All (λ w. w ≤ 2 ^ 35) (take used (drop base nodes))

-- All nodes add up but the parent of one, which still counts its old value in place of the new one.
pub record IsOffAbove (nodes : List ℕ) (base at old new : ℕ) : Type 0 where
  pub inside : at < length nodes
  pub below : at ≤ 16 * base
  pub counted : new ≤ slice_index nodes at
  pub others : (m : ℕ) → m < base → (16 * m + 1 ≤ at → 16 * m + 16 < at) → slice_index nodes m + prefix_sum nodes (16 * m + 1) ≡ prefix_sum nodes (16 * m + 17)
  pub parent : (m : ℕ) → m < base → 16 * m + 1 ≤ at → at ≤ 16 * m + 16 → slice_index nodes m + prefix_sum nodes (16 * m + 1) + new ≡ prefix_sum nodes (16 * m + 17) + old
