-- Which points the shapes of regions hold. They are made after SPPARKS's regions.
-- Points are given in half units and decimals in units, so both are compared in millionths of half units. What lies on a bound is inside.
use Rattle.std.specs.Prelude.{◌≡◌, ℕ, ◌+◌, ◌*◌, ◌≤◌, Bool, true, false, ◌&&◌, ◌||◌, ◌==◌, if◌then◌else◌, nat_le, List, [], length, get_or, ℤ, pos, ◌-ℤ◌, ◌*ℤ◌, int_lt, int_le, unsigned_abs}
use Rattle.std.specs.List.{list_any, list_all}
use Rattle.spk_num.specs.declared.decimal.Dec.{Dec}
use Rattle.spk_num.specs.declared.shape.Bound.{Bound}
use Rattle.spk_num.specs.declared.shape.Bound.TheVariants.{At, Open}
use Rattle.spk_num.specs.declared.shape.Shape.{Shape}
use Rattle.spk_num.specs.declared.shape.Shape.TheVariants.{Block, Sphere, Cylinder, Union, Intersect}

-- a number of half units, and a number of units, in millionths of half units
abbrev pub half_units : ℤ → ℤ
half_units n = n *ℤ pos 1000000

abbrev pub units : Dec → ℤ
units dec = dec.millionths *ℤ pos 2

abbrev pub zero_units : Dec
zero_units = record { millionths = pos 0 }

-- a point's coordinate in half units, a centre's, and a bound, by their dimension
abbrev pub coordinate : List ℤ → ℕ → ℤ
coordinate point dimension = get_or point dimension (pos 0)

abbrev pub decimal_at : List Dec → ℕ → Dec
decimal_at decimals k = get_or decimals k zero_units

abbrev pub bound_at : List Bound → ℕ → Bound
bound_at bounds dimension = get_or bounds dimension (At zero_units)

-- a coordinate lies between two bounds; one that is open leaves it free
abbrev pub is_from : Bound → ℤ → Bool
is_from (At low) x = int_le (units low) (half_units x)
is_from Open x = true

abbrev pub is_to : Bound → ℤ → Bool
is_to (At high) x = int_le (half_units x) (units high)
is_to Open x = true

unfoldable pub is_between : Bound → Bound → ℤ → Bool
is_between low high x = is_from low x && is_to high x

-- a block holds the points between its bounds
abbrev pub is_between_at : List Bound → List Bound → List ℤ → ℕ → Bool
is_between_at lo hi point dimension = is_between (bound_at lo dimension) (bound_at hi dimension) (coordinate point dimension)

abbrev pub block_holds : List Bound → List Bound → List ℤ → Bool
block_holds lo hi point = is_between_at lo hi point 0 && is_between_at lo hi point 1 && is_between_at lo hi point 2

-- the square of a number, and how far a coordinate is from a centre's, squared
abbrev pub square : ℤ → ℕ
square n = unsigned_abs n * unsigned_abs n

unfoldable pub square_from : Dec → ℤ → ℕ
square_from centre x = square (half_units x -ℤ units centre)

unfoldable pub square_of : Dec → ℕ
square_of radius = square (units radius)

-- a sphere holds the points that are no farther from its centre than its radius
abbrev pub sphere_holds : List Dec → Dec → List ℤ → Bool
sphere_holds centre radius point =
    nat_le (square_from (decimal_at centre 0) (coordinate point 0) + square_from (decimal_at centre 1) (coordinate point 1) + square_from (decimal_at centre 2) (coordinate point 2)) (square_of radius)

-- the two dimensions across an axis, in their order
abbrev pub first_across : ℕ → ℕ
first_across axis = if axis == 0 then 1 else 0

abbrev pub second_across : ℕ → ℕ
second_across axis = if axis == 2 then 1 else 2

-- a cylinder holds the points that are no farther from its axis than its radius, and between its bounds along the axis
abbrev pub cylinder_holds : ℕ → List Dec → Dec → Bound → Bound → List ℤ → Bool
cylinder_holds axis centre radius low high point =
    nat_le (square_from (decimal_at centre 0) (coordinate point (first_across axis)) + square_from (decimal_at centre 1) (coordinate point (second_across axis))) (square_of radius)
    && is_between low high (coordinate point axis)

-- the names of a shape's parts
abbrev pub parts_of : Shape → List (List ℕ)
parts_of (Union parts) = parts
parts_of (Intersect parts) = parts
parts_of shape = []

-- whether a shape holds a point, where it is known which of its parts do: a union holds what any part holds, and an intersection what all parts hold
abbrev pub shape_holds : List Bool → Shape → List ℤ → Bool
shape_holds answers (Block lo hi) point = block_holds lo hi point
shape_holds answers (Sphere centre radius) point = sphere_holds centre radius point
shape_holds answers (Cylinder axis centre radius low high) point = cylinder_holds axis centre radius low high point
shape_holds answers (Union parts) point = list_any (λ answer. answer) answers
shape_holds answers (Intersect parts) point = list_all (λ answer. answer) answers

-- a low bound is above a high one; an open one never is
abbrev pub is_above : Bound → Bound → Bool
is_above (At low) (At high) = int_lt high.millionths low.millionths
is_above low high = false

abbrev pub is_above_at : List Bound → List Bound → ℕ → Bool
is_above_at lo hi dimension = is_above (bound_at lo dimension) (bound_at hi dimension)

abbrev pub is_block_empty : List Bound → List Bound → Bool
is_block_empty lo hi = is_above_at lo hi 0 || is_above_at lo hi 1 || is_above_at lo hi 2

-- no point can lie in a shape: a low bound of it is above the high one, or it has no parts
abbrev pub is_empty : Shape → Bool
is_empty (Block lo hi) = is_block_empty lo hi
is_empty (Sphere centre radius) = false
is_empty (Cylinder axis centre radius low high) = is_above low high
is_empty (Union parts) = length parts == 0
is_empty (Intersect parts) = length parts == 0

-- a point that is at most 2^24 half units from 0 in each dimension
pub record IsPoint (point : List ℤ) : Type 0 where
  pub x : unsigned_abs (get_or point 0 (pos 0)) ≤ 16777216
  pub y : unsigned_abs (get_or point 1 (pos 0)) ≤ 16777216
  pub z : unsigned_abs (get_or point 2 (pos 0)) ≤ 16777216

-- a number of at most 10000000 units in absolute value
abbrev pub IsNear : Dec → Type 0
IsNear dec = unsigned_abs dec.millionths ≤ 10000000000000

abbrev pub IsNearBound : Bound → Type 0
IsNearBound (At dec) = IsNear dec
IsNearBound Open = Unit {0}

abbrev pub AreNearBounds : List Bound → Type 0
AreNearBounds bounds = IsNearBound (bound_at bounds 0) × IsNearBound (bound_at bounds 1) × IsNearBound (bound_at bounds 2)

abbrev pub IsRadius : Dec → Type 0
IsRadius dec = (int_lt dec.millionths (pos 0) ≡ false) × IsNear dec

-- the numbers of a shape are near, its radius is at least 0, and its axis is 0, 1 or 2
abbrev pub IsInRange : Shape → Type 0
IsInRange (Block lo hi) = AreNearBounds lo × AreNearBounds hi
IsInRange (Sphere centre radius) = IsNear (decimal_at centre 0) × IsNear (decimal_at centre 1) × IsNear (decimal_at centre 2) × IsRadius radius
IsInRange (Cylinder axis centre radius low high) = (axis ≤ 2) × IsNear (decimal_at centre 0) × IsNear (decimal_at centre 1) × IsRadius radius × IsNearBound low × IsNearBound high
IsInRange (Union parts) = Unit {0}
IsInRange (Intersect parts) = Unit {0}
