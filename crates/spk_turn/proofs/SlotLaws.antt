-- The places of slots.
use Rattle.std.proofs.Common.{◌≡◌, ℕ, ◌+◌, ◌-◌, ◌*◌, ◌/◌, ◌%◌, ◌<◌, ◌≤◌, All, length, get_or, sym, ap, subst, ◌∙◌, arith, None, Some}
use Rattle.std.proofs.Math.Nat.{mul-le-mul_right}
use Rattle.spk_lattice.specs.Layout.{basis_of, sites_of}
use Rattle.spk_lattice.specs.Neighbours.{IsSpot, spot_at, id_of}
use Rattle.spk_lattice.specs.Boxes.{width, layout_of, place_in}
use Rattle.spk_lattice.proofs.Boxes.{IsAt, length-places, places_at, places_below, shown_apart, shown_below, shown_is, lies_at, lies_in, number_shown, shown_within, some_sized, box_few}
use Rattle.spk_lattice.proofs.Spots.{IsSized, id_less}
use Rattle.spk_lattice.proofs.Room.{IsSmall, small}
use Rattle.spk_turn.specs.Slots.{BoxSlots, AreSlots, IsSlotAt, slot_count, place_of, places}
use Rattle.spk_turn.proofs.Anew.{AreApart}

pub count_is : (s : BoxSlots) → length (places s) ≡ slot_count s
count_is s = length-places s.view s.cells

pub place_at : (s : BoxSlots) (slot : ℕ) → slot < slot_count s → get_or (places s) slot 0 ≡ place_of s slot
place_at s slot less = places_at s.view s.cells slot less

pub all_below : (s : BoxSlots) → AreSlots s → All (λ j. j < sites_of s.view) (places s)
all_below s are = places_below s.view s.cells are.inside

pub places_apart : (s : BoxSlots) → AreSlots s → AreApart (places s)
places_apart s are = λ slot other less less' same.
    let first : slot < slot_count s = omega (arith, less, count_is s) in
    let second : other < slot_count s = omega (arith, less', count_is s) in
    shown_apart s.view s.cells are.inside slot other first second (sym (place_at s slot first) ∙ same ∙ place_at s other second)

pub count_small : (s : BoxSlots) → AreSlots s → slot_count s ≤ 4194304
count_small s are = omega (arith, box_few s.view s.cells are.inside, are.limit)

pub count_by : (s : BoxSlots) (points across down deep : ℕ) → AreSlots s → points ≡ basis_of s.view.style → across ≡ width s.cells.x → down ≡ width s.cells.y → deep ≡ width s.cells.z → points * (across * down * deep) ≤ 4194304
count_by s points across down deep are is_points is_across is_down is_deep = rw (is_points, is_across, is_down, is_deep) (count_small s are)

-- the cell of a slot's site, and its place
pub record Placed (s : BoxSlots) (points across down slot x y z : ℕ) : Type 0 where
  pub few : slot ≤ 4194304
  pub deep : z ≤ 4194304
  pub small : IsSmall points s.view.nx s.view.ny x y z (slot % points) 4194304
  pub place : slot % points + points * (x + s.view.nx * (y + s.view.ny * z)) ≡ place_of s slot
  pub inside : slot % points + points * (x + s.view.nx * (y + s.view.ny * z)) < sites_of s.view

placed_by : (s : BoxSlots) (slot : ℕ) → AreSlots s → slot < slot_count s →
    Placed s (basis_of s.view.style) (width s.cells.x) (width s.cells.y) slot (lies_at s.view s.cells slot).x (lies_at s.view s.cells slot).y (lies_at s.view s.cells slot).z
placed_by s slot are less =
    let spot = lies_at s.view s.cells slot in
    let is : IsSpot s.view spot = lies_in s.view s.cells are.inside slot less in
    let below : id_of s.view spot ≤ sites_of s.view = id_less s.view spot is in
    let shown : place_of s slot ≡ id_of s.view spot - 1 = shown_is s.view s.cells are.inside slot less in
    let fine : IsSized s.view = some_sized s.view (place_of s slot) (shown_below s.view s.cells are.inside slot less) in
    let parts : IsSmall (basis_of s.view.style) s.view.nx s.view.ny spot.x spot.y spot.z spot.basis 4194304 =
    small (basis_of s.view.style) s.view.nx s.view.ny spot.x spot.y spot.z spot.basis 4194304 fine.basis fine.x (omega (arith, below, are.limit)) in
    let layers : s.view.ny * spot.z ≤ 4194304 = parts.beside in
    let one : 1 * spot.z ≤ s.view.ny * spot.z = mul-le-mul_right spot.z fine.y in
    record {
      few = omega (arith, less, count_small s are);
      deep = omega (arith, one, layers);
      small = parts;
      place = omega (arith, shown);
      inside = omega (arith, below);
    }

pub placed : (s : BoxSlots) (points across down slot : ℕ) → AreSlots s → basis_of s.view.style ≡ points → across ≡ width s.cells.x → down ≡ width s.cells.y → slot < slot_count s →
    Placed s points across down slot (s.cells.x.from + slot / points % across) (s.cells.y.from + slot / points / across % down) (s.cells.z.from + slot / points / across / down)
placed s points across down slot are is_points is_across is_down less =
    rw (is_across, is_down, ← is_points) (placed_by s slot are less)

-- the number of a place's site among those of the box
pub record Numbered (s : BoxSlots) (points across down place x y z : ℕ) : Type 0 where
  pub small : IsSmall points across down x y z (place % points) 4194304
  pub is : IsSlotAt s place (Some (place % points + points * (x + across * (y + down * z))))

numbered_by : (s : BoxSlots) (place x y z : ℕ) → AreSlots s → place < sites_of s.view →
    x ≡ (spot_at s.view place).x - s.cells.x.from → y ≡ (spot_at s.view place).y - s.cells.y.from → z ≡ (spot_at s.view place).z - s.cells.z.from →
    IsAt s.cells.x (spot_at s.view place).x → IsAt s.cells.y (spot_at s.view place).y → IsAt s.cells.z (spot_at s.view place).z →
    Numbered s (basis_of s.view.style) (width s.cells.x) (width s.cells.y) place x y z
numbered_by s place x y z are less is_x is_y is_z in_x in_y in_z =
    let basis : ℕ = basis_of s.view.style in
    let b : ℕ = place % basis in
    let number : ℕ = b + basis * (x + width s.cells.x * (y + width s.cells.y * z)) in
    let shown : (place_in (layout_of s.view s.cells) x y z b < slot_count s) × (place_of s (place_in (layout_of s.view s.cells) x y z b) ≡ place) =
    rw (is_x, is_y, is_z) (number_shown s.view s.cells (some_sized s.view place less) are.inside place less in_x in_y in_z) in
    let is : place_in (layout_of s.view s.cells) x y z b ≡ number = omega arith in
    let few : number < slot_count s = omega (arith, is, shown.0) in
    let fine : IsSized (layout_of s.view s.cells) = some_sized (layout_of s.view s.cells) number few in
    record {
      small = small basis (width s.cells.x) (width s.cells.y) x y z b 4194304 fine.basis fine.x (omega (arith, few, count_small s are));
      is = (few, ap (place_of s) (sym is) ∙ shown.1);
    }

pub numbered : (s : BoxSlots) (points across down place x y z : ℕ) → AreSlots s → basis_of s.view.style ≡ points → across ≡ width s.cells.x → down ≡ width s.cells.y → place < sites_of s.view →
    s.cells.x.from + x ≡ place / points % s.view.nx → s.cells.y.from + y ≡ place / points / s.view.nx % s.view.ny → s.cells.z.from + z ≡ place / points / s.view.nx / s.view.ny →
    x < across → y < down → z < width s.cells.z → Numbered s points across down place x y z
numbered s points across down place x y z are is_points is_across is_down less at_x at_y at_z less_x less_y less_z =
    let x_is : s.cells.x.from + x ≡ (spot_at s.view place).x = at_x ∙ ap (λ n. place / n % s.view.nx) (sym is_points) in
    let y_is : s.cells.y.from + y ≡ (spot_at s.view place).y = at_y ∙ ap (λ n. place / n / s.view.nx % s.view.ny) (sym is_points) in
    let z_is : s.cells.z.from + z ≡ (spot_at s.view place).z = at_z ∙ ap (λ n. place / n / s.view.nx / s.view.ny) (sym is_points) in
    rw (is_across, is_down, ← is_points)
    (numbered_by s place x y z are less (omega (arith, x_is)) (omega (arith, y_is)) (omega (arith, z_is))
    (record { low = omega (arith, x_is); high = omega (arith, x_is, less_x, is_across) })
    (record { low = omega (arith, y_is); high = omega (arith, y_is, less_y, is_down) })
    (record { low = omega (arith, z_is); high = omega (arith, z_is, less_z) }))

-- the box has a place where it has its cell
pub nowhere : (s : BoxSlots) (points place : ℕ) → AreSlots s → basis_of s.view.style ≡ points →
    (IsAt s.cells.x (place / points % s.view.nx) → IsAt s.cells.y (place / points / s.view.nx % s.view.ny) → IsAt s.cells.z (place / points / s.view.nx / s.view.ny) → ⊥) →
    IsSlotAt s place None
nowhere s points place are is_points away = λ slot less shows.
    let within = shown_within s.view s.cells are.inside slot place less shows in
    let x : IsAt s.cells.x (place / points % s.view.nx) = subst (λ n. IsAt s.cells.x (place / n % s.view.nx)) is_points within.0 in
    let y : IsAt s.cells.y (place / points / s.view.nx % s.view.ny) = subst (λ n. IsAt s.cells.y (place / n / s.view.nx % s.view.ny)) is_points within.1 in
    let z : IsAt s.cells.z (place / points / s.view.nx / s.view.ny) = subst (λ n. IsAt s.cells.z (place / n / s.view.nx / s.view.ny)) is_points within.2 in
    away x y z
