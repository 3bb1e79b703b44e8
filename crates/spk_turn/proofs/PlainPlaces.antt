-- Hops from place to place of a plain view.
use Rattle.std.proofs.Common.{◌≡◌, ◌≢◌, ℕ, zero, suc, ◌+◌, ◌-◌, ◌<◌, ◌≤◌, List, map, length, get_or, sym, ap, ◌∙◌, subst, inl, inr, arith}
use Rattle.std.proofs.lemmas.List.{length-map, get_or-map, get_or_default}
use Rattle.std.proofs.lemmas.List.Elements.{All-get_or, All-map, All-weaker}
use Rattle.std.specs.Prelude.{All, AllPairs, Contains}
use Rattle.spk_lattice.specs.Hops.{IsWithin, IsMutual, ReachesAtMost}
use Rattle.spk_lattice.specs.Layout.{Layout, IsLattice, sites_of}
use Rattle.spk_lattice.specs.Neighbours.{IsId, nb}
use Rattle.spk_lattice.specs.Spread.{spread}
use Rattle.spk_lattice.proofs.Balls.{at_most_spread}
use Rattle.spk_lattice.proofs.Spreads.{spread_four}
use Rattle.spk_lattice.proofs.Ways.{all_exist, both_ways}
use Rattle.spk_app.specs.PlainViews.{PlainSites, places_beside, sight_of}
use Rattle.spk_turn.proofs.Hops.{reaches_fewer}

-- the site at a place
id_at : (l : Layout) (i : ℕ) → i < sites_of l → IsId l (i + 1)
id_at l i less = record { some = omega arith; exists = omega arith }

-- a place beside another has the id of a neighbour
id_beside : (l : Layout) (i j : ℕ) → IsLattice l → i < sites_of l → Contains (places_beside l i) j → Contains (nb l (i + 1)) (j + 1)
id_beside l i j lattice less (k, within, at) =
    let ids : List ℕ = nb l (i + 1) in
    let there : k < length ids = omega (arith, length-map ids (λ id. id - 1)) in
    let exists : IsId l (get_or ids k 0) = All-get_or (IsId l) ids k 0 there (all_exist l (i + 1) lattice (id_at l i less)) in
    let read : get_or (places_beside l i) k j ≡ get_or ids k 0 - 1 = get_or-map (λ id. id - 1) ids k 0 j there in
    (k, there, get_or_default ids k (j + 1) 0 there ∙ omega (arith, exists.some, read, at))

place_beside : (l : Layout) (i id : ℕ) → Contains (nb l (i + 1)) id → Contains (places_beside l i) (id - 1)
place_beside l i id (k, there, at) =
    let ids : List ℕ = nb l (i + 1) in
    (k, omega (arith, there, length-map ids (λ id. id - 1)), get_or-map (λ id. id - 1) ids k id (id - 1) there ∙ ap (λ n. n - 1) at)

-- each place beside another is in the view, and the other beside it
pub places_mutual : (l : Layout) → IsLattice l → IsMutual (places_beside l) (λ j. j < sites_of l)
places_mutual l lattice = record {
  inside = λ i j less next.
      let exists : IsId l (j + 1) = (both_ways l lattice).inside (i + 1) (j + 1) (id_at l i less) (id_beside l i j lattice less next) in
      omega (arith, exists.exists);
  back = λ i j less next.
      let back : Contains (nb l (j + 1)) (i + 1) = (both_ways l lattice).back (i + 1) (j + 1) (id_at l i less) (id_beside l i j lattice less next) in
      let same : i + 1 - 1 ≡ i = omega arith in
      subst (λ k. Contains (places_beside l j) k) same (place_beside l j (i + 1) back);
}

-- as many hops lead from site to site
ids_within : (l : Layout) (d i j : ℕ) → IsLattice l → i < sites_of l → IsWithin (places_beside l) d i j → IsWithin (nb l) d (i + 1) (j + 1)
unfolding IsWithin
ids_within l zero i j lattice less same = ap (λ n. n + 1) same
ids_within l (suc d) i j lattice less (inl same) = inl (ap (λ n. n + 1) same)
ids_within l (suc d) i j lattice less (inr (k, next, rest)) = inr (k + 1, id_beside l i k lattice less next, ids_within l d k j lattice ((places_mutual l lattice).inside i k less next) rest)

once_after : (xs : List ℕ) → AllPairs (λ a b. a ≢ b) xs → AllPairs (λ a b. a ≢ b) (map (λ j. j + 1) xs)
once_after xs once = λ i j d less within same.
    let within_j : j < length xs = omega (arith, within, length-map xs (λ j. j + 1)) in
    let within_i : i < length xs = omega arith in
    let first : get_or (map (λ j. j + 1) xs) i d ≡ get_or xs i 0 + 1 = get_or-map (λ j. j + 1) xs i 0 d within_i in
    let second : get_or (map (λ j. j + 1) xs) j d ≡ get_or xs j 0 + 1 = get_or-map (λ j. j + 1) xs j 0 d within_j in
    once i j 0 less within_j (omega (arith, first, second, same))

pub places_spread : (l : Layout) (d i : ℕ) → IsLattice l → i < sites_of l → d ≤ 7 → ReachesAtMost (places_beside l) d i (spread l.style d)
unfolding ReachesAtMost
places_spread l d i lattice less few = λ xs once there.
    let ids : List ℕ = map (λ j. j + 1) xs in
    let within : All (λ id. IsWithin (nb l) d (i + 1) id) ids =
    All-map (λ id. IsWithin (nb l) d (i + 1) id) (λ j. j + 1) xs (All-weaker (λ j. IsWithin (places_beside l) d i j) (λ j. IsWithin (nb l) d (i + 1) (j + 1)) (λ j h. ids_within l d i j lattice less h) xs there) in
    omega (arith, at_most_spread l (i + 1) d lattice (id_at l i less) few ids (once_after xs once) within, length-map xs (λ j. j + 1))

-- there is room for all places that a turn gathers
pub places_room : (l : Layout) (d i : ℕ) → IsLattice l → i < sites_of l → d ≤ 4 → ReachesAtMost (places_beside l) d i 729
places_room l d i lattice less few = reaches_fewer (places_beside l) d 4 i (spread l.style 4) 729 few (spread_four l.style) (places_spread l 4 i lattice less (omega arith))

-- a plain view has the values of all sites of its lattice
pub record IsFull (v : PlainSites) : Type 0 where
  pub lattice : IsLattice v.lattice
  pub all : length v.values ≡ sites_of v.lattice

pub plain_mutual : (v : PlainSites) → IsFull v → IsMutual (sight_of v).near (λ j. j < length (sight_of v).values)
plain_mutual v full = subst (λ n. IsMutual (places_beside v.lattice) (λ j. j < n)) (sym full.all) (places_mutual v.lattice full.lattice)

pub plain_room : (v : PlainSites) (d i : ℕ) → IsFull v → i < length v.values → d ≤ 4 → ReachesAtMost (sight_of v).near d i 729
plain_room v d i full less few = places_room v.lattice d i full.lattice (omega (arith, less, full.all)) few
