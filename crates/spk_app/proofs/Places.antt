-- Places of a plain view, and the ids of the lattice.
use Rattle.std.proofs.Common.{◌≡◌, ℕ, ◌+◌, ◌-◌, ◌<◌, ◌≤◌, ◌++◌, List, [], ◌∷◌, length, get_or, set, take, sym, ap, ◌∙◌, arith}
use Rattle.std.proofs.lemmas.List.{length-set, length-map, get_or-map, take_all, take_more, take_more_set}
use Rattle.std.proofs.lemmas.List.Elements.{All-map, All-weaker}
use Rattle.std.specs.Prelude.{All}
use Rattle.spk_lattice.specs.Layout.{Layout, sites_of}
use Rattle.spk_lattice.specs.Neighbours.{IsId, nb}
use Rattle.spk_app.specs.PlainViews.{places_beside}

-- the first so many places of a site's neighbours stand in a list of 26
pub record FirstPlaces (lattice : Layout) (i k : ℕ) (places : List ℕ) : Type 0 where
  pub all : length places ≡ 26
  pub so_far : take k places ≡ take k (places_beside lattice i)

-- the next one, by the neighbour's id
pub places_more : (lattice : Layout) (i k id : ℕ) (places : List ℕ)
    → id ≡ get_or (nb lattice (i + 1)) k 0
    → k < length (nb lattice (i + 1))
    → length (nb lattice (i + 1)) ≤ 26
    → FirstPlaces lattice i k places
    → FirstPlaces lattice i (k + 1) (set places k (id - 1))
places_more lattice i k id places is there few first =
    let near : List ℕ = nb lattice (i + 1) in
    let place : get_or (places_beside lattice i) k 0 ≡ id - 1 = get_or-map (λ n. n - 1) near k 0 0 there ∙ ap (λ n. n - 1) (sym is) in
    let also : k < length (places_beside lattice i) = omega (arith, there, length-map near (λ n. n - 1)) in
    record {
      all = length-set places k (id - 1) ∙ first.all;
      so_far = take_more_set places k (id - 1) (omega (arith, first.all)) ∙ ap (λ (xs : List ℕ). xs ++ (id - 1) ∷ []) first.so_far ∙ ap (λ n. take k (places_beside lattice i) ++ n ∷ []) (sym place)
          ∙ sym (take_more (places_beside lattice i) k 0 also);
    }

-- all of them
pub places_all : (lattice : Layout) (i k count : ℕ) (places : List ℕ) → count ≡ k → k ≡ length (nb lattice (i + 1)) → FirstPlaces lattice i k places → take count places ≡ places_beside lattice i
places_all lattice i k count places is all first =
    ap (λ n. take n places) is ∙ first.so_far ∙ take_all k (places_beside lattice i) (omega (arith, all, length-map (nb lattice (i + 1)) (λ n. n - 1)))

-- the neighbours of a site are sites
pub places_inside : (lattice : Layout) (i : ℕ) → All (IsId lattice) (nb lattice (i + 1)) → All (λ j. j < sites_of lattice) (places_beside lattice i)
places_inside lattice i ids =
    All-map (λ j. j < sites_of lattice) (λ id. id - 1) (nb lattice (i + 1)) (All-weaker (IsId lattice) (λ id. id - 1 < sites_of lattice) (λ id exists. omega (arith, exists.some, exists.exists)) (nb lattice (i + 1)) ids)
