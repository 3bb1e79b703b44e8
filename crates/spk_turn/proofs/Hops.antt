-- Laws of hops that turns use: what is seen from afar stays the same.
use Rattle.std.proofs.Common.{◌≡◌, ◌≢◌, ℕ, zero, suc, ◌-◌, ◌<◌, ◌≤◌, List, [], ◌∷◌, length, get_or, set, refl, sym, subst, ◌∙◌, arith, get_or-set_other}
use Rattle.std.proofs.lemmas.List.{length-set}
use Rattle.std.proofs.lemmas.List.Elements.{All-from_get_or, All-weaker, All-set, All-head, All-tail, Contains-get_or}
use Rattle.std.specs.Prelude.{All, Contains, slice_index}
use Rattle.spk_lattice.specs.Hops.{IsWithin, IsMutual, ReachesAtMost}
use Rattle.spk_lattice.proofs.Hops.{within_self, within_step, within_join, within_back}
use Rattle.spk_lattice.proofs.Hops as hops
use Rattle.spk_app.specs.Sights.{Around, Write, written}

pub within_inside : (near : ℕ → List ℕ) (n d i j : ℕ) → IsMutual near (λ j. j < n) → i < n → IsWithin near d i j → j < n
within_inside near n d i j both less there = hops.within_inside near (λ j. j < n) d i j both less there

pub within_up : (near : ℕ → List ℕ) (a b i j : ℕ) → a ≤ b → IsWithin near a i j → IsWithin near b i j
within_up near a b i j less there = within_join near a (b - a) b i j j (omega arith) there (within_self near (b - a) j)

-- fewer hops lead to no more places
pub reaches_fewer : (near : ℕ → List ℕ) (fewer hops i few most : ℕ) → fewer ≤ hops → few ≤ most → ReachesAtMost near hops i few → ReachesAtMost near fewer i most
unfolding ReachesAtMost
reaches_fewer near fewer hops i few most less also room = λ xs once there.
    let wider : All (λ j. IsWithin near hops i j) xs = All-weaker (λ j. IsWithin near fewer i j) (λ j. IsWithin near hops i j) (λ j h. within_up near fewer hops i j less h) xs there in
    omega (arith, room xs once wider)

-- what holds of each place within so many hops holds around
pub around_from : (near : ℕ → List ℕ) (d i : ℕ) (P : ℕ → Type 0) → ((j : ℕ) → IsWithin near d i j → P j) → Around d near P i
around_from near zero i P holds = holds i (within_self near 0 i)
around_from near (suc d) i P holds = (
  holds i (within_self near (suc d) i),
  All-from_get_or (Around d near P) (near i) 0 (λ k less.
      let next : Contains (near i) (get_or (near i) k 0) = Contains-get_or (near i) k 0 less in
      around_from near d (get_or (near i) k 0) P (λ j there. holds j (within_step near d i (get_or (near i) k 0) j next there))),
)

pub around_all : (near : ℕ → List ℕ) (d i : ℕ) (P : ℕ → Type 0) → ((j : ℕ) → P j) → Around d near P i
around_all near d i P holds = around_from near d i P (λ j _. holds j)

pub around_within : (near : ℕ → List ℕ) (n d i : ℕ) → IsMutual near (λ j. j < n) → i < n → Around d near (λ j. j < n) i
around_within near n d i both less = around_from near d i (λ j. j < n) (λ j there. within_inside near n d i j both less there)

-- a place that no write names keeps its value
pub written_far : (near : ℕ → List ℕ) (step i j : ℕ) (ws : List Write) (values : List ℕ)
    → All (λ (w : Write). IsWithin near step i w.place) ws
    → (IsWithin near step i j → ⊥)
    → slice_index (written ws values) j ≡ slice_index values j
written_far near step i j [] values reached far = refl
written_far near step i j (w ∷ ws) values reached far =
    let P : Write → Type 0 = λ (w : Write). IsWithin near step i w.place in
    let other : j ≢ w.place = λ is. far (subst (λ k. IsWithin near step i k) (sym is) (All-head P w ws reached)) in
    written_far near step i j ws (set values w.place w.value) (All-tail P w ws reached) far ∙ get_or-set_other values w.place j w.value 0 other

pub written_length : (ws : List Write) (values : List ℕ) → length (written ws values) ≡ length values
written_length [] values = refl
written_length (w ∷ ws) values = written_length ws (set values w.place w.value) ∙ length-set values w.place w.value

pub written_all : (P : ℕ → Type 0) (ws : List Write) (values : List ℕ) → All P values → All (λ (w : Write). P w.value) ws → All P (written ws values)
written_all P [] values all fine = all
written_all P (w ∷ ws) values all fine =
    let Q : Write → Type 0 = λ (w : Write). P w.value in
    written_all P ws (set values w.place w.value) (All-set P values w.place w.value (All-head Q w ws fine) all) (All-tail Q w ws fine)
