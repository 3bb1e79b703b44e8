-- What an application sees of a site's surroundings, and what is written to it.
use Rattle.std.specs.Prelude.{◌≡◌, ℕ, zero, suc, ◌-◌, List, [], ◌∷◌, map, slice_index, slice_set}
use Rattle.std.specs.List.{All}

-- the values by place, and the places beside each place
pub record Sight : Type 0 where
  pub values : List ℕ
  pub near : ℕ → List ℕ

-- the values beside a place
abbrev pub values_near : Sight → ℕ → List ℕ
values_near s i = map (slice_index s.values) (s.near i)

-- P holds of each place to which at most so many hops lead
abbrev pub Around : ℕ → (ℕ → List ℕ) → (ℕ → Type 0) → ℕ → Type 0
Around zero near P i = P i
Around (suc d) near P i = P i × All (Around d near P) (near i)

-- a value, and the place that takes it
pub record Write : Type 0 where
  pub place : ℕ
  pub value : ℕ

-- the values after some writes, one after another
abbrev pub written : List Write → List ℕ → List ℕ
written [] values = values
written (w ∷ ws) values = written ws (slice_set values w.place w.value)

abbrev pub with_value : ℕ → ℕ → Sight → Sight
with_value i value s = record { values = slice_set s.values i value; near = s.near }

abbrev pub with_written : List Write → Sight → Sight
with_written writes s = record { values = written writes s.values; near = s.near }

-- The surroundings of a place, so many hops wide, look the same in a second sight, where f says which place there shows which
-- place here. No other place of them shows what the place itself shows.
pub record LooksSame (d : ℕ) (f : ℕ → ℕ) (here there : Sight) (i : ℕ) : Type 0 where
  pub values : Around d here.near (λ j. slice_index here.values j ≡ slice_index there.values (f j)) i
  pub near : Around (d - 1) here.near (λ j. map f (here.near j) ≡ there.near (f j)) i
  pub once : Around d here.near (λ j. f j ≡ f i → j ≡ i) i

-- the same write to the place that shows this one
abbrev pub shown : (ℕ → ℕ) → Write → Write
shown f w = record { place = f w.place; value = w.value }
