-- Applications: what may happen at a site, what that writes, and how readily it happens.
use Rattle.std.specs.Prelude.{ℕ, Bool, List, map, slice_index, sum_by}
use Rattle.std.specs.List.{Contains, range_with_len}
use Rattle.spk_app.specs.declared.events.Events.{Events}
use Rattle.spk_app.specs.Sights.{Sight, Write}

-- an event of a site: the mark by which the application knows it, and its weight in units of 2^-30
pub record Event : Type 0 where
  pub mark : ℕ
  pub weight : ℕ

-- what a trial at a site writes, the state of the stream after it, and whether a value changed
pub record Trial : Type 0 where
  pub writes : List Write
  pub stream : ℕ
  pub changed : Bool

-- the rules of an application, for a site by its place
pub record Application : Type 0 where
  pub events : Sight → ℕ → List Event
  -- what the event of a site that has this mark writes
  pub writes : Sight → ℕ → ℕ → List Write
  -- a trial at a site, by the state of the stream before it
  pub trial : Sight → ℕ → ℕ → Trial
  pub energy : Sight → ℕ → ℕ
  pub is_valid : ℕ → Bool
  -- the most that the weights of a site's events add up to, where no site has more neighbours than `degree`
  pub largest : ℕ
  pub degree : ℕ

-- a site's propensity is the sum of its events' weights
unfoldable pub propensity : List Event → ℕ
propensity events = sum_by (λ (e : Event). e.weight) events

-- an event of the list has this mark
unfoldable pub HasMark : List Event → ℕ → Type 0
HasMark events mark = Contains (map (λ (e : Event). e.mark) events) mark

-- the events that count
unfoldable pub listed : Events → List Event
listed e = map (λ k. record { mark = slice_index e.marks k; weight = slice_index e.weights k }) (range_with_len 0 e.count)
