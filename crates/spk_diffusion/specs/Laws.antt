-- Diffusion is bounded, stays valid and is narrow.
use Rattle.std.proofs.Common.{ℕ, ◌*◌, ◌^◌, ◌<◌, ◌≤◌, arith, [], ◌∷◌, length}
use Rattle.std.specs.Prelude.{IsTrue, slice_index}
use Rattle.std.specs.List.{All}
use Rattle.std.proofs.lemmas.List.Elements.{All-nil, All-cons, All-weaker, All-get_or}
use Rattle.std.proofs.lemmas.List.Sums.{sum_by-le}
use Rattle.spk_lattice.specs.Neighbours.{degree_of}
use Rattle.spk_lattice.proofs.Ways.{degree_some, degree_few}
use Rattle.spk_app.specs.Sights.{Sight, Write, Around}
use Rattle.spk_app.specs.Applications.{Event, propensity}
use Rattle.spk_app.specs.Laws.{IsBounded, StaysValid, IsNarrow, WritesValid}
use Rattle.spk_diffusion.specs.Diffusion.{DiffusionSettings, hops, exchange, diffusion}
use Rattle.spk_diffusion.specs.HopFacts.{each_hop, mark_below, few_hops, hop_weight_small}

small_hops : (settings : DiffusionSettings) (s : Sight) (i : ℕ) → All (λ (e : Event). e.weight ≤ 2 ^ 30) (hops settings s i)
small_hops settings s i = each_hop (λ (e : Event). e.weight ≤ 2 ^ 30) settings s i (λ m j less. hop_weight_small settings s i j)

hops_at_most : (settings : DiffusionSettings) (s : Sight) (i most : ℕ) → length (s.near i) ≤ most → propensity (hops settings s i) ≤ most * 2 ^ 30
unfolding propensity
hops_at_most settings s i most near =
    omega (arith, near, few_hops settings s i, sum_by-le (λ (e : Event). e.weight) (2 ^ 30) (hops settings s i) (small_hops settings s i))

pub diffusion_bounded : (settings : DiffusionSettings) → IsBounded (diffusion settings)
diffusion_bounded settings = record {
  few = λ here i near. omega (arith, near, few_hops settings here i);
  small = λ here i. small_hops settings here i;
  largest = λ here i near. hops_at_most settings here i (degree_of settings.style) near;
  above = omega (arith, degree_some settings.style);
  limit = omega (arith, degree_few settings.style);
}

-- an exchange writes what two places have
exchange_valid : (settings : DiffusionSettings) (s : Sight) (i j : ℕ)
    → All (λ v. IsTrue ((diffusion settings).is_valid v)) s.values
    → i < length s.values
    → j < length s.values
    → WritesValid (diffusion settings) (exchange s i j)
exchange_valid settings s i j valid first second =
    let V : ℕ → Type 0 = λ v. IsTrue ((diffusion settings).is_valid v) in
    let W : Write → Type 0 = λ w. V w.value in
    All-cons W (record { place = i; value = slice_index s.values j }) (record { place = j; value = slice_index s.values i } ∷ []) (All-get_or V s.values j 0 second valid)
    (All-cons W (record { place = j; value = slice_index s.values i }) [] (All-get_or V s.values i 0 first valid) (All-nil W))

-- a neighbour in the sight
neighbour_seen : (s : Sight) (i mark : ℕ) → Around 2 s.near (λ j. j < length s.values) i → mark < length (s.near i) → slice_index (s.near i) mark < length s.values
neighbour_seen s i mark seen less =
    let S : ℕ → Type 0 = λ j. j < length s.values in
    All-get_or S (s.near i) mark 0 less (All-weaker (Around 1 s.near S) S (λ j at. at.0) (s.near i) seen.1)

pub diffusion_stays_valid : (settings : DiffusionSettings) → StaysValid 2 (diffusion settings)
diffusion_stays_valid settings = record {
  event = λ here i mark seen valid marked.
      exchange_valid settings here i (slice_index (here.near i) mark) valid seen.0 (neighbour_seen here i mark seen (mark_below settings here i mark marked));
  trial = λ here i stream seen valid. All-nil (λ (w : Write). IsTrue ((diffusion settings).is_valid w.value));
}

pub diffusion_narrow : IsNarrow 2 1
diffusion_narrow = record { closer = omega arith; few = omega arith }
