-- Weights read off a table.
use Rattle.std.proofs.Common.{◌≡◌, ℕ, zero, suc, ◌+◌, ◌-◌, ◌^◌, ◌<◌, ◌≤◌, ◌++◌, List, [], ◌∷◌, length, get_or, set, take, false, refl, sym, ap, ◌∙◌, arith}
use Rattle.std.proofs.lemmas.Int.{ints}
use Rattle.std.proofs.lemmas.List.{length-set, take_more, take_more_set, take_all}
use Rattle.std.proofs.lemmas.List.FromFn.{length-map-range_with_len, get_or-map-range_with_len}
use Rattle.std.specs.Prelude.{ℤ, pos, ◌-ℤ◌, int_lt}
use Rattle.spk_num.specs.Weights.{weight_of}
use Rattle.spk_num.proofs.WeightLaws.{weight_small}
use Rattle.spk_app.specs.Weights.{weight_between, rising_weights}

rises_by : (before after : ℕ) → before ≤ after → pos after -ℤ pos before ≡ pos (after - before)
rises_by before after less = grind (arith, ints)

doesnt_rise : (before after : ℕ) → after ≤ before → int_lt (pos 0) (pos after -ℤ pos before) ≡ false
doesnt_rise before after less = grind (arith, ints)

-- an event that doesn't raise the energy
pub falls : (temperature before after : ℕ) → after ≤ before → 2 ^ 30 ≡ weight_between temperature before after
unfolding weight_of
falls temperature before after less = let no : int_lt (pos 0) (pos after -ℤ pos before) ≡ false = doesnt_rise before after less in rw no refl

length-rising : (temperature : ℕ) → length (rising_weights temperature) ≡ 27
unfolding rising_weights
length-rising temperature = length-map-range_with_len (λ rise. weight_of (pos rise) temperature) 0 27

rising_at : (temperature rise : ℕ) → rise < 27 → get_or (rising_weights temperature) rise 0 ≡ weight_of (pos rise) temperature
unfolding rising_weights
rising_at temperature rise less = get_or-map-range_with_len (λ rise. weight_of (pos rise) temperature) 0 27 rise rise 0 less (omega arith)

-- an event that raises the energy, by the table
pub rises : (temperature before after : ℕ) (weights : List ℕ) → rising_weights temperature ≡ weights → before < after → after ≤ 26 → get_or weights (after - before) 0 ≡ weight_between temperature before after
rises temperature before after weights are less few =
    ap (λ (xs : List ℕ). get_or xs (after - before) 0) (sym are) ∙ rising_at temperature (after - before) (omega arith) ∙ ap (λ (d : ℤ). weight_of d temperature) (sym (rises_by before after (omega arith)))

no_rise : (temperature : ℕ) → weight_of (pos 0) temperature ≡ 2 ^ 30
unfolding weight_of
no_rise temperature = refl

doesnt_rise_by : (temperature before after : ℕ) (weights : List ℕ) → rising_weights temperature ≡ weights → after ≤ before → get_or weights (after - before) 0 ≡ weight_between temperature before after
doesnt_rise_by temperature before after weights are less =
    ap (λ n. get_or weights n 0) (omega arith) ∙ ap (λ (xs : List ℕ). get_or xs 0 0) (sym are) ∙ rising_at temperature 0 (omega arith) ∙ no_rise temperature ∙ falls temperature before after less

by_rise : (temperature before after rise : ℕ) (weights : List ℕ) → after - before ≡ rise → rising_weights temperature ≡ weights → after ≤ 26
    → get_or weights (after - before) 0 ≡ weight_between temperature before after
by_rise temperature before after zero weights is are few = doesnt_rise_by temperature before after weights are (omega (arith, is))
by_rise temperature before after (suc rise) weights is are few = rises temperature before after weights are (omega (arith, is)) few

-- any event, by the table
pub by_table : (temperature before after rise : ℕ) (weights : List ℕ) → rise ≡ after - before → rising_weights temperature ≡ weights → after ≤ 26
    → get_or weights rise 0 ≡ weight_between temperature before after
by_table temperature before after rise weights is are few = ap (λ n. get_or weights n 0) is ∙ by_rise temperature before after (after - before) weights refl are few

pub between_small : (temperature before after weight : ℕ) → weight ≡ weight_between temperature before after → weight ≤ 2 ^ 30
between_small temperature before after weight is = rw is (weight_small (pos after -ℤ pos before) temperature)

-- the first so many entries of the table stand in a list of 27
pub record FirstRises (temperature k : ℕ) (weights : List ℕ) : Type 0 where
  pub all : length weights ≡ 27
  pub so_far : take k weights ≡ take k (rising_weights temperature)

pub rises_more : (temperature k weight : ℕ) (weights : List ℕ) → k < 27 → weight ≡ weight_of (pos k) temperature → FirstRises temperature k weights → FirstRises temperature (k + 1) (set weights k weight)
rises_more temperature k weight weights less is first = record {
  all = length-set weights k weight ∙ first.all;
  so_far = take_more_set weights k weight (omega (arith, first.all)) ∙ ap (λ (xs : List ℕ). xs ++ weight ∷ []) first.so_far
      ∙ ap (λ n. take k (rising_weights temperature) ++ n ∷ []) (is ∙ sym (rising_at temperature k less)) ∙ sym (take_more (rising_weights temperature) k 0 (omega (arith, less, length-rising temperature)));
}

pub rises_all : (temperature k : ℕ) (weights : List ℕ) → 27 ≤ k → FirstRises temperature k weights → rising_weights temperature ≡ weights
rises_all temperature k weights past first =
    sym (take_all k (rising_weights temperature) (omega (arith, past, length-rising temperature))) ∙ sym first.so_far ∙ take_all k weights (omega (arith, past, first.all))
