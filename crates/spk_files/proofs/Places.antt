-- The first place that passes a test, and the parts of a text around it.
use Rattle.std.proofs.Common.{◌≡◌, ℕ, ◌+◌, ◌-◌, ◌<◌, Bool, not, List, [], ◌∷◌, length, take, drop, Some, None, refl, sym, ap, ◌∙◌, inl, inr, arith}
use Rattle.std.specs.List.{position, position_or_len, slice_split}
use Rattle.std.specs.Option.{unwrap_or}
use Rattle.std.proofs.lemmas.Bool.{cases_lt, cond_below, cond_above}
use Rattle.std.proofs.lemmas.List.{take_all, length-drop}
use Rattle.std.proofs.lemmas.List.Splits.{slice_split_first, slice_split_none}
use Rattle.std.proofs.lemmas.List.Sums.{fails_before_first, prefix_len-le-length}

-- a place that is found is within the list
pub place_found : (p : ℕ → Bool) (xs : List ℕ) (place : ℕ) → Some place ≡ position p xs → (position_or_len p xs ≡ place) × (place < length xs)
place_found p xs place is =
    elim (cases_lt (position_or_len p xs) (length xs)) [
      | inl within ↦ let found : Some (position_or_len p xs) ≡ position p xs = cond_below (position_or_len p xs) (length xs) _ None within in
          let same : position_or_len p xs ≡ place = cc in (same, omega arith)
      | inr past ↦ let none : None ≡ position p xs = cond_above (position_or_len p xs) (length xs) (Some (position_or_len p xs)) None None past refl in cc
    ]

-- where none is found, all places are passed
pub place_missing : (p : ℕ → Bool) (xs : List ℕ) → None ≡ position p xs → position_or_len p xs ≡ length xs
place_missing p xs is =
    elim (cases_lt (position_or_len p xs) (length xs)) [
      | inl within ↦ let found : Some (position_or_len p xs) ≡ position p xs = cond_below (position_or_len p xs) (length xs) _ None within in cc
      | inr past ↦ omega (arith, prefix_len-le-length (λ x. not (p x)) xs)
    ]

-- the place that is found, or the end where none is
pub place_or_end : (p : ℕ → Bool) (xs : List ℕ) → unwrap_or (position p xs) (length xs) ≡ position_or_len p xs
place_or_end p xs =
    elim (cases_lt (position_or_len p xs) (length xs)) [
      | inl within ↦ ap (λ place. unwrap_or place (length xs)) (sym (cond_below (position_or_len p xs) (length xs) (Some (position_or_len p xs)) None within))
      | inr past ↦ ap (λ place. unwrap_or place (length xs)) (sym (cond_above (position_or_len p xs) (length xs) (Some (position_or_len p xs)) None None past refl))
          ∙ omega (arith, prefix_len-le-length (λ x. not (p x)) xs)
    ]

-- what is left from a place on
pub from_place : (xs : List ℕ) (n : ℕ) → take (length xs - n) (drop n xs) ≡ drop n xs
from_place xs n = take_all (length xs - n) (drop n xs) (omega (arith, length-drop n xs))

-- a text is cut at the first place
pub cut_at_place : (p : ℕ → Bool) (xs : List ℕ) (place : ℕ) → Some place ≡ position p xs →
    slice_split p xs ≡ take place xs ∷ slice_split p (take (length xs - (place + 1)) (drop (place + 1) xs))
cut_at_place p xs place is =
    let at = place_found p xs place is in
    slice_split_first p xs 0 (omega (arith, at.0, at.1)) ∙ ap (λ k. take k xs ∷ slice_split p (drop (k + 1) xs)) at.0
    ∙ ap (λ rest. take place xs ∷ slice_split p rest) (sym (from_place xs (place + 1)))

-- and where none is found, the text is the one part
pub uncut : (p : ℕ → Bool) (xs : List ℕ) → None ≡ position p xs → slice_split p xs ≡ xs ∷ []
uncut p xs is = slice_split_none p xs (λ k x within. fails_before_first p xs k x (omega (arith, place_missing p xs is)))
