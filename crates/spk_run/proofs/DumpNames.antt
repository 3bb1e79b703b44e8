-- The names of the files of snapshots.
use Rattle.std.proofs.Common.{◌≡◌, ℕ, ◌+◌, ◌<◌, true, false, List, [], ◌∷◌, ◌++◌, length, decimal, inl, inr, refl, arith}
use Rattle.std.specs.List.{after_first, before_first, position_or_len}
use Rattle.std.proofs.lemmas.Bool.{cases_Bool}
use Rattle.spk_run.specs.Dumps.{has_star, is_star, numbered}

star_found : (name : List ℕ) → position_or_len is_star name < length name → has_star name ≡ true
star_found [] inside = absurd (omega (arith, inside))
star_found (b ∷ name) inside =
    elim (cases_Bool (is_star b)) [
      | inl star ↦ rw star refl
      | inr other ↦
          let later : position_or_len is_star (b ∷ name) ≡ 1 + position_or_len is_star name = rw other refl in
          rw other (star_found name (omega (arith, later, inside)))
    ]

star_missing : (name : List ℕ) → position_or_len is_star name ≡ length name → has_star name ≡ false
star_missing [] none = refl
star_missing (b ∷ name) none =
    elim (cases_Bool (is_star b)) [
      | inl star ↦ let here : position_or_len is_star (b ∷ name) ≡ 0 = rw star refl in absurd (omega (arith, here, none))
      | inr other ↦
          let later : position_or_len is_star (b ∷ name) ≡ 1 + position_or_len is_star name = rw other refl in
          rw other (star_missing name (omega (arith, later, none)))
    ]

-- a name with a star, and one without
pub numbered_found : (name : List ℕ) (number : ℕ) → position_or_len is_star name < length name →
    numbered name number ≡ before_first is_star name ++ (decimal number ++ after_first is_star name)
numbered_found name number inside = rw (star_found name inside) refl

pub numbered_missing : (name : List ℕ) (number : ℕ) → position_or_len is_star name ≡ length name → numbered name number ≡ name
numbered_missing name number none = rw (star_missing name none) refl
