-- The first byte of a text that passes a test, and what stands around it.
use Rattle.std.proofs.Common.{◌≡◌, ℕ, ◌+◌, ◌<◌, Bool, true, false, suc, List, [], ◌∷◌, length, refl, arith}
use Rattle.std.specs.List.{position_or_len, before_first, after_first}
use Rattle.std.proofs.lemmas.List.{length-drop}

one_more : (n : ℕ) → 1 + n ≡ suc n
one_more n = omega arith

pub place_here : (p : ℕ → Bool) (b : ℕ) (text : List ℕ) → p b ≡ true → position_or_len p (b ∷ text) ≡ 0
place_here p b text is = rw is refl

pub place_after : (p : ℕ → Bool) (b : ℕ) (text : List ℕ) → p b ≡ false → position_or_len p (b ∷ text) ≡ suc (position_or_len p text)
place_after p b text is = rw is (one_more (position_or_len p text))

pub cut_here : (p : ℕ → Bool) (b : ℕ) (text : List ℕ) → p b ≡ true →
    (before_first p (b ∷ text) ≡ []) × (after_first p (b ∷ text) ≡ text)
cut_here p b text is = (rw is refl, rw is refl)

pub cut_after : (p : ℕ → Bool) (b : ℕ) (text : List ℕ) → p b ≡ false →
    (before_first p (b ∷ text) ≡ b ∷ before_first p text) × (after_first p (b ∷ text) ≡ after_first p text)
cut_after p b text is =
    let following : suc (position_or_len p text) + 1 ≡ suc (position_or_len p text + 1) = omega arith in
    (rw (is, one_more (position_or_len p text)) refl, rw (is, one_more (position_or_len p text), following) refl)

pub after_is_shorter : (p : ℕ → Bool) (text : List ℕ) → position_or_len p text < length text →
    length (after_first p text) < length text
after_is_shorter p text within = omega (arith, length-drop (position_or_len p text + 1) text)
