-- Digits without the zeros at their end, a digit at a time.
use Rattle.std.proofs.Common.{◌≡◌, ◌≢◌, ℕ, ◌+◌, ◌<◌, List, [], ◌∷◌, ◌++◌, length, get_or, take, ap, refl, ◌∙◌, arith}
use Rattle.std.proofs.lemmas.Grind.{common_steps}
use Rattle.std.proofs.lemmas.List.{take_more}
use Rattle.spk_num.specs.Decimal.{onto_trimmed, without_last_zeros}

without_last_zeros-push_zero : (xs : List ℕ) → without_last_zeros (xs ++ 48 ∷ []) ≡ without_last_zeros xs
without_last_zeros-push_zero [] = refl
without_last_zeros-push_zero (x ∷ xs) = ap (onto_trimmed x) (without_last_zeros-push_zero xs)

onto_trimmed-push : (x d : ℕ) (xs : List ℕ) → onto_trimmed x (xs ++ d ∷ []) ≡ x ∷ (xs ++ d ∷ [])
onto_trimmed-push x d [] = refl
onto_trimmed-push x d (y ∷ ys) = refl

without_last_zeros-push_other : (xs : List ℕ) (d : ℕ) → d ≢ 48 → without_last_zeros (xs ++ d ∷ []) ≡ xs ++ d ∷ []
without_last_zeros-push_other [] d other = grind (arith, common_steps)
without_last_zeros-push_other (x ∷ xs) d other =
    ap (onto_trimmed x) (without_last_zeros-push_other xs d other) ∙ onto_trimmed-push x d xs

pub without_last_zeros_zero : (xs : List ℕ) (i : ℕ) → i < length xs → get_or xs i 0 ≡ 48 → without_last_zeros (take (i + 1) xs) ≡ without_last_zeros (take i xs)
without_last_zeros_zero xs i h zero =
    rw (take_more xs i 0 h, zero) (without_last_zeros-push_zero (take i xs))

pub without_last_zeros_other : (xs : List ℕ) (i : ℕ) → i < length xs → get_or xs i 0 ≢ 48 → without_last_zeros (take (i + 1) xs) ≡ take (i + 1) xs
without_last_zeros_other xs i h other =
    rw (take_more xs i 0 h) (without_last_zeros-push_other (take i xs) (get_or xs i 0) other)

pub ruleset trims = (without_last_zeros_zero, without_last_zeros_other)
