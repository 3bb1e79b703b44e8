-- Lists by their first items, and the views of lists.
use Rattle.std.proofs.Common.{◌≡◌, ℕ, suc, ◌-◌, ◌≤◌, ◌||◌, List, [], ◌∷◌, length, get_or, take, drop, refl, ap, arith}
use Rattle.std.proofs.lemmas.List.{take_all}
use Rattle.std.specs.Borrow.{Bor}
use Rattle.std.specs.List.{list_any}
use Rattle.std.specs.Str.{bytes_eq}
use Rattle.spk_cmds.specs.Kinds.{is_among}
use Rattle.spk_cmds.specs.Views.{words_seen}

-- an item that stands at a place
abbrev pub StandsAt : {A : Type 0} → List A → ℕ → A → Type 0
StandsAt xs place x = x ≡ get_or xs place x

rest_of_one : {A : Type 0} (xs : List A) (n : ℕ) → n ≡ suc (length xs) → take (n - 1) xs ≡ xs
rest_of_one xs n is = take_all (n - 1) xs (omega arith)

rest_of_two : {A : Type 0} (xs : List A) (n : ℕ) → n ≡ suc (suc (length xs)) → take (n - 2) xs ≡ xs
rest_of_two xs n is = take_all (n - 2) xs (omega arith)

-- an item and those after it
pub one_and_more : {A : Type 0} (xs : List A) (x : A) → 1 ≤ length xs → StandsAt xs 0 x → x ∷ take (length xs - 1) (drop 1 xs) ≡ xs
one_and_more (a ∷ xs) x some first = cc (rest_of_one xs (length (a ∷ xs)) refl)
one_and_more [] x some first = absurd (omega arith)

pub two_and_more : {A : Type 0} (xs : List A) (x y : A) → 2 ≤ length xs → StandsAt xs 0 x → StandsAt xs 1 y → x ∷ y ∷ take (length xs - 2) (drop 2 xs) ≡ xs
two_and_more (a ∷ b ∷ xs) x y some first second = cc (rest_of_two xs (length (a ∷ b ∷ xs)) refl)
two_and_more xs x y some first second = absurd (omega arith)

-- a word among those that a list lends
pub among_seen : (words : List (Bor (List ℕ))) (word : List ℕ) → list_any (λ other. bytes_eq word other.now) words ≡ is_among (words_seen words) word
among_seen [] word = refl
among_seen (other ∷ words) word = ap (λ b. bytes_eq word other.now || b) (among_seen words word)
