-- What the parts of a region answer, by their places.
use Rattle.std.proofs.Common.{◌≡◌, Bool, ◌&&◌, ◌||◌, List, [], ◌∷◌, map, refl, ap}
use Rattle.std.specs.List.{list_any, list_all}

pub list_any-map : {A : Type 0} (f : A → Bool) (xs : List A) → list_any (λ answer. answer) (map f xs) ≡ list_any f xs
list_any-map f [] = refl
list_any-map f (x ∷ xs) = ap (λ b. f x || b) (list_any-map f xs)

pub list_all-map : {A : Type 0} (f : A → Bool) (xs : List A) → list_all (λ answer. answer) (map f xs) ≡ list_all f xs
list_all-map f [] = refl
list_all-map f (x ∷ xs) = ap (λ b. f x && b) (list_all-map f xs)

pub ruleset by_places = (list_any-map, list_all-map)
