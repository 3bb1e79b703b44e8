-- Numbers that are dropped from a list in place.
use Rattle.std.proofs.Common.{◌≡◌, ℕ, ◌+◌, ◌<◌, ◌≤◌, ◌++◌, Bool, true, false, List, [], ◌∷◌, cond, length, length-set, get_or, set, take, drop, refl, sym, ap, ◌∙◌, arith}
use mir.Val.{bool_byte}
use Rattle.std.specs.Prelude.{◌==◌, not, filter}
use Rattle.std.proofs.lemmas.List.{append-nil, drop-drop, take-set, take_more, take_more_set, drop-set-lt, get_or-drop}
use Rattle.std.proofs.lemmas.List.Elements.{filter-append}

abbrev pub unlike : ℕ → ℕ → Bool
unlike value other = not (other == value)

-- The first k of 26 numbers were looked at, and those that are kept were moved to the front. The others stand where they stood.
pub record AreKept (keep : ℕ → Bool) (kept k : ℕ) (start now : List ℕ) : Type 0 where
  pub all : length now ≡ 26
  pub within : kept ≤ k
  pub so_far : take kept now ≡ filter keep (take k start)
  pub rest : drop k now ≡ drop k start

-- a number that is looked at is the one that stood there
pub stands : (keep : ℕ → Bool) (kept k : ℕ) (start now : List ℕ) → AreKept keep kept k start now → get_or now k 0 ≡ get_or start k 0
stands keep kept k start now are =
    ap (λ n. get_or now n 0) (omega arith) ∙ sym (get_or-drop k now 0 0) ∙ ap (λ (xs : List ℕ). get_or xs 0 0) are.rest ∙ get_or-drop k start 0 0 ∙ ap (λ n. get_or start n 0) (omega arith)

-- the rest of the others
rest_more : (k kept other : ℕ) (start now : List ℕ) → kept ≤ k → drop k now ≡ drop k start → drop (k + 1) (set now kept other) ≡ drop (k + 1) start
rest_more k kept other start now within rest =
    drop-set-lt (k + 1) now kept other (omega arith) ∙ sym (drop-drop 1 k now) ∙ ap (drop 1) rest ∙ drop-drop 1 k start

one_more : (keep : ℕ → Bool) (k other : ℕ) (start : List ℕ) → k < length start → other ≡ get_or start k 0
    → filter keep (take (k + 1) start) ≡ filter keep (take k start) ++ cond (keep other) (other ∷ []) []
one_more keep k other start less is =
    ap (filter keep) (take_more start k 0 less ∙ ap (λ n. take k start ++ n ∷ []) (sym is)) ∙ filter-append keep (take k start) (other ∷ [])

pub kept_more : (keep : ℕ → Bool) (kept k other : ℕ) (start now : List ℕ) (b : Bool) (n : ℕ) → k < length start → length start ≡ 26
    → other ≡ get_or now k 0
    → AreKept keep kept k start now
    → keep other ≡ b
    → n ≡ cond b 1 0
    → AreKept keep (kept + n) (k + 1) start (set now kept other)
kept_more keep kept k other start now true n less many is are kind one =
    let there : other ≡ get_or start k 0 = is ∙ stands keep kept k start now are in
    record {
      all = length-set now kept other ∙ are.all;
      within = omega (arith, are.within, one);
      so_far = ap (λ m. take (kept + m) (set now kept other)) one ∙ take_more_set now kept other (omega (arith, are.all, are.within)) ∙ ap (λ (xs : List ℕ). xs ++ other ∷ []) are.so_far
          ∙ ap (λ (b : Bool). filter keep (take k start) ++ cond b (other ∷ []) []) (sym kind) ∙ sym (one_more keep k other start less there);
      rest = rest_more k kept other start now are.within are.rest;
    }
kept_more keep kept k other start now false n less many is are kind none =
    let there : other ≡ get_or start k 0 = is ∙ stands keep kept k start now are in
    record {
      all = length-set now kept other ∙ are.all;
      within = omega (arith, are.within, none);
      so_far = ap (λ m. take m (set now kept other)) (omega (arith, none)) ∙ take-set now kept other ∙ are.so_far ∙ sym (append-nil (filter keep (take k start)))
          ∙ ap (λ (b : Bool). filter keep (take k start) ++ cond b (other ∷ []) []) (sym kind) ∙ sym (one_more keep k other start less there);
      rest = rest_more k kept other start now are.within are.rest;
    }

pub one_or_none : (b : Bool) → bool_byte b ≡ cond b 1 0
one_or_none true = refl
one_or_none false = refl
