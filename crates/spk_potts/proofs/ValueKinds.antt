-- The values of neighbours, one kind after another.
use Rattle.std.proofs.Common.{◌≡◌, ℕ, suc, ◌+◌, ◌<◌, ◌≤◌, ◌==◌, ◌||◌, ◌&&◌, not, cond, Bool, true, false, if◌then◌else◌, List, [], ◌∷◌, ◌++◌, length, get_or, refl, sym, ap, subst, ◌∙◌, arith}
use Rattle.std.proofs.lemmas.Bool.Decides.{nat_tests}
use Rattle.std.proofs.lemmas.List.Elements.{filter_agree}
use Rattle.std.proofs.lemmas.List.Sums.{length-filter, count_by-le-length}
use Rattle.std.proofs.lemmas.List.Folds.{list_any-append}
use Rattle.std.specs.Prelude.{filter}
use Rattle.spk_potts.specs.Potts.{first_values}
use Rattle.spk_potts.proofs.Values.{is_in, first_step}

-- whether a value isn't among these
abbrev pub is_new : List ℕ → ℕ → Bool
is_new seen v = not (is_in seen v)

abbrev pub differs : ℕ → ℕ → Bool
differs value v = not (v == value)

same_test : (a b : ℕ) → (a == b) ≡ (b == a)
same_test a b = grind (arith, nat_tests)

same_itself : (a : ℕ) → (a == a) ≡ true
same_itself a = grind (arith, nat_tests)

-- ---- which values are seen

or_true : (a b : Bool) → a ≡ true → (a || b) ≡ true
or_true true b is = refl
or_true false b is = absurd cc

or_last : (a b : Bool) → b ≡ true → (a || (b || false)) ≡ true
or_last true b is = refl
or_last false b is = or_true b false is

seen_still : (seen : List ℕ) (v w : ℕ) → is_in seen v ≡ true → is_in (seen ++ w ∷ []) v ≡ true
seen_still seen v w is = list_any-append (λ u. u == v) seen (w ∷ []) ∙ or_true (is_in seen v) (is_in (w ∷ []) v) is

seen_itself : (seen : List ℕ) (v : ℕ) → is_in (seen ++ v ∷ []) v ≡ true
seen_itself seen v = list_any-append (λ u. u == v) seen (v ∷ []) ∙ or_last (is_in seen v) (v == v) (same_itself v)

new_more : (a b c : Bool) → b ≡ c → (not a && not b) ≡ not (a || (c || false))
new_more true b c is = refl
new_more false true true is = refl
new_more false false false is = refl
new_more false true false is = absurd cc
new_more false false true is = absurd cc

new_both : (seen : List ℕ) (value v : ℕ) → (is_new seen v && differs value v) ≡ is_new (seen ++ value ∷ []) v
new_both seen value v =
    new_more (is_in seen v) (v == value) (value == v) (same_test v value) ∙ ap not (sym (list_any-append (λ u. u == v) seen (value ∷ [])))

-- ---- what is left after a kind is dropped

both_tests : (p : ℕ → Bool) (b : Bool) (x : ℕ) (us vs : List ℕ) → filter p us ≡ vs → filter p (cond b (x ∷ us) us) ≡ cond (b && p x) (x ∷ vs) vs
both_tests p true x us vs are = ap (λ (xs : List ℕ). cond (p x) (x ∷ xs) xs) are
both_tests p false x us vs are = are

filter_both : (p q : ℕ → Bool) (xs : List ℕ) → filter p (filter q xs) ≡ filter (λ v. q v && p v) xs
filter_both p q [] = refl
filter_both p q (x ∷ xs) = both_tests p (q x) x (filter q xs) (filter (λ v. q v && p v) xs) (filter_both p q xs)

pub left_more : (seen start : List ℕ) (value : ℕ) → filter (differs value) (filter (is_new seen) start) ≡ filter (is_new (seen ++ value ∷ [])) start
left_more seen start value =
    filter_both (differs value) (is_new seen) start ∙ filter_agree (λ v. is_new seen v && differs value v) (is_new (seen ++ value ∷ [])) (new_both seen value) start

or_false : (a : Bool) → (a || false) ≡ a
or_false true = refl
or_false false = refl

new_first : (own v : ℕ) → differs own v ≡ is_new (own ∷ []) v
new_first own v = ap not (same_test v own ∙ sym (or_false (own == v)))

pub left_first : (own : ℕ) (start : List ℕ) → filter (differs own) start ≡ filter (is_new (own ∷ [])) start
left_first own start = filter_agree (differs own) (is_new (own ∷ [])) (new_first own) start

-- ---- the kinds in their order

none_step : (seen : List ℕ) (v : ℕ) (vs us : List ℕ) (b : Bool) → (us ≡ [] → first_values seen vs ≡ []) → cond (not b) (v ∷ us) us ≡ [] → (if b then first_values seen vs else v ∷ first_values (seen ++ v ∷ []) vs) ≡ []
none_step seen v vs us true others none = others none
none_step seen v vs us false others none = absurd (omega (arith, ap (λ (xs : List ℕ). length xs) none))

-- where none is left there is no kind more
pub none_left : (seen start : List ℕ) → filter (is_new seen) start ≡ [] → first_values seen start ≡ []
none_left seen [] none = refl
none_left seen (v ∷ vs) none = none_step seen v vs (filter (is_new seen) vs) (is_in seen v) (none_left seen vs) none

kind_step : (seen : List ℕ) (v value : ℕ) (vs us rest : List ℕ) (b : Bool) → is_in seen v ≡ b
    → (us ≡ value ∷ rest → first_values seen vs ≡ value ∷ first_values (seen ++ value ∷ []) vs)
    → cond (not b) (v ∷ us) us ≡ value ∷ rest
    → (if b then first_values seen vs else v ∷ first_values (seen ++ v ∷ []) vs) ≡ value ∷ first_values (seen ++ value ∷ []) (v ∷ vs)
kind_step seen v value vs us rest true is others left =
    others left ∙ ap (λ (xs : List ℕ). value ∷ xs) (sym (first_step (seen ++ value ∷ []) v vs true (seen_still seen v value is)))
kind_step seen v value vs us rest false is others left =
    let same : v ≡ value = ap (λ (xs : List ℕ). get_or xs 0 0) left in
    ap (λ w. w ∷ first_values (seen ++ w ∷ []) vs) same
    ∙ ap (λ (xs : List ℕ). value ∷ xs) (sym (first_step (seen ++ value ∷ []) v vs true (subst (λ w. is_in (seen ++ w ∷ []) v ≡ true) same (seen_itself seen v))))

-- the next kind is that of the first that is left
pub next_kind : (seen start rest : List ℕ) (value : ℕ) → filter (is_new seen) start ≡ value ∷ rest → first_values seen start ≡ value ∷ first_values (seen ++ value ∷ []) start
next_kind seen [] rest value left = absurd (omega (arith, ap (λ (xs : List ℕ). length xs) left))
next_kind seen (v ∷ vs) rest value left = kind_step seen v value vs (filter (is_new seen) vs) rest (is_in seen v) refl (next_kind seen vs rest value) left

-- ---- how many there are of a kind

count_step : (value x n : ℕ) (us vs : List ℕ) (d s : Bool) → (x == value) ≡ d → (d ≡ true → s ≡ false)
    → length us + length vs ≡ n + length (filter (differs value) vs)
    → length (cond (not d) (x ∷ us) us) + length (cond (not s) (x ∷ vs) vs) ≡ suc n + length (filter (differs value) (cond (not s) (x ∷ vs) vs))
count_step value x n us vs true true is new sum = (let no : true ≡ false = new refl in absurd cc)
count_step value x n us vs true false is new sum =
    let here : length (filter (differs value) (x ∷ vs)) ≡ length (filter (differs value) vs) = ap (λ (d : Bool). length (cond (not d) (x ∷ filter (differs value) vs) (filter (differs value) vs))) is in
    omega (arith, sum, here)
count_step value x n us vs false true is new sum = omega (arith, sum)
count_step value x n us vs false false is new sum =
    let here : length (filter (differs value) (x ∷ vs)) ≡ suc (length (filter (differs value) vs)) = ap (λ (d : Bool). length (cond (not d) (x ∷ filter (differs value) vs) (filter (differs value) vs))) is in
    omega (arith, sum, here)

not_true : (a : Bool) → not a ≡ true → a ≡ false
not_true true is = absurd cc
not_true false is = refl

new_here : (seen : List ℕ) (value x : ℕ) → is_new seen value ≡ true → (x == value) ≡ true → is_in seen x ≡ false
new_here seen value x new same =
    let is : x ≡ value = grind (arith, nat_tests) in
    subst (λ w. is_in seen w ≡ false) (sym is) (not_true (is_in seen value) new)

-- those of a kind that is new are all left
pub kind_count : (seen start : List ℕ) (value : ℕ) → is_new seen value ≡ true
    → length (filter (differs value) start) + length (filter (is_new seen) start) ≡ length start + length (filter (differs value) (filter (is_new seen) start))
kind_count seen [] value new = refl
kind_count seen (x ∷ xs) value new =
    count_step value x (length xs) (filter (differs value) xs) (filter (is_new seen) xs) (x == value) (is_in seen x) refl (new_here seen value x new) (kind_count seen xs value new)

-- the first that is left is new
first_step_new : (seen : List ℕ) (v value : ℕ) (us rest : List ℕ) (b : Bool) → is_in seen v ≡ b → (us ≡ value ∷ rest → is_new seen value ≡ true)
    → cond (not b) (v ∷ us) us ≡ value ∷ rest → is_new seen value ≡ true
first_step_new seen v value us rest true is others left = others left
first_step_new seen v value us rest false is others left =
    let same : v ≡ value = ap (λ (xs : List ℕ). get_or xs 0 0) left in
    subst (λ w. is_new seen w ≡ true) same (ap not is)

pub first_new : (seen start rest : List ℕ) (value : ℕ) → filter (is_new seen) start ≡ value ∷ rest → is_new seen value ≡ true
first_new seen [] rest value left = absurd (omega (arith, ap (λ (xs : List ℕ). length xs) left))
first_new seen (v ∷ vs) rest value left = first_step_new seen v value (filter (is_new seen) vs) rest (is_in seen v) refl (first_new seen vs rest value) left

pub filter_shorter : (p : ℕ → Bool) (vs : List ℕ) → length (filter p vs) ≤ length vs
filter_shorter p vs = omega (arith, length-filter p vs, count_by-le-length p vs)

-- the first goes when its kind is dropped
pub first_goes : (value : ℕ) (left rest now : List ℕ) → left ≡ value ∷ rest → now ≡ filter (differs value) left → length now < length left
first_goes value left rest now is dropped =
    let gone : filter (differs value) (value ∷ rest) ≡ filter (differs value) rest = ap (λ (b : Bool). cond (not b) (value ∷ filter (differs value) rest) (filter (differs value) rest)) (same_itself value) in
    let all : now ≡ filter (differs value) rest = dropped ∙ ap (filter (differs value)) is ∙ gone in
    omega (arith, ap length all, ap length is, filter_shorter (differs value) rest)
