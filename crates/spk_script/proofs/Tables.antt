-- What the variables of a map are before and after a change.
use Rattle.std.proofs.Common.{◌≡◌, ℕ, Bool, true, false, cond, List, Option, None, Some, String, string_bytes, refl, ap, sym, ◌∙◌}
use Rattle.std.proofs.Math.Path.{fun_ext}
use Rattle.std.proofs.lemmas.Map.Text.{btree_map_updates_text}
use Rattle.std.proofs.lemmas.Slice.Eq.{bytes_eq-Decides}
use Rattle.std.specs.Map.{update}
use Rattle.std.specs.Str.{bytes_eq}
use Rattle.std.specs.String.{string_cmp}
use Rattle.std.specs.Ordering.{nat_cmp}
use Rattle.std.specs.Cmp.Lexicographic.{slice_cmp}
use Rattle.std.specs.BTreeMap.{BTreeMap, UpdatesBy, IsEmpty, IsUnchanged, get_by_text}
use Rattle.std.specs.declared.alloc.Global.{Global}
use Rattle.spk_script.specs.declared.variable.Variable.{Variable}
use Rattle.spk_script.specs.States.{no_variables}
use Rattle.spk_script.specs.Values.{Environment}
use Rattle.spk_script.specs.Tables.{variables_of}

-- one variable changed
pub variables_of_update : (name : List ℕ) (m n : BTreeMap (String Global) Variable) (variable : Option Variable) →
    UpdatesBy string_cmp (λ k. slice_cmp nat_cmp name (string_bytes k)) m n variable →
    variables_of n ≡ update bytes_eq (variables_of m) name variable
unfolding variables_of
variables_of_update name m n variable updates = fun_ext (λ q. btree_map_updates_text name m n variable updates q)

-- none changed
pub variables_of_same : (m n : BTreeMap (String Global) Variable) → IsUnchanged m n → variables_of n ≡ variables_of m
unfolding variables_of
variables_of_same m n same = fun_ext (λ q. search same)

-- an empty map has no variable
pub variables_of_empty : (m : BTreeMap (String Global) Variable) → IsEmpty m → variables_of m ≡ no_variables
unfolding variables_of
variables_of_empty m empty = fun_ext (λ q. search empty)

-- what a name stands for is put there again
put_back_at : (f : Environment) (name : List ℕ) (variable : Option Variable) (q : List ℕ) → f name ≡ variable → (b : Bool) → bytes_eq name q ≡ b → cond b variable (f q) ≡ f q
put_back_at f name variable q is true same = sym is ∙ ap f ((bytes_eq-Decides name q).0 same)
put_back_at f name variable q is false other = refl

pub put_back : (f : Environment) (name : List ℕ) (variable : Option Variable) → f name ≡ variable → update bytes_eq f name variable ≡ f
put_back f name variable is = fun_ext (λ q. put_back_at f name variable q is (bytes_eq name q) refl)

-- the variable that a look-up gave, and none
pub variables_of_some : (m : BTreeMap (String Global) Variable) (name : List ℕ) (variable : Variable) → Some variable ≡ get_by_text m name → variables_of m name ≡ Some variable
unfolding variables_of
variables_of_some m name variable found = sym found

pub variables_of_none : (m : BTreeMap (String Global) Variable) (name : List ℕ) → None ≡ get_by_text m name → variables_of m name ≡ None
unfolding variables_of
variables_of_none m name absent = sym absent

-- a variable that was looked up, where it has stayed as it was
pub variables_of_kept : (name : List ℕ) (m n : BTreeMap (String Global) Variable) (old new : Variable) →
    UpdatesBy string_cmp (λ k. slice_cmp nat_cmp name (string_bytes k)) m n (Some new) → Some old ≡ get_by_text m name → new ≡ old →
    variables_of n ≡ variables_of m
variables_of_kept name m n old new updates found same =
    variables_of_update name m n (Some new) updates ∙ put_back (variables_of m) name (Some new) (variables_of_some m name old found ∙ ap Some (sym same))
