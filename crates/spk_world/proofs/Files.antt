-- What the files of a map are before and after a change.
use Rattle.std.proofs.Common.{◌≡◌, ℕ, List, [], ◌++◌, Option, None, Some, unwrap_or, Result, Ok, Err, is_ok, OnOk, OnErr, Bool, true, false, cond, Vec, String, string_bytes, refl, ap, ◌∙◌, sym}
use Rattle.std.proofs.Math.Path.{fun_ext}
use Rattle.std.proofs.lemmas.Map.Text.{btree_map_updates_text}
use Rattle.std.specs.Option.{option_map}
use Rattle.std.specs.Map.{update}
use Rattle.std.specs.Str.{bytes_eq}
use Rattle.std.specs.String.{string_cmp}
use Rattle.std.specs.Ordering.{nat_cmp}
use Rattle.std.specs.Cmp.Lexicographic.{slice_cmp}
use Rattle.std.specs.BTreeMap.{BTreeMap, UpdatesBy, IsEmpty, IsUnchanged, get_by_text}
use Rattle.std.specs.declared.alloc.Global.{Global}
use Rattle.spk_world.specs.Memory.{files_of}
use Rattle.spk_world.proofs.Pieces.{update-back}

-- a choice of options, and what a function makes of it
option_map-cond : {A B : Type 0} (f : A → B) (b : Bool) (x y : Option A) → option_map f (cond b x y) ≡ cond b (option_map f x) (option_map f y)
option_map-cond f true x y = refl
option_map-cond f false x y = refl

-- one file changed
pub files_of-update : (name : List ℕ) (m n : BTreeMap (String Global) (Vec ℕ Global)) (file : Option (Vec ℕ Global)) →
    UpdatesBy string_cmp (λ k. slice_cmp nat_cmp name (string_bytes k)) m n file →
    files_of n ≡ update bytes_eq (files_of m) name (option_map (λ v. v.items) file)
unfolding files_of
files_of-update name m n file updates = fun_ext (λ q.
    ap (λ o. option_map (λ v. v.items) o) (btree_map_updates_text name m n file updates q)
    ∙ option_map-cond (λ v. v.items) (bytes_eq name q) file (get_by_text m q))

-- none changed
pub files_of-same : (m n : BTreeMap (String Global) (Vec ℕ Global)) → IsUnchanged m n → files_of n ≡ files_of m
unfolding files_of
files_of-same m n same = fun_ext (λ q. search same)

-- an empty map has no file
pub files_of-empty : (m : BTreeMap (String Global) (Vec ℕ Global)) → IsEmpty m → (name : List ℕ) → files_of m name ≡ None
unfolding files_of
files_of-empty m empty name = search empty

-- the file that a look-up gave
pub files_of-some : (m : BTreeMap (String Global) (Vec ℕ Global)) (name : List ℕ) (file : Vec ℕ Global) → Some file ≡ get_by_text m name → files_of m name ≡ Some file.items
unfolding files_of
files_of-some m name file found = ap (option_map (λ v. v.items)) (sym found)

pub files_of-none : (m : BTreeMap (String Global) (Vec ℕ Global)) (name : List ℕ) → None ≡ get_by_text m name → files_of m name ≡ None
unfolding files_of
files_of-none m name absent = ap (option_map (λ v. v.items)) (sym absent)

-- bytes were added at the end of a file that is there, or it stayed
pub append-ok : {T E : Type 0} (m n : BTreeMap (String Global) (Vec ℕ Global)) (name bytes : List ℕ) (old new : Vec ℕ Global) (result : Result T E) →
    UpdatesBy string_cmp (λ k. slice_cmp nat_cmp name (string_bytes k)) m n (Some new) → Some old ≡ get_by_text m name →
    new.items ≡ cond (is_ok result) (old.items ++ bytes) old.items →
    OnOk result (files_of n ≡ update bytes_eq (files_of m) name (Some (unwrap_or (files_of m name) [] ++ bytes)))
append-ok m n name bytes old new (Ok t) updates found items =
    files_of-update name m n (Some new) updates
    ∙ ap (λ piece. update bytes_eq (files_of m) name (Some piece)) (items ∙ ap (λ file. unwrap_or file [] ++ bytes) (sym (files_of-some m name old found)))
append-ok m n name bytes old new (Err e) updates found items = tt

pub append-err : {T E : Type 0} (m n : BTreeMap (String Global) (Vec ℕ Global)) (name bytes : List ℕ) (old new : Vec ℕ Global) (result : Result T E) →
    UpdatesBy string_cmp (λ k. slice_cmp nat_cmp name (string_bytes k)) m n (Some new) → Some old ≡ get_by_text m name →
    new.items ≡ cond (is_ok result) (old.items ++ bytes) old.items →
    OnErr result (files_of n ≡ files_of m)
append-err m n name bytes old new (Ok t) updates found items = tt
append-err m n name bytes old new (Err e) updates found items =
    files_of-update name m n (Some new) updates
    ∙ ap (λ piece. update bytes_eq (files_of m) name (Some piece)) items
    ∙ update-back (files_of m) name (Some old.items) (files_of-some m name old found)
