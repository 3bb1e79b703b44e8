-- Pieces that are written byte by byte, and at once.
use Rattle.std.proofs.Common.{◌≡◌, ℕ, ◌==◌, List, [], ◌∷◌, ◌++◌, length, Option, None, Some, Bool, true, false, cond, map, drop, Result, Ok, Err, is_ok, OnOk, OnErr, refl, ap, subst, ◌∙◌, sym, arith}
use Rattle.std.proofs.Math.Path.{fun_ext}
use Rattle.std.proofs.lemmas.List.{append-nil, map-append, take-append-drop}
use Rattle.std.proofs.lemmas.Slice.Eq.{bytes_eq-Decides}
use Rattle.std.proofs.lemmas.Bool.{eqb-true}
use Rattle.std.specs.Option.{unwrap_or}
use Rattle.std.specs.Map.{update}
use Rattle.std.specs.Str.{bytes_eq}
use Rattle.spk_world.specs.Outside.{Outside, Event, Adds, Says, after, after_told, added, spoken, adds, says, WritesPrefix}
use Rattle.spk_world.specs.Memory.{prefix_of, outside_of, with_failure_counted, EndsExactly}
use Rattle.spk_world.specs.declared.memory.MemWorld.{MemWorld}
use Rattle.spk_world.specs.declared.memory.Reason.{Reason}
use Rattle.spk_world.specs.declared.memory.Reason.TheVariants.{Planned, Memory as OutOfMemory}
use Rattle.spk_world.proofs.Events.{after-adds, after-says}

-- what a file holds is put there again
update-back-at : (f : List ℕ → Option (List ℕ)) (name : List ℕ) (file : Option (List ℕ)) (q : List ℕ) → f name ≡ file →
    (b : Bool) → bytes_eq name q ≡ b → cond b file (f q) ≡ f q
update-back-at f name file q is true same = sym is ∙ ap f ((bytes_eq-Decides name q).0 same)
update-back-at f name file q is false other = refl

pub update-back : (f : List ℕ → Option (List ℕ)) (name : List ℕ) (file : Option (List ℕ)) → f name ≡ file → update bytes_eq f name file ≡ f
update-back f name file is = fun_ext (λ q. update-back-at f name file q is (bytes_eq name q) refl)

after-adds-some : (outside : Outside) (name bytes : List ℕ) (filled : (length bytes == 0) ≡ false) → after outside (adds name bytes) ≡ added outside name bytes
after-adds-some outside name [] filled = cc
after-adds-some outside name (b ∷ bytes) filled = after-adds outside name b bytes

-- nothing that is added makes no file
pub after-adds-empty : (outside : Outside) (name bytes : List ℕ) (empty : (length bytes == 0) ≡ true) → after outside (adds name bytes) ≡ outside
unfolding after adds
after-adds-empty outside name [] empty = refl
after-adds-empty outside name (b ∷ bytes) empty = let none : length (b ∷ bytes) ≡ 0 = eqb-true _ _ empty in absurd (omega arith)

pub added-prefix : {T E : Type 0} (outside : Outside) (files : List ℕ → Option (List ℕ)) (name bytes : List ℕ) (result : Result T E) → (length bytes == 0) ≡ false →
    OnOk result (files ≡ update bytes_eq outside.files name (Some (unwrap_or (outside.files name) [] ++ bytes))) →
    OnOk result (record outside { files = files } ≡ after outside (adds name bytes))
added-prefix outside files name bytes (Ok t) filled changed = ap (λ f. record outside { files = f }) changed ∙ sym (after-adds-some outside name bytes filled)
added-prefix outside files name bytes (Err e) filled changed = tt

-- what the plan leaves is a prefix
prefix_left : (plan : Option ℕ) (bytes : List ℕ) → (left : List ℕ) × (prefix_of plan bytes ++ left ≡ bytes)
prefix_left None bytes = ([], append-nil bytes)
prefix_left (Some n) bytes = (drop n bytes, take-append-drop n bytes)

pub prefix-says : (outside : Outside) (plan : Option ℕ) (bytes : List ℕ) → WritesPrefix (Some outside) (Some (spoken outside (prefix_of plan bytes))) (says bytes)
unfolding after_told says
prefix-says outside plan bytes =
    let left = prefix_left plan bytes in
    record {
      written = says (prefix_of plan bytes);
      left = says left.0;
      split = sym (map-append Says (prefix_of plan bytes) left.0) ∙ ap (map Says) left.1;
      stands = ap Some (sym (after-says outside (prefix_of plan bytes)));
    }

pub prefix-adds : (outside : Outside) (plan : Option ℕ) (name bytes : List ℕ) → WritesPrefix (Some outside) (Some (after outside (adds name (prefix_of plan bytes)))) (adds name bytes)
unfolding after_told adds
prefix-adds outside plan name bytes =
    let left = prefix_left plan bytes in
    record {
      written = adds name (prefix_of plan bytes);
      left = adds name left.0;
      split = sym (map-append (Adds name) (prefix_of plan bytes) left.0) ∙ ap (map (Adds name)) left.1;
      stands = refl;
    }

pub prefix-none : (outside : Outside) (events : List Event) → WritesPrefix (Some outside) (Some outside) events
unfolding after_told after
prefix-none outside events = record { written = []; left = events; split = refl; stands = refl }

-- A failed write left a prefix of its events. It was called in files and screen as before, and the counts that rose
-- changed neither.
pub fails-prefix : {T U E : Type 0} (plan : Option ℕ) (allocates : Type 0) (before called piece now whole prefix : Outside) (events : List Event) (ended : Result T Reason) (result : Result U E) →
    called ≡ before → now ≡ piece → is_ok result ≡ is_ok ended → EndsExactly plan allocates called piece whole prefix ended →
    WritesPrefix (Some called) (Some prefix) events →
    OnErr result (WritesPrefix (Some before) (Some now) events)
fails-prefix plan allocates before called piece now whole prefix events ended (Ok u) start end same ends prefixes = tt
fails-prefix plan allocates before called piece now whole prefix events (Ok t) (Err e) start end same ends prefixes = cc
fails-prefix plan allocates before called piece now whole prefix events (Err Planned) (Err e) start end same ends prefixes =
    subst (λ o. WritesPrefix (Some before) (Some o) events) (sym (end ∙ ends.1)) (subst (λ o. WritesPrefix (Some o) (Some prefix) events) start prefixes)
fails-prefix plan allocates before called piece now whole prefix events (Err OutOfMemory) (Err e) start end same ends prefixes =
    subst (λ o. WritesPrefix (Some before) (Some o) events) (sym (end ∙ ends.1 ∙ start)) (prefix-none before events)

-- no count changes files and screen
pub outside_of-counted : {T : Type 0} (with_fault : MemWorld → MemWorld) (world : MemWorld) (ended : Result T Reason) →
    ((w : MemWorld) → outside_of (with_fault w) ≡ outside_of w) → outside_of (with_failure_counted with_fault world ended) ≡ outside_of world
outside_of-counted with_fault world (Ok t) same = refl
outside_of-counted with_fault world (Err Planned) same = same world
outside_of-counted with_fault world (Err OutOfMemory) same = same world
