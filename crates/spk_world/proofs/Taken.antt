-- How far a loop over writes, or a read, has come.
use Rattle.std.proofs.Common.{◌≡◌, ℕ, ◌<◌, ◌≤◌, ◌-◌, List, [], ◌++◌, length, take, drop, Option, None, Some, IfSome, ap, sym, ◌∙◌, append_assoc, take-append-drop, arith}
use Rattle.std.proofs.lemmas.List.{take_rest, length-take, take_all}
use Rattle.std.specs.Option.{option_map}
use Rattle.std.specs.Io.KnownBytes.{Appends, Keeps}
use Rattle.std.proofs.KnownBytes.{Appends-trans}
use Rattle.spk_world.specs.Host.{TookAllBut}

pub taken_more : (before now next : Option (List ℕ)) (bytes left : List ℕ) (count : ℕ) → TookAllBut before now bytes left → Appends now next (take count left) →
    TookAllBut before next bytes (take (length left - count) (drop count left))
taken_more before now next bytes left count taken appends = record {
  prefix = taken.prefix ++ take count left;
  split = taken.split ∙ ap (λ l. taken.prefix ++ l) (sym (take-append-drop count left))
      ∙ sym (append_assoc taken.prefix (take count left) (drop count left)) ∙ ap (λ l. (taken.prefix ++ take count left) ++ l) (sym (take_rest left count));
  appends = Appends-trans _ _ _ _ _ taken.appends appends;
}

appends_kept : (before now next : Option (List ℕ)) (prefix : List ℕ) → Appends before now prefix → Keeps now next → Appends before next prefix
appends_kept None now next prefix appends keeps = tt
appends_kept (Some xs) None next prefix appends keeps = absurd appends
appends_kept (Some xs) (Some ys) None prefix appends keeps = absurd keeps
appends_kept (Some xs) (Some ys) (Some zs) prefix appends keeps = keeps ∙ appends

pub taken_kept : (before now next : Option (List ℕ)) (bytes left : List ℕ) → TookAllBut before now bytes left → Keeps now next → TookAllBut before next bytes left
taken_kept before now next bytes left taken keeps = record {
  prefix = taken.prefix;
  split = taken.split;
  appends = appends_kept before now next taken.prefix taken.appends keeps;
}

-- a reader that was cut off after more bytes than it gave has given all
pub gives_all : (known : Option (List ℕ)) (most : ℕ) (before items : List ℕ) → IfSome (option_map (take most) known) (λ xs. items ≡ before ++ xs) → before ≡ [] → length items < most → IfSome known (λ all. items ≡ all)
gives_all None most before items gave none short = tt
gives_all (Some all) most before items gave none short =
    let prefix : items ≡ take most all = gave ∙ ap (λ l. l ++ take most all) none in
    let fits : length all ≤ most = omega (arith, ap length prefix, length-take most all) in
    prefix ∙ take_all most all fits
