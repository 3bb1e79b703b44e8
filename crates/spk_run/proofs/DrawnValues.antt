-- Values that `set` gives, one site after another.
use Rattle.std.proofs.Common.{◌≡◌, ℕ, ◌+◌, ◌<◌, ◌≤◌, Bool, true, false, List, [], ◌∷◌, ◌++◌, length, take, drop, get_or, set, Option, refl, arith, append_assoc, append-nil}
use Rattle.std.proofs.lemmas.List.{take_all, take_more, take_more_set, drop_all, drop_more, drop-set-lt}
use Rattle.spk_num.specs.declared.decimal.Dec.{Dec}
use Rattle.spk_cmds.specs.declared.command.SetValue.{SetValue}
use Rattle.spk_run.specs.Drawing.{given_or_kept, drawn_at, values_from}

-- no site is left
pub values_none : (asked : SetValue) (fraction : Option Dec) (is_set : ℕ → Bool) (id stream : ℕ) → values_from asked fraction is_set id [] stream ≡ []
unfolding values_from
values_none asked fraction is_set id stream = refl

-- the first of more sites
pub values_more : (asked : SetValue) (fraction : Option Dec) (is_set : ℕ → Bool) (id stream value : ℕ) (values : List ℕ) →
    values_from asked fraction is_set id (value ∷ values) stream
    ≡ (drawn_at asked fraction is_set id value stream).value ∷ values_from asked fraction is_set (id + 1) values (drawn_at asked fraction is_set id value stream).stream
unfolding values_from
values_more asked fraction is_set id stream value values = refl

-- A site that is set: the sites before it have their values, and `whole` comes of the others.
pub site_set : (asked : SetValue) (fraction : Option Dec) (is_set : ℕ → Bool) (values whole : List ℕ) (at id value stream next : ℕ) →
    at < length values → id ≡ at + 1 → is_set id ≡ true →
    value ≡ (given_or_kept asked fraction id (get_or values at 0) stream).value →
    next ≡ (given_or_kept asked fraction id (get_or values at 0) stream).stream →
    take at values ++ values_from asked fraction is_set (at + 1) (drop at values) stream ≡ whole →
    take (at + 1) (set values at value) ++ values_from asked fraction is_set (at + 1 + 1) (drop (at + 1) (set values at value)) next ≡ whole
site_set asked fraction is_set values whole at id value stream next less id_is in_area value_is next_is so_far =
    let here : is_set (at + 1) ≡ true = rw id_is at in_area in
    let v : value ≡ (given_or_kept asked fraction (at + 1) (get_or values at 0) stream).value = rw id_is at value_is in
    let n : next ≡ (given_or_kept asked fraction (at + 1) (get_or values at 0) stream).stream = rw id_is at next_is in
    rw (
      take_more_set values at value less,
      append_assoc (take at values) (value ∷ []) (values_from asked fraction is_set (at + 1 + 1) (drop (at + 1) (set values at value)) next),
      drop-set-lt (at + 1) values at value (omega arith),
      v,
      n,
    ) (rw (drop_more values at 0 less, values_more, here) at so_far)

-- a site that isn't set
pub site_kept : (asked : SetValue) (fraction : Option Dec) (is_set : ℕ → Bool) (values whole : List ℕ) (at id stream : ℕ) →
    at < length values → id ≡ at + 1 → is_set id ≡ false →
    take at values ++ values_from asked fraction is_set (at + 1) (drop at values) stream ≡ whole →
    take (at + 1) values ++ values_from asked fraction is_set (at + 1 + 1) (drop (at + 1) values) stream ≡ whole
site_kept asked fraction is_set values whole at id stream less id_is out so_far =
    let away : is_set (at + 1) ≡ false = rw id_is at out in
    rw (
      take_more values at 0 less,
      append_assoc (take at values) (get_or values at 0 ∷ []) (values_from asked fraction is_set (at + 1 + 1) (drop (at + 1) values) stream),
    ) (rw (drop_more values at 0 less, values_more, away) at so_far)

-- where no site is left
pub sites_done : (asked : SetValue) (fraction : Option Dec) (is_set : ℕ → Bool) (values whole : List ℕ) (at stream : ℕ) →
    length values ≤ at →
    take at values ++ values_from asked fraction is_set (at + 1) (drop at values) stream ≡ whole → values ≡ whole
sites_done asked fraction is_set values whole at stream past so_far =
    rw (drop_all at values past, values_none, append-nil, take_all at values past) at so_far
