-- Lines that continue in the next one, seen from their end.
use Rattle.std.proofs.Common.{◌≡◌, ℕ, true, false, List, [], ◌∷◌, ◌++◌, reverse, ◌==◌, refl, sym, ◌∙◌, ap}
use Rattle.std.proofs.lemmas.List.{reverse-append, reverse-reverse}
use Rattle.spk_script.specs.Words.{is_blank}
use Rattle.spk_script.specs.Lines.{past_blanks, from_end, continues, given, continues_by, given_by}

at_blank : (last : ℕ) (before : List ℕ) → is_blank last ≡ true → past_blanks (last ∷ before) ≡ past_blanks before
at_blank last before blank = rw blank refl

at_other : (last : ℕ) (before : List ℕ) → is_blank last ≡ false → past_blanks (last ∷ before) ≡ last ∷ before
at_other last before other = rw other refl

pub blank_at_end : (prefix : List ℕ) (last : ℕ) → is_blank last ≡ true → from_end (prefix ++ last ∷ []) ≡ from_end prefix
blank_at_end prefix last blank = ap past_blanks (reverse-append prefix (last ∷ [])) ∙ at_blank last (reverse prefix) blank

pub none_at_end : (prefix : List ℕ) (last : ℕ) → is_blank last ≡ false → reverse (prefix ++ last ∷ []) ≡ from_end (prefix ++ last ∷ [])
none_at_end prefix last other =
    let turned : reverse (prefix ++ last ∷ []) ≡ last ∷ reverse prefix = reverse-append prefix (last ∷ []) in
    turned ∙ sym (ap past_blanks turned ∙ at_other last (reverse prefix) other)

-- what a line gives by what is seen from its end
pub ampersand_at_end : (line text prefix : List ℕ) → reverse text ≡ from_end line → text ≡ prefix ++ 38 ∷ [] → (continues line ≡ true) × (given line ≡ prefix)
ampersand_at_end line text prefix is end =
    let seen : from_end line ≡ 38 ∷ reverse prefix = sym is ∙ ap reverse end ∙ reverse-append prefix (38 ∷ []) in
    (ap continues_by seen, ap (given_by line) seen ∙ reverse-reverse prefix)

pub nothing_at_end : (line text : List ℕ) → reverse text ≡ from_end line → text ≡ [] → (continues line ≡ false) × (given line ≡ line)
nothing_at_end line text is end =
    let seen : from_end line ≡ [] = sym is ∙ ap reverse end in
    (ap continues_by seen, ap (given_by line) seen)

pub other_at_end : (line text prefix : List ℕ) (last : ℕ) → reverse text ≡ from_end line → text ≡ prefix ++ last ∷ [] → (last == 38) ≡ false →
    (continues line ≡ false) × (given line ≡ line)
other_at_end line text prefix last is end other =
    let seen : from_end line ≡ last ∷ reverse prefix = sym is ∙ ap reverse end ∙ reverse-append prefix (last ∷ []) in
    (ap continues_by seen ∙ other, ap (given_by line) seen ∙ rw other refl)
