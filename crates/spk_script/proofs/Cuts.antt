-- Where the first word of a text ends, and what stands after it.
use Rattle.std.proofs.Common.{◌≡◌, ℕ, ◌+◌, ◌-◌, ◌<◌, Bool, true, false, not, suc, List, [], ◌∷◌, ◌++◌, length, take, drop, Option, Some, None, unwrap_or, refl, sym, ◌∙◌, ap, subst, inl, inr, arith}
use Rattle.std.proofs.lemmas.Bool.{cases_lt, cond_above, cond_below}
use Rattle.std.proofs.lemmas.Bool.Decides.{nat_tests}
use Rattle.std.proofs.lemmas.List.{take_all, length-drop}
use Rattle.std.proofs.lemmas.List.Elements.{All-weaker, All-drop}
use Rattle.std.proofs.lemmas.List.Sums.{AllPass-from_list_all, list_all-from_AllPass, prefix_len-le-length}
use Rattle.std.proofs.lemmas.Str.Ascii.{IsAscii-from_all}
use Rattle.std.proofs.lemmas.Str.{IsAscii-take}
use Rattle.std.specs.List.{list_all, position, position_or_len, IsFirstAndRest}
use Rattle.std.specs.Str.{IsAscii}
use Rattle.spk_script.specs.declared.words.Word.{Word}
use Rattle.spk_script.specs.declared.words.Cut.{Cut}
use Rattle.spk_script.specs.declared.words.Cut.TheVariants.{End, Open, Next}
use Rattle.spk_script.specs.Words.{is_allowed, is_blank, is_comment, is_quote, Blank, Bare, Quoted, put_word, put_byte, words_after, words_of}
use Rattle.spk_script.specs.Cuts.{ends_bare, BeginsVisibly, BeginsBare, put_words, IsNext, Cuts}

-- the first place that passes, where there is one and where there is none
pub place_found : (p : ℕ → Bool) (xs : List ℕ) (place : ℕ) → position p xs ≡ Some place → (position_or_len p xs ≡ place) × (place < length xs)
place_found p xs place is =
    elim (cases_lt (position_or_len p xs) (length xs)) [
      | inl within ↦ let found : Some (position_or_len p xs) ≡ position p xs = cond_below (position_or_len p xs) (length xs) _ None within in
          let same : position_or_len p xs ≡ place = cc in (same, omega arith)
      | inr following ↦ let none : None ≡ position p xs = cond_above (position_or_len p xs) (length xs) (Some (position_or_len p xs)) None None following refl in cc
    ]

pub place_missing : (p : ℕ → Bool) (xs : List ℕ) → position p xs ≡ None → position_or_len p xs ≡ length xs
place_missing p xs is =
    elim (cases_lt (position_or_len p xs) (length xs)) [
      | inl within ↦ let found : Some (position_or_len p xs) ≡ position p xs = cond_below (position_or_len p xs) (length xs) _ None within in cc
      | inr following ↦ omega (arith, prefix_len-le-length (λ x. not (p x)) xs)
    ]

pub place_or_len : (p : ℕ → Bool) (xs : List ℕ) → unwrap_or (position p xs) (length xs) ≡ position_or_len p xs
place_or_len p xs =
    elim (cases_lt (position_or_len p xs) (length xs)) [
      | inl within ↦ let found : Some (position_or_len p xs) ≡ position p xs = cond_below (position_or_len p xs) (length xs) _ None within in
          ap (λ o. unwrap_or o (length xs)) (sym found)
      | inr following ↦ let none : None ≡ position p xs = cond_above (position_or_len p xs) (length xs) (Some (position_or_len p xs)) None None following refl in
          let there : length xs ≡ position_or_len p xs = omega (arith, prefix_len-le-length (λ x. not (p x)) xs) in
          ap (λ o. unwrap_or o (length xs)) (sym none) ∙ there
    ]

-- one byte more at the start
pub by_bool : {P : Type 0} (v : Bool) → (v ≡ true → P) → (v ≡ false → P) → P
by_bool {P} v so otherwise = (elim v as (λ w. v ≡ w → P) [ true ↦ so | false ↦ otherwise ]) refl

one_more : (n : ℕ) → 1 + n ≡ suc n
one_more n = omega arith

place_after : (p : ℕ → Bool) (b : ℕ) (text : List ℕ) → p b ≡ false → position_or_len p (b ∷ text) ≡ suc (position_or_len p text)
place_after p b text is = rw is (one_more (position_or_len p text))

byte_of_word : (b : ℕ) (bytes : List ℕ) (quoted : Bool) (words : Option (List Word)) →
    put_byte b (put_word (record { text = bytes; quoted = quoted }) words) ≡ put_word (record { text = b ∷ bytes; quoted = quoted }) words
byte_of_word b bytes quoted None = refl
byte_of_word b bytes quoted (Some words) = refl

no_blank_comment : (b : ℕ) → is_blank b ≡ true → is_comment b ≡ true → ⊥
no_blank_comment b blank comment = grind (arith, nat_tests)

-- blanks at the start change nothing, and end at a byte that isn't blank
pub blanks_skipped : (text : List ℕ) → words_of (drop (position_or_len (λ b. not (is_blank b)) text) text) ≡ words_of text
unfolding words_after
blanks_skipped [] = refl
blanks_skipped (b ∷ text) =
    by_bool (is_blank b) (λ blank. by_bool (is_comment b) (λ comment. absurd (no_blank_comment b blank comment)) (λ plain. rw (blank, plain, one_more) (blanks_skipped text))) (λ seen. rw (seen, seen) refl)

pub begins_visibly : (text : List ℕ) → BeginsVisibly (drop (position_or_len (λ b. not (is_blank b)) text) text)
begins_visibly [] = tt
begins_visibly (b ∷ text) = by_bool (is_blank b) (λ blank. rw (blank, one_more) (begins_visibly text)) (λ seen. rw seen seen)

-- a bare word ends at a blank or at a comment, which is left where it stands
pub bare_word : (text : List ℕ) →
    words_after Bare text ≡ put_word (record { text = take (position_or_len ends_bare text) text; quoted = false }) (words_of (drop (position_or_len ends_bare text) text))
unfolding words_after
bare_word [] = refl
bare_word (b ∷ text) =
    by_bool (is_comment b)
    (λ comment. by_bool (is_blank b) (λ blank. rw (comment, blank, comment) refl) (λ seen. rw (comment, seen, comment) refl))
    (λ plain. by_bool (is_blank b) (λ blank. rw (plain, blank, plain, blank) refl)
    (λ seen. rw (plain, seen, one_more) (ap (put_byte b) (bare_word text) ∙ byte_of_word b _ false _)))

-- a quoted word ends at the next quote, if there is one
pub quoted_open : (text : List ℕ) → position_or_len is_quote text ≡ length text → words_after Quoted text ≡ None
unfolding words_after
quoted_open [] is = refl
quoted_open (b ∷ text) is =
    by_bool (is_quote b) (λ quote. let here : position_or_len is_quote (b ∷ text) ≡ 0 = rw quote refl in absurd (omega arith))
    (λ plain. let following : position_or_len is_quote (b ∷ text) ≡ suc (position_or_len is_quote text) = place_after is_quote b text plain in
    rw plain (ap (put_byte b) (quoted_open text (omega arith))))

pub quoted_closed : (text : List ℕ) → position_or_len is_quote text < length text →
    words_after Quoted text ≡ put_word (record { text = take (position_or_len is_quote text) text; quoted = true }) (words_of (drop (suc (position_or_len is_quote text)) text))
unfolding words_after
quoted_closed [] within = absurd (omega arith)
quoted_closed (b ∷ text) within =
    by_bool (is_quote b) (λ quote. rw quote refl)
    (λ plain. let following : position_or_len is_quote (b ∷ text) ≡ suc (position_or_len is_quote text) = place_after is_quote b text plain in
    rw (plain, one_more) (ap (put_byte b) (quoted_closed text (omega arith)) ∙ byte_of_word b _ true _))

-- a text of allowed bytes is ASCII
pub allowed_below : (b : ℕ) → is_allowed b ≡ true → b < 128
allowed_below b is = grind (arith, nat_tests)

pub allowed_is_ascii : (text : List ℕ) → list_all is_allowed text ≡ true → IsAscii text
allowed_is_ascii text allowed =
    IsAscii-from_all text (All-weaker (λ b. is_allowed b ≡ true) (λ b. b < 128) allowed_below text (AllPass-from_list_all is_allowed text allowed))

pub allowed_drop : (text : List ℕ) (n : ℕ) → list_all is_allowed text ≡ true → list_all is_allowed (drop n text) ≡ true
allowed_drop text n allowed = list_all-from_AllPass is_allowed (drop n text) (All-drop (λ x. is_allowed x ≡ true) n text (AllPass-from_list_all is_allowed text allowed))

-- what is left from a place on
from_place : (text : List ℕ) (n : ℕ) → take (length text - n) (drop n text) ≡ drop n text
from_place text n = take_all (length text - n) (drop n text) (omega (arith, length-drop n text))

pub start_is : (text : List ℕ) (n : ℕ) (found : Option ℕ) → n ≡ unwrap_or found (length text) → found ≡ position (λ b. not (is_blank b)) text →
    take (length text - n) (drop n text) ≡ drop (position_or_len (λ b. not (is_blank b)) text) text
start_is text n found is was =
    let same : n ≡ position_or_len (λ b. not (is_blank b)) text = is ∙ ap (λ o. unwrap_or o (length text)) was ∙ place_or_len (λ b. not (is_blank b)) text in
    from_place text n ∙ ap (λ k. drop k text) same

-- the word that is cut off, and what is left
pub quoted_none : (text : List ℕ) → position is_quote text ≡ None → words_after Quoted text ≡ None
quoted_none text none = quoted_open text (place_missing is_quote text none)

pub quoted_next : (text : List ℕ) (place : ℕ) → position is_quote text ≡ Some place → list_all is_allowed text ≡ true →
    IsNext Quoted text (take place text) true (take (length text - (place + 1)) (drop (place + 1) text))
quoted_next text place found allowed =
    let at : (position_or_len is_quote text ≡ place) × (place < length text) = place_found is_quote text place found in
    let within : position_or_len is_quote text < length text = omega arith in
    let next : suc (position_or_len is_quote text) ≡ place + 1 = omega arith in
    let rest : take (length text - (place + 1)) (drop (place + 1) text) ≡ drop (place + 1) text = from_place text (place + 1) in
    let less : length (drop (place + 1) text) < length text = omega (arith, length-drop (place + 1) text) in
    record {
      words = quoted_closed text within ∙ ap (λ k. put_word (record { text = take k text; quoted = true }) (words_of (drop (suc (position_or_len is_quote text)) text))) at.0
          ∙ ap (λ k. put_word (record { text = take place text; quoted = true }) (words_of (drop k text))) next
          ∙ ap (λ r. put_word (record { text = take place text; quoted = true }) (words_of r)) (sym rest);
      ascii = IsAscii-take text place (allowed_is_ascii text allowed);
      allowed = ap (list_all is_allowed) rest ∙ allowed_drop text (place + 1) allowed;
      shorter = subst (λ r. length r < length text) (sym rest) less;
    }

bare_is_after : (text : List ℕ) → BeginsBare text → (words_of text ≡ words_after Bare text) × (0 < position_or_len ends_bare text)
unfolding words_after
bare_is_after [] begins = absurd begins
bare_is_after (b ∷ text) begins =
    let blank : is_blank b ≡ false = begins.0 in
    let comment : is_comment b ≡ false = begins.1 in
    let quote : is_quote b ≡ false = begins.2 in
    let no : ends_bare b ≡ false = rw (blank, comment) refl in
    let following : position_or_len ends_bare (b ∷ text) ≡ suc (position_or_len ends_bare text) = place_after ends_bare b text no in
    (rw (comment, blank, quote) refl, omega arith)

pub bare_next : (text bytes rest : List ℕ) (n : ℕ) (found : Option ℕ) → BeginsBare text → list_all is_allowed text ≡ true →
    found ≡ position ends_bare text → n ≡ unwrap_or found (length text) → bytes ≡ take n text → rest ≡ drop n text → length rest + n ≡ length text → IsNext Blank text bytes false rest
bare_next text bytes rest n found begins allowed was is prefix back count =
    let same : n ≡ position_or_len ends_bare text = is ∙ ap (λ o. unwrap_or o (length text)) was ∙ place_or_len ends_bare text in
    let following : (words_of text ≡ words_after Bare text) × (0 < position_or_len ends_bare text) = bare_is_after text begins in
    let bytes_are : take (position_or_len ends_bare text) text ≡ bytes = ap (λ k. take k text) (sym same) ∙ sym prefix in
    let rest_is : drop (position_or_len ends_bare text) text ≡ rest = ap (λ k. drop k text) (sym same) ∙ sym back in
    record {
      words = following.0 ∙ bare_word text ∙ ap (λ x. put_word (record { text = x; quoted = false }) (words_of (drop (position_or_len ends_bare text) text))) bytes_are
          ∙ ap (λ r. put_word (record { text = bytes; quoted = false }) (words_of r)) rest_is;
      ascii = subst IsAscii (sym prefix) (IsAscii-take text n (allowed_is_ascii text allowed));
      allowed = ap (list_all is_allowed) back ∙ allowed_drop text n allowed;
      shorter = omega arith;
    }

-- a text by its first byte
pub first_none : (text : List ℕ) → length text ≡ 0 → words_of text ≡ Some []
unfolding words_after
first_none [] none = refl
first_none (b ∷ text) none = absurd (omega arith)

pub first_comment : (text rest : List ℕ) (b : ℕ) → IsFirstAndRest text b rest → b ≡ 35 → words_of text ≡ Some []
unfolding words_after
first_comment text rest b prefix comment = ap words_of (prefix.0 ∙ ap (λ x. x ∷ rest) comment)

quote_begins : (text rest : List ℕ) (b : ℕ) → IsFirstAndRest text b rest → b ≡ 34 → words_of text ≡ words_after Quoted rest
unfolding words_after
quote_begins text rest b prefix quote = ap words_of (prefix.0 ∙ ap (λ x. x ∷ rest) quote)

pub first_quote : (text rest : List ℕ) (b : ℕ) (cut : Cut) → IsFirstAndRest text b rest → b ≡ 34 → Cuts Quoted rest cut → Cuts Blank text cut
first_quote text rest b End prefix quote cuts = quote_begins text rest b prefix quote ∙ cuts
first_quote text rest b Open prefix quote cuts = quote_begins text rest b prefix quote ∙ cuts
first_quote text rest b (Next bytes quoted left) prefix quote cuts =
    record { words = quote_begins text rest b prefix quote ∙ cuts.words; ascii = cuts.ascii; allowed = cuts.allowed; shorter = omega (arith, prefix.1, cuts.shorter) }

-- words one by one
pub put_words_more : (words : List Word) (word : Word) (rest : Option (List Word)) → put_words (words ++ word ∷ []) rest ≡ put_words words (put_word word rest)
put_words_more [] word rest = refl
put_words_more (w ∷ words) word rest = ap (put_word w) (put_words_more words word rest)

pub put_words_end : (words : List Word) → put_words words (Some []) ≡ Some words
put_words_end [] = refl
put_words_end (w ∷ words) = ap (put_word w) (put_words_end words)

pub put_words_open : (words : List Word) → put_words words None ≡ None
put_words_open [] = refl
put_words_open (w ∷ words) = ap (put_word w) (put_words_open words)

-- one word more has been cut off
pub word_taken : (words now : List Word) (whole left rest : Option (List Word)) (text bytes : List ℕ) (quoted : Bool) →
    whole ≡ put_words words left → left ≡ put_word (record { text = bytes; quoted = quoted }) rest → text ≡ bytes → now ≡ words ++ record { text = text; quoted = quoted } ∷ [] → whole ≡ put_words now rest
word_taken words now whole left rest text bytes quoted so_far next copied pushed =
    let word : Word = record { text = bytes; quoted = quoted } in
    let ends : words ++ word ∷ [] ≡ now = ap (λ t. words ++ record { text = t; quoted = quoted } ∷ []) (sym copied) ∙ sym pushed in
    so_far ∙ ap (put_words words) next ∙ sym (put_words_more words word rest) ∙ ap (λ ws. put_words ws rest) ends
