-- One word or pair more, and what is left of words.
use Rattle.std.proofs.Common.{◌≡◌, ℕ, zero, suc, ◌+◌, ◌-◌, ◌<◌, ◌≤◌, Bool, true, false, cond, ◌||◌, List, [], ◌∷◌, ◌++◌, length, get_or, take, drop, Result, Ok, Err, refl, sym, ap, subst, ◌∙◌, arith}
use Rattle.std.proofs.lemmas.List.{get_or_default, length-map, length-drop, take_all}
use Rattle.std.specs.Result.{IsErrAnd}
use Rattle.std.specs.Str.{bytes_eq}
use Rattle.spk_num.specs.Results.{◌>>=◌, ◌>>◌, IsPlainOrMemory}
use Rattle.spk_num.proofs.ResultLaws.{then_value, plain_is}
use Rattle.spk_cmds.specs.declared.command.CommandFault.{CommandFault}
use Rattle.spk_cmds.specs.declared.command.CommandFault.TheVariants.{WrongCount}
use Rattle.spk_cmds.specs.declared.form.Kind as code
use Rattle.spk_cmds.specs.declared.value.Reading.{Reading}
use Rattle.spk_cmds.specs.declared.value.Value.{Value}
use Rattle.spk_cmds.specs.declared.value.Value.TheVariants as value
use Rattle.spk_cmds.specs.Faults.{is_memory}
use Rattle.spk_cmds.specs.Kinds.{Kind, formed, valued}
use Rattle.spk_cmds.specs.Forms.{Keyword, Tail, Form, is_count, tail_formed, tail_valued, words_formed, words_valued, form_read, all_formed, each_formed, stands_in, keyword_kind, pair_formed, pairs_formed, all_valued, each_valued, pairs_valued}
use Rattle.spk_cmds.specs.Views.{kind_seen, kinds_seen}
use Rattle.spk_cmds.proofs.Refusals.{is_value, is_fault, handed_on, goes_on}
use Rattle.spk_cmds.proofs.SomeWords.{StandsAt, one_and_more, two_and_more}

abbrev pub IsPlain : {A : Type 0} → Result A CommandFault → Result A CommandFault → Type 0
IsPlain plain result = IsPlainOrMemory is_memory plain result

-- what is left after one item, and after two
abbrev pub after_one : {A : Type 0} → List A → List A
after_one xs = take (length xs - 1) (drop 1 xs)

abbrev pub after_two : {A : Type 0} → List A → List A
after_two xs = take (length xs - 2) (drop 2 xs)

-- words by their kinds
pub no_kinds_formed : (kinds : List code.Kind) (words : List (List ℕ)) (u : Unit {0}) → length kinds < 1 → IsPlain (all_formed (kinds_seen kinds) words) (Ok u)
no_kinds_formed [] words u none = is_value _ _ refl
no_kinds_formed (kind ∷ kinds) words u none = absurd (omega arith)

pub no_words_formed : (kinds : List code.Kind) (words : List (List ℕ)) (u : Unit {0}) → length words < 1 → IsPlain (all_formed (kinds_seen kinds) words) (Ok u)
no_words_formed [] [] u none = is_value _ _ refl
no_words_formed (kind ∷ kinds) [] u none = is_value _ _ refl
no_words_formed kinds (word ∷ words) u none = absurd (omega arith)

module _ (kinds : List code.Kind) (words : List (List ℕ)) (d : code.Kind) (word : List ℕ) (some_kinds : 1 ≤ length kinds)
    (some_words : 1 ≤ length words) (first_word : StandsAt words 0 word) where
  all_formed_from : (result : Result (Unit {0}) CommandFault) →
      IsPlain (formed (kind_seen (get_or kinds 0 d)) word >> all_formed (kinds_seen (after_one kinds)) (after_one words)) result → IsPlain (all_formed (kinds_seen kinds) words) result
  all_formed_from result same =
      let kind = get_or kinds 0 d in
      subst (λ ks. IsPlain (all_formed (kinds_seen ks) words) result) (one_and_more kinds kind some_kinds (get_or_default kinds 0 d kind (omega arith)))
      (subst (λ ws. IsPlain (all_formed (kinds_seen (kind ∷ after_one kinds)) ws) result) (one_and_more words word some_words first_word) same)

  pub first_refused : (fault : CommandFault) (result : Result (Unit {0}) CommandFault) → IsPlain (formed (kind_seen (get_or kinds 0 d)) word) (Err fault) →
      IsErrAnd result (λ f. f ≡ fault) → IsPlain (all_formed (kinds_seen kinds) words) result
  first_refused fault result failed handed = all_formed_from result (handed_on _ (λ _. all_formed (kinds_seen (after_one kinds)) (after_one words)) fault result failed handed)

  pub first_formed : (u : Unit {0}) (result : Result (Unit {0}) CommandFault) → IsPlain (formed (kind_seen (get_or kinds 0 d)) word) (Ok u) →
      IsPlain (all_formed (kinds_seen (after_one kinds)) (after_one words)) result → IsPlain (all_formed (kinds_seen kinds) words) result
  first_formed u result passed same = all_formed_from result (goes_on _ (λ _. all_formed (kinds_seen (after_one kinds)) (after_one words)) u result passed same)

-- words of one kind
pub none_left : (kind : Kind) (words : List (List ℕ)) (u : Unit {0}) → length words < 1 → IsPlain (each_formed kind words) (Ok u)
none_left kind [] u none = is_value _ _ refl
none_left kind (word ∷ words) u none = absurd (omega arith)

pub next_refused : (kind : Kind) (words : List (List ℕ)) (word : List ℕ) (fault : CommandFault) (result : Result (Unit {0}) CommandFault) → 1 ≤ length words → StandsAt words 0 word →
    IsPlain (formed kind word) (Err fault) → IsErrAnd result (λ f. f ≡ fault) → IsPlain (each_formed kind words) result
next_refused kind words word fault result some first failed handed =
    subst (λ ws. IsPlain (each_formed kind ws) result) (one_and_more words word some first) (handed_on _ (λ _. each_formed kind (after_one words)) fault result failed handed)

pub next_formed : (kind : Kind) (words : List (List ℕ)) (word : List ℕ) (u : Unit {0}) → 1 ≤ length words → StandsAt words 0 word →
    IsPlain (formed kind word) (Ok u) → each_formed kind words ≡ each_formed kind (after_one words)
next_formed kind words word u some first passed =
    sym (ap (λ ws. each_formed kind ws) (one_and_more words word some first)) ∙ then_value (formed kind word) (λ _. each_formed kind (after_one words)) u (plain_is is_memory _ _ passed)

-- a keyword among pairs
pub stands_on : (pairs : List (List ℕ)) (keyword word : List ℕ) (found : Bool) → 2 ≤ length pairs → StandsAt pairs 0 keyword →
    bytes_eq word keyword ≡ false → found ≡ stands_in (after_two pairs) word → found ≡ stands_in pairs word
stands_on pairs keyword word found some first differs same =
    let second = get_or_default pairs 1 keyword (get_or pairs 1 keyword) (omega arith) in
    same ∙ sym (ap (λ b. b || stands_in (after_two pairs) word) differs) ∙ ap (λ ps. stands_in ps word) (two_and_more pairs keyword (get_or pairs 1 keyword) some first second)

-- the pairs from a place on, and those before it
pair_split : (words : List (List ℕ)) (place next : ℕ) (word given : List ℕ) → next ≡ suc (suc place) → 2 ≤ length (drop place words) →
    StandsAt (drop place words) 0 word → StandsAt (drop place words) 1 given →
    (drop place words ≡ word ∷ given ∷ drop next words) × (take next words ≡ take place words ++ word ∷ given ∷ [])
pair_split [] zero next word given is some first second = absurd (omega arith)
pair_split (a ∷ []) zero next word given is some first second = absurd (omega arith)
pair_split (a ∷ b ∷ words) zero next word given is some first second = rw is (cc, cc)
pair_split [] (suc place) next word given is some first second = absurd (omega arith)
pair_split (a ∷ words) (suc place) zero word given is some first second = absurd (omega arith)
pair_split (a ∷ words) (suc place) (suc next) word given is some first second =
    let both = pair_split words place next word given (cc) some first second in
    (both.0, ap (λ ws. a ∷ ws) both.1)

pub no_pair_left : (keywords : List Keyword) (unbuilt before pairs : List (List ℕ)) (u : Unit {0}) → length pairs < 2 → IsPlain (pairs_formed keywords unbuilt before pairs) (Ok u)
no_pair_left keywords unbuilt before [] u few = is_value _ _ refl
no_pair_left keywords unbuilt before (word ∷ []) u few = is_value _ _ refl
no_pair_left keywords unbuilt before (word ∷ given ∷ pairs) u few = absurd (omega arith)

module _ (keywords : List Keyword) (unbuilt words : List (List ℕ)) (place : ℕ) (word given : List ℕ) (some : 2 ≤ length (drop place words))
    (first : StandsAt (drop place words) 0 word) (second : StandsAt (drop place words) 1 given) where
  pairs_from : (result : Result (Unit {0}) CommandFault) →
      IsPlain (pair_formed keywords unbuilt (stands_in (take place words) word) word given >> pairs_formed keywords unbuilt (take (place + 2) words) (drop (place + 2) words)) result →
      IsPlain (pairs_formed keywords unbuilt (take place words) (drop place words)) result
  pairs_from result same =
      let both = pair_split words place (place + 2) word given (omega arith) some first second in
      subst (λ ps. IsPlain (pairs_formed keywords unbuilt (take place words) ps) result) (sym both.0)
      (subst (λ before. IsPlain (pair_formed keywords unbuilt (stands_in (take place words) word) word given >> pairs_formed keywords unbuilt before (drop (place + 2) words)) result) both.1 same)

  pub pair_refused : (again : Bool) (fault : CommandFault) (result : Result (Unit {0}) CommandFault) → again ≡ stands_in (take place words) word →
      IsPlain (pair_formed keywords unbuilt again word given) (Err fault) → IsErrAnd result (λ f. f ≡ fault) →
      IsPlain (pairs_formed keywords unbuilt (take place words) (drop place words)) result
  pair_refused again fault result is failed handed =
      pairs_from result (handed_on _ (λ _. pairs_formed keywords unbuilt (take (place + 2) words) (drop (place + 2) words)) fault result
      (subst (λ b. IsPlain (pair_formed keywords unbuilt b word given) (Err fault)) is failed) handed)

  pub pair_passed : (again : Bool) (u : Unit {0}) (result : Result (Unit {0}) CommandFault) → again ≡ stands_in (take place words) word →
      IsPlain (pair_formed keywords unbuilt again word given) (Ok u) →
      IsPlain (pairs_formed keywords unbuilt (take (place + 2) words) (drop (place + 2) words)) result →
      IsPlain (pairs_formed keywords unbuilt (take place words) (drop place words)) result
  pair_passed again u result is passed same =
      pairs_from result (goes_on _ (λ _. pairs_formed keywords unbuilt (take (place + 2) words) (drop (place + 2) words)) u result
      (subst (λ b. IsPlain (pair_formed keywords unbuilt b word given) (Ok u)) is passed) same)

pub again_is : (before front : List (List ℕ)) (shown word : List ℕ) (again : Bool) → before ≡ front → shown ≡ word → again ≡ stands_in before shown → again ≡ stands_in front word
again_is before front shown word again same is found = cc

-- values of words by their kinds
pub no_kinds_valued : (values : List Value) (kinds : List code.Kind) (words : List (List ℕ)) → length kinds < 1 → IsPlain (all_valued values (kinds_seen kinds) words) (Ok values)
no_kinds_valued values [] words none = is_value _ _ refl
no_kinds_valued values (kind ∷ kinds) words none = absurd (omega arith)

pub no_words_valued : (values : List Value) (kinds : List code.Kind) (words : List (List ℕ)) → length words < 1 → IsPlain (all_valued values (kinds_seen kinds) words) (Ok values)
no_words_valued values [] [] none = is_value _ _ refl
no_words_valued values (kind ∷ kinds) [] none = is_value _ _ refl
no_words_valued values kinds (word ∷ words) none = absurd (omega arith)

module _ (values : List Value) (kinds : List code.Kind) (words : List (List ℕ)) (d : code.Kind) (word : List ℕ)
    (some_kinds : 1 ≤ length kinds) (some_words : 1 ≤ length words) (first_word : StandsAt words 0 word) where
  all_valued_from : (result : Result (List Value) CommandFault) →
      IsPlain (valued (kind_seen (get_or kinds 0 d)) word (after_one words) >>= λ v. all_valued (values ++ v ∷ []) (kinds_seen (after_one kinds)) (after_one words)) result →
      IsPlain (all_valued values (kinds_seen kinds) words) result
  all_valued_from result same =
      let kind = get_or kinds 0 d in
      subst (λ ks. IsPlain (all_valued values (kinds_seen ks) words) result) (one_and_more kinds kind some_kinds (get_or_default kinds 0 d kind (omega arith)))
      (subst (λ ws. IsPlain (all_valued values (kinds_seen (kind ∷ after_one kinds)) ws) result) (one_and_more words word some_words first_word) same)

  pub first_out : (fault : CommandFault) (result : Result (List Value) CommandFault) →
      IsPlain (valued (kind_seen (get_or kinds 0 d)) word (after_one words)) (Err fault) → IsErrAnd result (λ f. f ≡ fault) → IsPlain (all_valued values (kinds_seen kinds) words) result
  first_out fault result failed handed =
      all_valued_from result (handed_on _ (λ v. all_valued (values ++ v ∷ []) (kinds_seen (after_one kinds)) (after_one words)) fault result failed handed)

  pub first_valued : (v : Value) (more : List Value) (result : Result (List Value) CommandFault) →
      IsPlain (valued (kind_seen (get_or kinds 0 d)) word (after_one words)) (Ok v) → more ≡ values ++ v ∷ [] →
      IsPlain (all_valued more (kinds_seen (after_one kinds)) (after_one words)) result → IsPlain (all_valued values (kinds_seen kinds) words) result
  first_valued v more result passed is same =
      all_valued_from result (goes_on _ (λ v. all_valued (values ++ v ∷ []) (kinds_seen (after_one kinds)) (after_one words)) v result passed
      (subst (λ vs. IsPlain (all_valued vs (kinds_seen (after_one kinds)) (after_one words)) result) is same))

-- values of words of one kind
pub none_left_valued : (values : List Value) (kind : Kind) (words : List (List ℕ)) → length words < 1 → each_valued values kind words ≡ Ok values
none_left_valued values kind [] none = refl
none_left_valued values kind (word ∷ words) none = absurd (omega arith)

pub next_out : (values : List Value) (kind : Kind) (words : List (List ℕ)) (word : List ℕ) (fault : CommandFault) (result : Result (List Value) CommandFault) → 1 ≤ length words → StandsAt words 0 word →
    IsPlain (valued kind word (after_one words)) (Err fault) → IsErrAnd result (λ f. f ≡ fault) → IsPlain (each_valued values kind words) result
next_out values kind words word fault result some first failed handed =
    subst (λ ws. IsPlain (each_valued values kind ws) result) (one_and_more words word some first)
    (handed_on _ (λ v. each_valued (values ++ v ∷ []) kind (after_one words)) fault result failed handed)

pub next_valued : (values more : List Value) (kind : Kind) (words : List (List ℕ)) (word : List ℕ) (v : Value) → 1 ≤ length words → StandsAt words 0 word →
    IsPlain (valued kind word (after_one words)) (Ok v) → more ≡ values ++ v ∷ [] → each_valued values kind words ≡ each_valued more kind (after_one words)
next_valued values more kind words word v some first passed is =
    sym (ap (λ ws. each_valued values kind ws) (one_and_more words word some first))
    ∙ then_value (valued kind word (after_one words)) (λ v. each_valued (values ++ v ∷ []) kind (after_one words)) v (plain_is is_memory _ _ passed)
    ∙ sym (ap (λ vs. each_valued vs kind (after_one words)) is)

-- values of pairs
pub no_pair_valued : (values : List Value) (keywords : List Keyword) (pairs : List (List ℕ)) → length pairs < 2 → IsPlain (pairs_valued values keywords pairs) (Ok values)
no_pair_valued values keywords [] few = is_value _ _ refl
no_pair_valued values keywords (word ∷ []) few = is_value _ _ refl
no_pair_valued values keywords (word ∷ given ∷ pairs) few = absurd (omega arith)

module _ (values : List Value) (keywords : List Keyword) (pairs : List (List ℕ)) (word given : List ℕ) (kind : Kind) (some : 2 ≤ length pairs)
    (first : StandsAt pairs 0 word) (second : StandsAt pairs 1 given) (its : kind ≡ keyword_kind keywords word) where
  pairs_valued_from : (result : Result (List Value) CommandFault) →
      IsPlain (valued kind given (after_two pairs) >>= λ v. pairs_valued (values ++ value.Word word ∷ [] ++ v ∷ []) keywords (after_two pairs)) result →
      IsPlain (pairs_valued values keywords pairs) result
  pairs_valued_from result same =
      subst (λ ps. IsPlain (pairs_valued values keywords ps) result) (two_and_more pairs word given some first second)
      (subst (λ k. IsPlain (valued k given (after_two pairs) >>= λ v. pairs_valued (values ++ value.Word word ∷ [] ++ v ∷ []) keywords (after_two pairs)) result) its same)

  pub pair_out : (fault : CommandFault) (result : Result (List Value) CommandFault) → IsPlain (valued kind given (after_two pairs)) (Err fault) → IsErrAnd result (λ f. f ≡ fault) →
      IsPlain (pairs_valued values keywords pairs) result
  pair_out fault result failed handed =
      pairs_valued_from result (handed_on _ (λ v. pairs_valued (values ++ value.Word word ∷ [] ++ v ∷ []) keywords (after_two pairs)) fault result failed handed)

  pub pair_valued : (v : Value) (with_word with_both : List Value) (result : Result (List Value) CommandFault) → IsPlain (valued kind given (after_two pairs)) (Ok v) →
      with_word ≡ values ++ value.Word word ∷ [] → with_both ≡ with_word ++ v ∷ [] → IsPlain (pairs_valued with_both keywords (after_two pairs)) result →
      IsPlain (pairs_valued values keywords pairs) result
  pair_valued v with_word with_both result passed one both same =
      let all : with_both ≡ values ++ value.Word word ∷ [] ++ v ∷ [] = both ∙ ap (λ vs. vs ++ v ∷ []) one in
      pairs_valued_from result (goes_on _ (λ v. pairs_valued (values ++ value.Word word ∷ [] ++ v ∷ []) keywords (after_two pairs)) v result passed
      (subst (λ vs. IsPlain (pairs_valued vs keywords (after_two pairs)) result) all same))

-- the words that always stand, and the tail
pub rest_of : {A : Type 0} (xs : List A) (n : ℕ) → take (length xs - n) (drop n xs) ≡ drop n xs
rest_of xs n = take_all (length xs - n) (drop n xs) (omega (arith, length-drop n xs))

module _ (kinds : List code.Kind) (tail : Tail) (words rest : List (List ℕ)) (is : rest ≡ drop (length kinds) words) where
  rest_is : rest ≡ drop (length (kinds_seen kinds)) words
  rest_is = is ∙ ap (λ n. drop n words) (sym (length-map kinds kind_seen))

  pub tail_formed_then : (u : Unit {0}) (result : Result (Unit {0}) CommandFault) → IsPlain (all_formed (kinds_seen kinds) words) (Ok u) → IsPlain (tail_formed tail rest) result →
      IsPlain (all_formed (kinds_seen kinds) words >> tail_formed tail (drop (length (kinds_seen kinds)) words)) result
  tail_formed_then u result passed same =
      goes_on _ (λ _. tail_formed tail (drop (length (kinds_seen kinds)) words)) u result passed (subst (λ ws. IsPlain (tail_formed tail ws) result) rest_is same)

  pub tail_out_then : (values : List Value) (fault : CommandFault) (result : Result Reading CommandFault) → IsPlain (all_valued [] (kinds_seen kinds) words) (Ok values) →
      IsPlain (tail_valued tail rest) (Err fault) → IsErrAnd result (λ f. f ≡ fault) →
      IsPlain (all_valued [] (kinds_seen kinds) words >>= λ values. (tail_valued tail (drop (length (kinds_seen kinds)) words) >>= λ more. Ok (record { values = values; more = more }))) result
  tail_out_then values fault result passed failed handed =
      goes_on _ (λ values. (tail_valued tail (drop (length (kinds_seen kinds)) words) >>= λ more. Ok (record { values = values; more = more }))) values result passed
      (handed_on _ (λ more. Ok (record { values = values; more = more })) fault result (subst (λ ws. IsPlain (tail_valued tail ws) (Err fault)) rest_is failed) handed)

  pub tail_valued_then : (values more : List Value) → IsPlain (all_valued [] (kinds_seen kinds) words) (Ok values) → IsPlain (tail_valued tail rest) (Ok more) →
      IsPlain {A = Reading} (all_valued [] (kinds_seen kinds) words >>= λ values. (tail_valued tail (drop (length (kinds_seen kinds)) words) >>= λ more. Ok (record { values = values; more = more })))
      (Ok (record { values = values; more = more }))
  tail_valued_then values more passed same =
      goes_on _ (λ values. (tail_valued tail (drop (length (kinds_seen kinds)) words) >>= λ more. Ok (record { values = values; more = more }))) values _ passed
      (goes_on _ (λ more. Ok (record { values = values; more = more })) more _ (subst (λ ws. IsPlain (tail_valued tail ws) (Ok more)) rest_is same) (is_value _ _ refl))

-- the order of a form
pub count_refused : (form : Form) (words : List (List ℕ)) → is_count form words ≡ false → IsPlain (form_read form words) (Err WrongCount)
unfolding form_read ◌>>=◌
count_refused form words is =
    is_fault _ _ (ap (λ b. cond b (Ok tt) (Err WrongCount) >> words_formed form words >> words_valued form words) is)

form_from : (form : Form) (words : List (List ℕ)) (result : Result Reading CommandFault) → is_count form words ≡ true →
    IsPlain (words_formed form words >> words_valued form words) result → IsPlain (form_read form words) result
unfolding form_read ◌>>=◌
form_from form words result is same =
    subst (λ b. IsPlain (cond b (Ok tt) (Err WrongCount) >> words_formed form words >> words_valued form words) result) (sym is) same

pub form_refused : (form : Form) (words : List (List ℕ)) (fault : CommandFault) (result : Result Reading CommandFault) → is_count form words ≡ true →
    IsPlain (words_formed form words) (Err fault) → IsErrAnd result (λ f. f ≡ fault) → IsPlain (form_read form words) result
form_refused form words fault result is failed handed = form_from form words result is (handed_on _ (λ _. words_valued form words) fault result failed handed)

pub form_passed : (form : Form) (words : List (List ℕ)) (u : Unit {0}) (result : Result Reading CommandFault) → is_count form words ≡ true →
    IsPlain (words_formed form words) (Ok u) → IsPlain (words_valued form words) result → IsPlain (form_read form words) result
form_passed form words u result is passed same = form_from form words result is (goes_on _ (λ _. words_valued form words) u result passed same)

-- what is left is one less
pub one_fewer : {A : Type 0} (xs : List A) → 1 ≤ length xs → length (after_one xs) + 1 ≡ length xs
one_fewer (x ∷ xs) some = let all : take (length (x ∷ xs) - 1) xs ≡ xs = take_all (length (x ∷ xs) - 1) xs (omega arith) in omega (arith, ap length all)
one_fewer [] some = absurd (omega arith)
