-- Values that were read are in the ranges of their kinds.
use Rattle.std.proofs.Common.{◌≡◌, ℕ, suc, ◌+◌, ◌-◌, ◌≤◌, Bool, true, false, not, ◌&&◌, cond, List, [], ◌∷◌, ◌++◌, length, drop, Option, Some, None, Result, Ok, Err, ℤ, pos, negsuc, refl, sym, ap, subst, ◌∙◌, arith, min, append-nil, append_assoc}
use Rattle.std.specs.Prelude.{nat_le, int_lt, slice_get}
use Rattle.std.specs.Option.{IfSome, unwrap_or, option_and_then}
use Rattle.std.specs.Str.{bytes_eq}
use Rattle.std.proofs.lemmas.Bool.{false≢true, and_parts, not-true, leb-true, ltb-false, le-ltb}
use Rattle.std.proofs.lemmas.List.{length-append, length-drop}
use Rattle.std.proofs.lemmas.Slice.Eq.{bytes_eq-Decides}
use Rattle.spk_num.specs.Decimal.{millionths_of}
use Rattle.spk_num.specs.Names.{is_name, is_file_name}
use Rattle.spk_num.specs.Results.{◌>>=◌}
use Rattle.spk_num.specs.Whole.{whole_of, within}
use Rattle.spk_num.specs.declared.decimal.Dec.{Dec}
use Rattle.spk_num.specs.declared.decimal.DecFault.{DecFault}
use Rattle.spk_num.specs.declared.shape.Bound.TheVariants.{At, Open}
use Rattle.spk_cmds.specs.declared.command.CommandFault.{CommandFault}
use Rattle.spk_cmds.specs.declared.command.CommandFault.TheVariants.{OutOfRange, BadName, WrongCount}
use Rattle.spk_cmds.specs.declared.value.Value.{Value}
use Rattle.spk_cmds.specs.declared.value.Value.TheVariants as value
use Rattle.spk_cmds.specs.declared.value.Reading.{Reading}
use Rattle.spk_cmds.specs.Kinds.{Kind, OneOf, WholeNumber, WholeUpToNext, DecimalNumber, BoundNumber, NameWord, FileWord, AnyWord, is_open, formed, whole_or_out, is_inside, inside_or_out, decimal_in, next_number, valued}
use Rattle.spk_cmds.specs.Forms.{Form, Keyword, Tail, NoTail, Pairs, Optional, Counted, UpTo, is_count, is_tail_count, number_said, all_formed, each_formed, stands_in, keyword_kind, keyword_formed, pair_formed, pairs_formed, tail_formed, all_valued, each_valued, pairs_valued, tail_valued, words_formed, words_valued, form_read}
use Rattle.spk_cmds.specs.Values.{number_by, decimal_by, bound_by, word_by, words_of, after_keyword, decimal_after_by, word_after_by}
use Rattle.spk_cmds.specs.WellFormed.{IsFromTo, IsWithin, IsBoundWithin, IsName, IsFileName, Each}

-- what a chain that gives a value is made of
pub bind_ok : {A B : Type 0} (first : Result A CommandFault) (next : A → Result B CommandFault) (b : B) → first >>= next ≡ Ok b → (a : A) × ((first ≡ Ok a) × (next a ≡ Ok b))
unfolding ◌>>=◌
bind_ok (Ok a) next b is = (a, (refl, is))
bind_ok (Err fault) next b is = absurd (cc)

-- a test that let a value pass
passed : {A : Type 0} (test : Bool) (a b : A) (fault : CommandFault) → cond test (Ok a) (Err fault) ≡ Ok b → (test ≡ true) × (a ≡ b)
passed true a b fault is = (refl, cc)
passed false a b fault is = absurd (cc)

within_by : (low high z : ℤ) → is_inside low high z ≡ true → IsWithin low high (record { millionths = z })
within_by (pos low) (pos high) (pos n) is =
    let both = and_parts (not (int_lt (pos n) (pos low))) (not (int_lt (pos high) (pos n))) is in
    ((le-ltb n 0 (omega arith), ltb-false high n (not-true (int_lt (pos high) (pos n)) both.1)), ltb-false n low (not-true (int_lt (pos n) (pos low)) both.0))
within_by (pos low) (pos high) (negsuc n) is = absurd (false≢true is)
within_by (negsuc low) (pos high) (pos n) is =
    let most : n ≤ high = ltb-false high n (not-true (int_lt (pos high) (pos n)) is) in
    omega arith
within_by (negsuc low) (pos high) (negsuc n) is =
    let both = and_parts (not (int_lt (negsuc n) (negsuc low))) (not (int_lt (pos high) (negsuc n))) is in
    let least : n ≤ low = ltb-false low n (not-true (int_lt (negsuc n) (negsuc low)) both.0) in
    omega arith
within_by (pos low) (negsuc high) z is = tt
within_by (negsuc low) (negsuc high) z is = tt

decimal_within_by : (low high : ℤ) (word : List ℕ) (read : Result ℤ DecFault) (d : Dec) → inside_or_out low high read word ≡ Ok d → IsWithin low high d
decimal_within_by low high word (Ok z) d is =
    let found = passed (is_inside low high z) (record { millionths = z }) d (OutOfRange word) is in
    subst (IsWithin low high) found.1 (within_by low high z found.0)
decimal_within_by low high word (Err fault) d is = absurd (cc)

decimal_within : (low high : ℤ) (word : List ℕ) (d : Dec) → decimal_in low high word ≡ Ok d → IsWithin low high d
unfolding decimal_in
decimal_within low high word d is = decimal_within_by low high word (millionths_of word) d is

-- a whole number in its range
abbrev IsWhole : ℕ → ℕ → Option ℕ → Value → Type 0
IsWhole low high read v = (n : ℕ) × ((v ≡ value.Whole n) × (read ≡ Some n) × (low ≤ n) × (n ≤ high))

whole_by : (low high n : ℕ) (test : Bool) (word : List ℕ) (v : Value) → nat_le low n && nat_le n high ≡ test → whole_or_out (cond test (Some n) None) word ≡ Ok v → IsWhole low high (Some n) v
whole_by low high n true word v test is =
    let both = and_parts (nat_le low n) (nat_le n high) test in
    (n, (cc, refl, leb-true low n both.0, leb-true n high both.1))
whole_by low high n false word v test is = absurd (cc)

whole_found : (low high : ℕ) (read : Option ℕ) (word : List ℕ) (v : Value) → whole_or_out (option_and_then (within low high) read) word ≡ Ok v → IsWhole low high read v
whole_found low high None word v is = absurd (cc)
whole_found low high (Some n) word v is = whole_by low high n (nat_le low n && nat_le n high) word v refl is

-- a value is of its kind
abbrev pub IsOf : Kind → Option Value → Type 0
IsOf (WholeNumber low high) v = IsFromTo low high (number_by v)
IsOf (WholeUpToNext low high) v = IsFromTo low high (number_by v)
IsOf (DecimalNumber low high) v = IsWithin low high (decimal_by v)
IsOf (BoundNumber low high) v = IsBoundWithin low high (bound_by v)
IsOf NameWord v = IsName (word_by v)
IsOf FileWord v = IsFileName (word_by v)
IsOf (OneOf built unbuilt) v = Unit {0}
IsOf AnyWord v = Unit {0}

bound_of : (low high : ℤ) (word : List ℕ) (unbounded : Bool) (v : Value) → cond unbounded (Ok (value.Bound Open)) (decimal_in low high word >>= λ d. Ok (value.Bound (At d))) ≡ Ok v → IsOf (BoundNumber low high) (Some v)
bound_of low high word true v is = let its : value.Bound Open ≡ v = cc in subst (λ v. IsOf (BoundNumber low high) (Some v)) its tt
bound_of low high word false v is =
    let found = bind_ok (decimal_in low high word) (λ d. Ok (value.Bound (At d))) v is in
    let its : value.Bound (At found.0) ≡ v = cc (found.1.1) in
    subst (λ v. IsOf (BoundNumber low high) (Some v)) its (decimal_within low high word found.0 found.1.0)

pub value_is_of : (kind : Kind) (word : List ℕ) (words : List (List ℕ)) (v : Value) → formed kind word ≡ Ok tt → valued kind word words ≡ Ok v → IsOf kind (Some v)
unfolding formed valued
value_is_of (OneOf built unbuilt) word words v form is = tt
value_is_of AnyWord word words v form is = tt
value_is_of (WholeNumber low high) word words v form is =
    let found = whole_found low high (whole_of word) word v is in
    subst (λ v. IsOf (WholeNumber low high) (Some v)) (sym found.1.0) (found.1.2, found.1.3)
value_is_of (WholeUpToNext low high) word words v form is =
    let found = whole_found low (min high (next_number words)) (whole_of word) word v is in
    let most : found.0 ≤ min high (next_number words) = found.1.3 in
    let fits : found.0 ≤ high = omega arith in
    subst (λ v. IsOf (WholeUpToNext low high) (Some v)) (sym found.1.0) (found.1.2, fits)
value_is_of (DecimalNumber low high) word words v form is =
    let found = bind_ok (decimal_in low high word) (λ d. Ok (value.Decimal d)) v is in
    let its : value.Decimal found.0 ≡ v = cc (found.1.1) in
    subst (λ v. IsOf (DecimalNumber low high) (Some v)) its (decimal_within low high word found.0 found.1.0)
value_is_of (BoundNumber low high) word words v form is = bound_of low high word (is_open word) v is
value_is_of NameWord word words v form is =
    let its : value.Word word ≡ v = cc in
    subst (λ v. IsOf NameWord (Some v)) its (passed (is_name word) (tt {0}) tt (BadName word) form).0
value_is_of FileWord word words v form is =
    let its : value.Word word ≡ v = cc in
    subst (λ v. IsOf FileWord (Some v)) its (passed (is_file_name word) (tt {0}) tt (BadName word) form).0

-- where a value stands
stands_there : {A : Type 0} (before : List A) (v : A) (after : List A) → slice_get (before ++ v ∷ [] ++ after) (length before) ≡ Some v
stands_there [] v after = refl
stands_there (x ∷ before) v after = stands_there before v after

prefix : (before : List Value) (kinds : List Kind) (words : List (List ℕ)) (values : List Value) → all_valued before kinds words ≡ Ok values → (after : List Value) × (values ≡ before ++ after)
prefix before [] words values is = ([], let its : before ≡ values = cc in sym its ∙ sym (append-nil before))
prefix before (kind ∷ kinds) [] values is = ([], let its : before ≡ values = cc in sym its ∙ sym (append-nil before))
prefix before (kind ∷ kinds) (word ∷ words) values is =
    let found = bind_ok (valued kind word words) (λ v. all_valued (before ++ v ∷ []) kinds words) values is in
    let later = prefix (before ++ found.0 ∷ []) kinds words values found.1.1 in
    (found.0 ∷ later.0, later.1 ∙ append_assoc before (found.0 ∷ []) later.0)

at_place : (before : List Value) (v : Value) (kinds : List Kind) (words : List (List ℕ)) (values : List Value) → all_valued (before ++ v ∷ []) kinds words ≡ Ok values →
    slice_get values (length before) ≡ Some v
at_place before v kinds words values is =
    let later = prefix (before ++ v ∷ []) kinds words values is in
    ap (λ vs. slice_get vs (length before)) later.1 ∙ stands_there before v later.0

-- a number that is at most the next one
abbrev pub IsUpToNext : Kind → List Kind → Option Value → Option Value → Type 0
IsUpToNext (WholeUpToNext low high) (WholeNumber least most ∷ kinds) v next = number_by v ≤ number_by next
IsUpToNext kind kinds v next = Unit {0}

-- values from a place on are of their kinds
abbrev pub AreIn : ℕ → List Kind → List Value → Type 0
AreIn place [] values = Unit {0}
AreIn place (kind ∷ kinds) values =
    IsOf kind (slice_get values place) × IsUpToNext kind kinds (slice_get values place) (slice_get values (place + 1)) × AreIn (place + 1) kinds values

length_more : (before : List Value) (v : Value) → length (before ++ v ∷ []) ≡ length before + 1
length_more before v = length-append before (v ∷ [])

ordered : (low high least most : ℕ) (kinds : List Kind) (before : List Value) (v : Value) (word : List ℕ) (words : List (List ℕ)) (values : List Value) →
    valued (WholeUpToNext low high) word words ≡ Ok v → all_valued (before ++ v ∷ []) (WholeNumber least most ∷ kinds) words ≡ Ok values → 1 ≤ length words →
    number_by (Some v) ≤ number_by (slice_get values (length before + 1))
unfolding valued
ordered low high least most kinds before v word [] values is rest some = absurd (omega arith)
ordered low high least most kinds before v word (next ∷ words) values is rest some =
    let found = whole_found low (min high (next_number (next ∷ words))) (whole_of word) word v is in
    let step = bind_ok (valued (WholeNumber least most) next words) (λ v'. all_valued (before ++ v ∷ [] ++ v' ∷ []) kinds words) values rest in
    let number = whole_found least most (whole_of next) next step.0 step.1.0 in
    let there = at_place (before ++ v ∷ []) step.0 kinds words values step.1.1 in
    let at : slice_get values (length before + 1) ≡ Some (value.Whole number.0) = ap (λ n. slice_get values n) (sym (length_more before v)) ∙ there ∙ ap (λ w. Some w) number.1.0 in
    let said : next_number (next ∷ words) ≡ number.0 = ap (λ read. unwrap_or read 0) number.1.1 in
    let most' : found.0 ≤ min high (next_number (next ∷ words)) = found.1.3 in
    let fits : found.0 ≤ number.0 = omega arith in
    subst (λ w. number_by (Some v) ≤ number_by w) (sym at) (subst (λ w. number_by (Some w) ≤ number.0) (sym found.1.0) fits)

up_to_next : (kind : Kind) (kinds : List Kind) (before : List Value) (v : Value) (word : List ℕ) (words : List (List ℕ)) (values : List Value) →
    valued kind word words ≡ Ok v → all_valued (before ++ v ∷ []) kinds words ≡ Ok values → length kinds ≤ length words →
    IsUpToNext kind kinds (Some v) (slice_get values (length before + 1))
up_to_next (WholeUpToNext low high) (WholeNumber least most ∷ kinds) before v word words values is rest some = ordered low high least most kinds before v word words values is rest (omega arith)
up_to_next kind kinds before v word words values is rest some = tt

pub all_are_in : (before : List Value) (kinds : List Kind) (words : List (List ℕ)) (values : List Value) → length kinds ≤ length words → all_formed kinds words ≡ Ok tt →
    all_valued before kinds words ≡ Ok values → AreIn (length before) kinds values
all_are_in before [] words values some forms is = tt
all_are_in before (kind ∷ kinds) [] values some forms is = absurd (omega arith)
all_are_in before (kind ∷ kinds) (word ∷ words) values some forms is =
    let form = bind_ok (formed kind word) (λ _. all_formed kinds words) tt forms in
    let found = bind_ok (valued kind word words) (λ v. all_valued (before ++ v ∷ []) kinds words) values is in
    let here = at_place before found.0 kinds words values found.1.1 in
    let fewer : length kinds ≤ length words = omega arith in
    let later = all_are_in (before ++ found.0 ∷ []) kinds words values fewer form.1.1 found.1.1 in (
      subst (IsOf kind) (sym here) (value_is_of kind word words found.0 form.1.0 found.1.0),
      subst (λ w. IsUpToNext kind kinds w (slice_get values (length before + 1))) (sym here) (up_to_next kind kinds before found.0 word words values found.1.0 found.1.1 fewer),
      subst (λ n. AreIn n kinds values) (length_more before found.0) later,
    )

-- the value after a keyword is of its kind, where that stands
abbrev pub IsGiven : Kind → Option Value → Type 0
IsGiven (DecimalNumber low high) given = IfSome (decimal_after_by given) (IsWithin low high)
IsGiven NameWord given = IfSome (word_after_by given) IsName
IsGiven FileWord given = IfSome (word_after_by given) IsFileName
IsGiven kind given = IfSome given (λ v. IsOf kind (Some v))

none_given : (kind : Kind) → IsGiven kind None
none_given NameWord = tt
none_given kind = tt

one_given : (kind : Kind) (v : Value) → IsOf kind (Some v) → IsGiven kind (Some v)
one_given NameWord v of = of
one_given kind v of = of

first_or_later : (kind : Kind) (test : Bool) (v : Value) (later : Option Value) → (test ≡ true → IsOf kind (Some v)) → IsGiven kind later → IsGiven kind (cond test (Some v) later)
first_or_later kind true v later of given = one_given kind v (of refl)
first_or_later kind false v later of given = given

-- so is each in the values of pairs
abbrev AfterKeywords : List Keyword → List Value → Type 0
AfterKeywords keywords more = (word : List ℕ) → IsGiven (keyword_kind keywords word) (after_keyword more word)

pairs_given : (keywords : List Keyword) (unbuilt : List (List ℕ)) (earlier : List (List ℕ)) (before : List Value) (words : List (List ℕ)) (values : List Value) →
    pairs_formed keywords unbuilt earlier words ≡ Ok tt → pairs_valued before keywords words ≡ Ok values → (more : List Value) × ((values ≡ before ++ more) × AfterKeywords keywords more)
pairs_given keywords unbuilt earlier before [] values forms is =
    let its : before ≡ values = cc in ([], (sym its ∙ sym (append-nil before), λ word. none_given (keyword_kind keywords word)))
pairs_given keywords unbuilt earlier before (word ∷ []) values forms is =
    let its : before ≡ values = cc in ([], (sym its ∙ sym (append-nil before), λ word. none_given (keyword_kind keywords word)))
pairs_given keywords unbuilt earlier before (word ∷ given ∷ pairs) values forms is =
    let kind = keyword_kind keywords word in
    let again = stands_in earlier word in
    let form = bind_ok (pair_formed keywords unbuilt again word given) (λ _. pairs_formed keywords unbuilt (earlier ++ word ∷ given ∷ []) pairs) tt forms in
    let its_form = bind_ok (keyword_formed keywords unbuilt again word) (λ _. formed kind given) form.0 form.1.0 in
    let found = bind_ok (valued kind given pairs) (λ v. pairs_valued (before ++ value.Word word ∷ [] ++ v ∷ []) keywords pairs) values is in
    let later = pairs_given keywords unbuilt (earlier ++ word ∷ given ∷ []) (before ++ value.Word word ∷ [] ++ found.0 ∷ []) pairs values form.1.1 found.1.1 in
    let of = value_is_of kind given pairs found.0 its_form.1.1 found.1.0 in
    let at_end = later.1.0 ∙ append_assoc (before ++ value.Word word ∷ []) (found.0 ∷ []) later.0 ∙ append_assoc before (value.Word word ∷ []) (found.0 ∷ later.0) in (
      value.Word word ∷ found.0 ∷ later.0,
      (
        at_end,
        λ other.
            first_or_later (keyword_kind keywords other) (bytes_eq word other) found.0 (after_keyword later.0 other)
            (λ same. subst (λ w. IsOf (keyword_kind keywords w) (Some found.0)) ((bytes_eq-Decides word other).0 same) of)
            (later.1.1 other),
      ),
    )

-- the same of each keyword of a list, by the kinds that all of them have
abbrev AreGiven : List Keyword → List Keyword → List Value → Type 0
AreGiven all [] more = Unit {0}
AreGiven all (keyword ∷ keywords) more = IsGiven (keyword_kind all keyword.word) (after_keyword more keyword.word) × AreGiven all keywords more

all_given : (all keywords : List Keyword) (more : List Value) → AfterKeywords all more → AreGiven all keywords more
all_given all [] more given = tt
all_given all (keyword ∷ keywords) more given = (given keyword.word, all_given all keywords more given)

-- values of one kind
abbrev pub AreEach : Kind → List Value → Type 0
AreEach NameWord values = Each IsName (words_of values)
AreEach FileWord values = Each IsFileName (words_of values)
AreEach kind values = Each (λ v. IsOf kind (Some v)) values

none_each : (kind : Kind) → AreEach kind []
none_each NameWord = tt
none_each kind = tt

one_more_each : (kind : Kind) (v : Value) (values : List Value) → IsOf kind (Some v) → AreEach kind values → AreEach kind (v ∷ values)
one_more_each NameWord v values of each = (of, each)
one_more_each kind v values of each = (of, each)

each_are : (kind : Kind) (before : List Value) (words : List (List ℕ)) (values : List Value) → each_formed kind words ≡ Ok tt → each_valued before kind words ≡ Ok values →
    (more : List Value) × ((values ≡ before ++ more) × (length more ≡ length words) × AreEach kind more)
each_are kind before [] values forms is = let its : before ≡ values = cc in ([], (sym its ∙ sym (append-nil before), refl, none_each kind))
each_are kind before (word ∷ words) values forms is =
    let form = bind_ok (formed kind word) (λ _. each_formed kind words) tt forms in
    let found = bind_ok (valued kind word words) (λ v. each_valued (before ++ v ∷ []) kind words) values is in
    let later = each_are kind (before ++ found.0 ∷ []) words values form.1.1 found.1.1 in
    let of = value_is_of kind word words found.0 form.1.0 found.1.0 in
    let one_more : length (found.0 ∷ later.0) ≡ length (word ∷ words) = ap suc later.1.1 in
    (found.0 ∷ later.0, (later.1.0 ∙ append_assoc before (found.0 ∷ []) later.0, one_more, one_more_each kind found.0 later.0 of later.1.2))

-- values of a tail are of its kinds; nothing is said of optional words yet
abbrev pub AreInTail : Tail → List Value → Type 0
AreInTail NoTail more = Unit {0}
AreInTail (Pairs keywords unbuilt) more = AreGiven keywords keywords more
AreInTail (Optional kinds) more = Unit {0}
AreInTail (Counted kind) more = AreEach kind more
AreInTail (UpTo most kind) more = (length more ≤ most) × AreEach kind more

tail_is_in : (tail : Tail) (said : Option ℕ) (words : List (List ℕ)) (more : List Value) → is_tail_count tail said (length words) ≡ true → tail_formed tail words ≡ Ok tt →
    tail_valued tail words ≡ Ok more → AreInTail tail more
tail_is_in NoTail said words more count forms is = tt
tail_is_in (Optional kinds) said words more count forms is = tt
tail_is_in (Pairs keywords unbuilt) said words more count forms is =
    let found = pairs_given keywords unbuilt [] [] words more forms is in
    subst (AreGiven keywords keywords) (sym found.1.0) (all_given keywords keywords found.0 found.1.1)
tail_is_in (Counted kind) said words more count forms is =
    let found = each_are kind [] words more forms is in subst (AreEach kind) (sym found.1.0) found.1.2
tail_is_in (UpTo most kind) said words more count forms is =
    let found = each_are kind [] words more forms is in
    let fits = leb-true (length words) most count in
    let fewer : length found.0 ≤ most = omega arith in
    subst (AreInTail (UpTo most kind)) (sym found.1.0) (fewer, found.1.2)

-- what a form reads is of its kinds
abbrev pub IsReadBy : Form → Reading → Type 0
IsReadBy form reading = AreIn 0 form.kinds reading.values × AreInTail form.tail reading.more

tail_counted : (form : Form) (words : List (List ℕ)) → is_count form words ≡ true →
    (length form.kinds ≤ length words) × (is_tail_count form.tail (number_said (length form.kinds) words) (length (drop (length form.kinds) words)) ≡ true)
tail_counted form words is =
    let said = number_said (length form.kinds) words in
    let both = and_parts (nat_le (length form.kinds) (length words)) (is_tail_count form.tail said (length words - length form.kinds)) is in
    (leb-true (length form.kinds) (length words) both.0, subst (λ n. is_tail_count form.tail said n ≡ true) (sym (length-drop (length form.kinds) words)) both.1)

read_of : Result Reading CommandFault → Reading
read_of (Ok reading) = reading
read_of (Err fault) = record { values = []; more = [] }

pub read_is_in : (form : Form) (words : List (List ℕ)) (reading : Reading) → form_read form words ≡ Ok reading → IsReadBy form reading
unfolding form_read read_of
read_is_in form words reading is =
    let rest = drop (length form.kinds) words in
    let steps = bind_ok _ (λ _. words_valued form words) reading is in
    let count = bind_ok _ (λ _. words_formed form words) steps.0 steps.1.0 in
    let test = passed (is_count form words) (tt {0}) count.0 WrongCount count.1.0 in
    let counts = tail_counted form words test.0 in
    let forms = bind_ok (all_formed form.kinds words) (λ _. tail_formed form.tail rest) steps.0 count.1.1 in
    let values = bind_ok (all_valued [] form.kinds words) (λ values. (tail_valued form.tail rest >>= λ more. Ok (record { values = values; more = more }))) reading steps.1.1 in
    let more = bind_ok (tail_valued form.tail rest) (λ more. Ok (record { values = values.0; more = more })) reading values.1.1 in
    let its : record { values = values.0; more = more.0 } ≡ reading = ap read_of more.1.1 in
    subst (IsReadBy form) its (
      all_are_in [] form.kinds words values.0 counts.0 forms.1.0 values.1.0,
      tail_is_in form.tail (number_said (length form.kinds) words) rest more.0 counts.1 forms.1.1 more.1.0,
    )
