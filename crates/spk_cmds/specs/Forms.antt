-- Forms of commands, and how the words after a command's first are read by one. The order of refusals is our own.
use Rattle.std.specs.Prelude.{ℕ, ◌+◌, ◌-◌, ◌/◌, ◌%◌, Bool, true, false, ◌&&◌, ◌||◌, ◌==◌, nat_le, if◌then◌else◌, List, [], ◌∷◌, ◌++◌, length, drop, slice_get, Option, Some, None, Result, Ok, Err}
use Rattle.std.specs.Str.{bytes_eq}
use Rattle.spk_num.specs.Results.{◌>>=◌, ◌>>◌}
use Rattle.spk_num.specs.Whole.{whole_of}
use Rattle.spk_cmds.specs.declared.command.CommandFault.{CommandFault}
use Rattle.spk_cmds.specs.declared.command.CommandFault.TheVariants.{UnknownStyle, WrongCount}
use Rattle.spk_cmds.specs.declared.form.Maker.{Maker}
use Rattle.spk_cmds.specs.declared.value.Value.{Value}
use Rattle.spk_cmds.specs.declared.value.Value.TheVariants as value
use Rattle.spk_cmds.specs.declared.value.Reading.{Reading}
use Rattle.spk_cmds.specs.Kinds.{Kind, AnyWord, one_of, formed, valued}

-- a keyword with the kind of its value
pub record Keyword : Type 0 where
  pub word : List ℕ
  pub kind : Kind

-- what may stand after the words that always stand
pub data Tail : Type 0 where
  NoTail : Tail
  -- pairs of a keyword and its value, each keyword at most once; the keywords of the second list aren't built yet
  Pairs : List Keyword → List (List ℕ) → Tail
  -- all of these words or none
  Optional : List Kind → Tail
  -- as many words of a kind as the last word before them says
  Counted : Kind → Tail
  -- so many words of a kind at most
  UpTo : ℕ → Kind → Tail

-- what is made of the words, the kinds of those that always stand, and the tail
pub record Form : Type 0 where
  pub maker : Maker
  pub kinds : List Kind
  pub tail : Tail

-- so many words may stand in the tail, where a whole number may say how many
abbrev pub is_even : ℕ → Bool
is_even n = n % 2 == 0

abbrev pub is_said : Option ℕ → ℕ → Bool
is_said (Some number) n = number == n
is_said None n = true

abbrev pub is_tail_count : Tail → Option ℕ → ℕ → Bool
is_tail_count NoTail said n = n == 0
is_tail_count (Pairs keywords unbuilt) said n = is_even n && nat_le (n / 2) (length keywords + length unbuilt)
is_tail_count (Optional kinds) said n = (n == 0) || (n == length kinds)
is_tail_count (Counted kind) said n = is_said said n
is_tail_count (UpTo most kind) said n = nat_le n most

-- the whole number that the last of the words that always stand is, where it is one
abbrev pub number_said_by : Option (List ℕ) → Option ℕ
number_said_by (Some word) = whole_of word
number_said_by None = None

abbrev pub number_said : ℕ → List (List ℕ) → Option ℕ
number_said some words = number_said_by (slice_get words (some - 1))

abbrev pub is_count : Form → List (List ℕ) → Bool
is_count form words =
    nat_le (length form.kinds) (length words)
    && is_tail_count form.tail (number_said (length form.kinds) words) (length words - length form.kinds)

abbrev pub counted : Form → List (List ℕ) → Result (Unit {0}) CommandFault
counted form words = if is_count form words then Ok tt else Err WrongCount

-- the forms of words from the left, each by its kind
abbrev pub all_formed : List Kind → List (List ℕ) → Result (Unit {0}) CommandFault
all_formed (kind ∷ kinds) (word ∷ words) = formed kind word >> all_formed kinds words
all_formed kinds words = Ok tt

-- the same of words of one kind
abbrev pub each_formed : Kind → List (List ℕ) → Result (Unit {0}) CommandFault
each_formed kind [] = Ok tt
each_formed kind (word ∷ words) = formed kind word >> each_formed kind words

-- the same of pairs, after those before them: a keyword may not stand twice
abbrev pub stands_in : List (List ℕ) → List ℕ → Bool
stands_in (keyword ∷ given ∷ pairs) word = bytes_eq word keyword || stands_in pairs word
stands_in pairs word = false

abbrev pub keyword_words : List Keyword → List (List ℕ)
keyword_words [] = []
keyword_words (keyword ∷ keywords) = keyword.word ∷ keyword_words keywords

abbrev pub keyword_kind : List Keyword → List ℕ → Kind
keyword_kind [] word = AnyWord
keyword_kind (keyword ∷ keywords) word = if bytes_eq word keyword.word then keyword.kind else keyword_kind keywords word

abbrev pub keyword_formed : List Keyword → List (List ℕ) → Bool → List ℕ → Result (Unit {0}) CommandFault
keyword_formed keywords unbuilt again word = if again then Err (UnknownStyle word) else one_of (keyword_words keywords) unbuilt word

abbrev pub pair_formed : List Keyword → List (List ℕ) → Bool → List ℕ → List ℕ → Result (Unit {0}) CommandFault
pair_formed keywords unbuilt again word given = keyword_formed keywords unbuilt again word >> formed (keyword_kind keywords word) given

abbrev pub pairs_formed : List Keyword → List (List ℕ) → List (List ℕ) → List (List ℕ) → Result (Unit {0}) CommandFault
pairs_formed keywords unbuilt before (word ∷ given ∷ pairs) =
    pair_formed keywords unbuilt (stands_in before word) word given
    >> pairs_formed keywords unbuilt (before ++ word ∷ given ∷ []) pairs
pairs_formed keywords unbuilt before pairs = Ok tt

abbrev pub tail_formed : Tail → List (List ℕ) → Result (Unit {0}) CommandFault
tail_formed NoTail words = Ok tt
tail_formed (Pairs keywords unbuilt) words = pairs_formed keywords unbuilt [] words
tail_formed (Optional kinds) words = all_formed kinds words
tail_formed (Counted kind) words = each_formed kind words
tail_formed (UpTo most kind) words = each_formed kind words

-- the values of words from the left, each by its kind, after those before them
abbrev pub all_valued : List Value → List Kind → List (List ℕ) → Result (List Value) CommandFault
all_valued before (kind ∷ kinds) (word ∷ words) = valued kind word words >>= λ v. all_valued (before ++ v ∷ []) kinds words
all_valued before kinds words = Ok before

-- the same of words of one kind
abbrev pub each_valued : List Value → Kind → List (List ℕ) → Result (List Value) CommandFault
each_valued before kind [] = Ok before
each_valued before kind (word ∷ words) = valued kind word words >>= λ v. each_valued (before ++ v ∷ []) kind words

-- the same of pairs
abbrev pub pairs_valued : List Value → List Keyword → List (List ℕ) → Result (List Value) CommandFault
pairs_valued before keywords (word ∷ given ∷ pairs) =
    valued (keyword_kind keywords word) given pairs >>= λ v. pairs_valued (before ++ value.Word word ∷ [] ++ v ∷ []) keywords pairs
pairs_valued before keywords pairs = Ok before

abbrev pub tail_valued : Tail → List (List ℕ) → Result (List Value) CommandFault
tail_valued NoTail words = Ok []
tail_valued (Pairs keywords unbuilt) words = pairs_valued [] keywords words
tail_valued (Optional kinds) words = all_valued [] kinds words
tail_valued (Counted kind) words = each_valued [] kind words
tail_valued (UpTo most kind) words = each_valued [] kind words

abbrev pub words_formed : Form → List (List ℕ) → Result (Unit {0}) CommandFault
words_formed form words = all_formed form.kinds words >> tail_formed form.tail (drop (length form.kinds) words)

abbrev pub words_valued : Form → List (List ℕ) → Result Reading CommandFault
words_valued form words =
    all_valued [] form.kinds words
    >>= λ values. (tail_valued form.tail (drop (length form.kinds) words) >>= λ more. Ok (record { values = values; more = more }))

-- The order of refusals of a form: the number of words, the forms of the words, and their ranges.
unfoldable pub form_read : Form → List (List ℕ) → Result Reading CommandFault
form_read form words = counted form words >> words_formed form words >> words_valued form words
