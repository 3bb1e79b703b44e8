-- What may stand in the place of a word of a command, and the value that such a word is. The kinds and their order of
-- refusals are our own rules.
use Rattle.std.specs.Prelude.{ℕ, Bool, true, false, ◌&&◌, ◌||◌, not, min, int_lt, if◌then◌else◌, ℤ, List, [], ◌∷◌, codes, Option, Some, None, is_some, Result, Ok, Err}
use Rattle.std.specs.Option.{unwrap_or}
use Rattle.std.specs.List.{list_any}
use Rattle.std.specs.Str.{bytes_eq}
use Rattle.spk_num.specs.Decimal.{millionths_of}
use Rattle.spk_num.specs.Names.{is_name, is_file_name}
use Rattle.spk_num.specs.Results.{◌>>=◌}
use Rattle.spk_num.specs.Whole.{whole_of, whole_within}
use Rattle.spk_num.specs.declared.decimal.Dec.{Dec}
use Rattle.spk_num.specs.declared.decimal.DecFault.{DecFault}
use Rattle.spk_num.specs.declared.decimal.DecFault.TheVariants.{TooLarge}
use Rattle.spk_num.specs.declared.shape.Bound.TheVariants.{At, Open}
use Rattle.spk_cmds.specs.declared.command.CommandFault.{CommandFault}
use Rattle.spk_cmds.specs.declared.command.CommandFault.TheVariants.{UnknownStyle, BadNumber, OutOfRange, NotBuilt, BadName}
use Rattle.spk_cmds.specs.declared.value.Value.{Value}
use Rattle.spk_cmds.specs.declared.value.Value.TheVariants as value

pub data Kind : Type 0 where
  -- one of these words; those of the second list aren't built yet
  OneOf : List (List ℕ) → List (List ℕ) → Kind
  -- a whole number from one to another, both ends taken
  WholeNumber : ℕ → ℕ → Kind
  -- a whole number in a range, which is at most the number that the next word is
  WholeUpToNext : ℕ → ℕ → Kind
  -- a decimal number, in millionths, from one to another, both ends taken
  DecimalNumber : ℤ → ℤ → Kind
  -- a bound of a region: it is open, or a decimal number in a range
  BoundNumber : ℤ → ℤ → Kind
  NameWord : Kind
  FileWord : Kind
  AnyWord : Kind

abbrev pub is_among : List (List ℕ) → List ℕ → Bool
is_among words word = list_any (λ other. bytes_eq word other) words

-- a number that is too large is a decimal number all the same, which is out of every range
abbrev pub is_decimal_by : Result ℤ DecFault → Bool
is_decimal_by (Ok millionths) = true
is_decimal_by (Err TooLarge) = true
is_decimal_by (Err fault) = false

abbrev pub is_decimal : List ℕ → Bool
is_decimal word = is_decimal_by (millionths_of word)

-- `INF` and `EDGE` are open bounds
abbrev pub is_open : List ℕ → Bool
is_open word = bytes_eq word (codes "INF") || bytes_eq word (codes "EDGE")

-- a word of one list is accepted, one of another isn't built yet
abbrev pub one_of : List (List ℕ) → List (List ℕ) → List ℕ → Result (Unit {0}) CommandFault
one_of built unbuilt word =
    if is_among built word then Ok tt
    else (if is_among unbuilt word then Err (NotBuilt word)
    else Err (UnknownStyle word))

abbrev pub number_if : Bool → List ℕ → Result (Unit {0}) CommandFault
number_if form word = if form then Ok tt else Err (BadNumber word)

abbrev pub name_if : Bool → List ℕ → Result (Unit {0}) CommandFault
name_if form word = if form then Ok tt else Err (BadName word)

-- a word has the form of its kind, whatever its number is
unfoldable pub formed : Kind → List ℕ → Result (Unit {0}) CommandFault
formed (OneOf built unbuilt) word = one_of built unbuilt word
formed (WholeNumber low high) word = number_if (is_some (whole_of word)) word
formed (WholeUpToNext low high) word = number_if (is_some (whole_of word)) word
formed (DecimalNumber low high) word = number_if (is_decimal word) word
formed (BoundNumber low high) word = number_if (is_open word || is_decimal word) word
formed NameWord word = name_if (is_name word) word
formed FileWord word = name_if (is_file_name word) word
formed AnyWord word = Ok tt

-- the number in a range that a word is
abbrev pub whole_or_out : Option ℕ → List ℕ → Result Value CommandFault
whole_or_out (Some number) word = Ok (value.Whole number)
whole_or_out None word = Err (OutOfRange word)

abbrev pub whole_in : ℕ → ℕ → List ℕ → Result Value CommandFault
whole_in low high word = whole_or_out (whole_within low high word) word

abbrev pub is_inside : ℤ → ℤ → ℤ → Bool
is_inside low high z = not (int_lt z low) && not (int_lt high z)

abbrev pub inside_or_out : ℤ → ℤ → Result ℤ DecFault → List ℕ → Result Dec CommandFault
inside_or_out low high (Ok z) word = if is_inside low high z then Ok (record { millionths = z }) else Err (OutOfRange word)
inside_or_out low high (Err fault) word = Err (OutOfRange word)

unfoldable pub decimal_in : ℤ → ℤ → List ℕ → Result Dec CommandFault
decimal_in low high word = inside_or_out low high (millionths_of word) word

-- the number of the next word, where it is one
abbrev pub next_number : List (List ℕ) → ℕ
next_number [] = 0
next_number (word ∷ words) = unwrap_or (whole_of word) 0

abbrev pub bound_in : ℤ → ℤ → List ℕ → Result Value CommandFault
bound_in low high word = if is_open word then Ok (value.Bound Open) else (decimal_in low high word >>= λ d. Ok (value.Bound (At d)))

abbrev pub decimal_value : ℤ → ℤ → List ℕ → Result Value CommandFault
decimal_value low high word = decimal_in low high word >>= λ d. Ok (value.Decimal d)

-- The value of a word that has the form of its kind, where its number is in the range. The words after it stand last.
unfoldable pub valued : Kind → List ℕ → List (List ℕ) → Result Value CommandFault
valued (WholeNumber low high) word words = whole_in low high word
valued (WholeUpToNext low high) word words = whole_in low (min high (next_number words)) word
valued (DecimalNumber low high) word words = decimal_value low high word
valued (BoundNumber low high) word words = bound_in low high word
valued (OneOf built unbuilt) word words = Ok (value.Word word)
valued NameWord word words = Ok (value.Word word)
valued FileWord word words = Ok (value.Word word)
valued AnyWord word words = Ok (value.Word word)
