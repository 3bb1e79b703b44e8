-- The values of a command's words, by their places.
use Rattle.std.specs.Prelude.{ℕ, pos, if◌then◌else◌, List, [], ◌∷◌, map, slice_get, Option, Some, None}
use Rattle.std.specs.Str.{bytes_eq}
use Rattle.spk_num.specs.declared.decimal.Dec.{Dec}
use Rattle.spk_num.specs.declared.shape.Bound.{Bound}
use Rattle.spk_num.specs.declared.shape.Bound.TheVariants.{Open}
use Rattle.spk_cmds.specs.declared.value.Value.{Value}
use Rattle.spk_cmds.specs.declared.value.Value.TheVariants as value

abbrev pub no_decimal : Dec
no_decimal = record { millionths = pos 0 }

-- the whole number, the decimal number, the bound and the word that a value is, and 0, an open bound or no word where
-- it is none
abbrev pub number_by : Option Value → ℕ
number_by (Some (value.Whole number)) = number
number_by other = 0

abbrev pub decimal_by : Option Value → Dec
decimal_by (Some (value.Decimal d)) = d
decimal_by other = no_decimal

abbrev pub bound_by : Option Value → Bound
bound_by (Some (value.Bound bound)) = bound
bound_by other = Open

abbrev pub word_by : Option Value → List ℕ
word_by (Some (value.Word word)) = word
word_by other = []

-- the same at a place
abbrev pub number_at : List Value → ℕ → ℕ
number_at values place = number_by (slice_get values place)

abbrev pub decimal_at : List Value → ℕ → Dec
decimal_at values place = decimal_by (slice_get values place)

abbrev pub bound_at : List Value → ℕ → Bound
bound_at values place = bound_by (slice_get values place)

abbrev pub word_at : List Value → ℕ → List ℕ
word_at values place = word_by (slice_get values place)

-- the words of all values
abbrev pub words_of : List Value → List (List ℕ)
words_of values = map (λ v. word_by (Some v)) values

-- the value after a keyword, in pairs of a keyword and its value
abbrev pub after_keyword : List Value → List ℕ → Option Value
after_keyword (keyword ∷ given ∷ pairs) word = if bytes_eq (word_by (Some keyword)) word then Some given else after_keyword pairs word
after_keyword pairs word = None

-- the decimal number and the word after a keyword, where it stands
abbrev pub decimal_after_by : Option Value → Option Dec
decimal_after_by None = None
decimal_after_by (Some given) = Some (decimal_by (Some given))

abbrev pub decimal_after : List Value → List ℕ → Option Dec
decimal_after pairs word = decimal_after_by (after_keyword pairs word)

abbrev pub word_after_by : Option Value → Option (List ℕ)
word_after_by None = None
word_after_by (Some given) = Some (word_by (Some given))

abbrev pub word_after : List Value → List ℕ → Option (List ℕ)
word_after pairs word = word_after_by (after_keyword pairs word)
