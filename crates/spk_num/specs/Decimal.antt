-- Decimal numbers of six places: how a text is read as one, and how one is printed. The rules are our own.
use Rattle.std.specs.Prelude.{ℕ, ◌+◌, ◌-◌, ◌*◌, ◌/◌, ◌%◌, ◌^◌, Bool, false, not, ◌&&◌, if◌then◌else◌, ◌==◌, nat_lt, List, [], ◌∷◌, ◌++◌, length, take, drop, take_while, replicate, ℤ, pos, neg_ℤ, int_lt, unsigned_abs, Result, Ok, Err, decimal}
use Rattle.std.specs.List.{list_any}
use Rattle.std.specs.Char.{is_ascii_digit}
use Rattle.std.specs.Str.Parse.{digits_value}
use Rattle.spk_num.specs.declared.decimal.DecFault.{DecFault}
use Rattle.spk_num.specs.declared.decimal.DecFault.TheVariants.{BadByte, Empty, TooManyPlaces, TooLarge}

-- the digits that a text begins with, and what stands after them
abbrev pub leading_digits : List ℕ → List ℕ
leading_digits text = take_while is_ascii_digit text

abbrev pub after_digits : List ℕ → List ℕ
after_digits text = drop (length (leading_digits text)) text

-- a text may begin with a minus
abbrev pub is_negative : List ℕ → Bool
is_negative [] = false
is_negative (b ∷ _) = b == 45

abbrev pub after_sign : List ℕ → List ℕ
after_sign text = if is_negative text then drop 1 text else text

-- after the whole part a dot may stand, and then the places
abbrev pub places_in : List ℕ → List ℕ
places_in [] = []
places_in (b ∷ text) = if b == 46 then leading_digits text else []

abbrev pub after_places : List ℕ → List ℕ
after_places [] = []
after_places (b ∷ text) = if b == 46 then after_digits text else b ∷ text

-- a text cut into its sign, its whole part, its places, and what can't stand after them
pub record Numeral : Type 0 where
  pub negative : Bool
  pub whole : List ℕ
  pub places : List ℕ
  pub rest : List ℕ

abbrev pub numeral : List ℕ → Numeral
numeral text = record {
  negative = is_negative text;
  whole = leading_digits (after_sign text);
  places = places_in (after_digits (after_sign text));
  rest = after_places (after_digits (after_sign text));
}

abbrev pub is_nil : List ℕ → Bool
is_nil xs = length xs == 0

-- the size of the number in millionths: the whole part, and six places, where zeros stand for those left out
abbrev pub magnitude : Numeral → ℕ
magnitude n = digits_value 10 n.whole * 1000000 + digits_value 10 (take 6 (n.places ++ replicate 6 48))

abbrev pub signed : Bool → ℕ → ℤ
signed negative m = if negative then neg_ℤ (pos m) else pos m

-- the number that a numeral of a text of this length stands for, or the first of its faults, in this order
abbrev pub value_of : ℕ → Numeral → Result ℤ DecFault
value_of len n =
    if not (is_nil n.rest) then Err (BadByte (len - length n.rest))
    else (if is_nil n.whole && is_nil n.places then Err Empty
    else (if list_any (λ d. not (d == 48)) (drop 6 n.places) then Err TooManyPlaces
    else (if nat_lt (10 ^ 18) (magnitude n) then Err TooLarge
    else Ok (signed n.negative (magnitude n)))))

-- the millionths that a text stands for, or its fault
abbrev pub millionths_of : List ℕ → Result ℤ DecFault
millionths_of text = value_of (length text) (numeral text)

-- digits without the zeros at their end
abbrev pub onto_trimmed : ℕ → List ℕ → List ℕ
onto_trimmed d [] = if d == 48 then [] else d ∷ []
onto_trimmed d (e ∷ es) = d ∷ e ∷ es

abbrev pub without_last_zeros : List ℕ → List ℕ
without_last_zeros [] = []
without_last_zeros (d ∷ ds) = onto_trimmed d (without_last_zeros ds)

-- six digits of a number below a million, and nine of one below 10^9, with leading zeros
abbrev pub six_digits : ℕ → List ℕ
six_digits n = drop 1 (decimal (1000000 + n))

abbrev pub nine_digits : ℕ → List ℕ
nine_digits n = drop 1 (decimal (1000000000 + n))

-- how a fraction of so many millionths is printed: not at all where it is 0
abbrev pub fraction_text : ℕ → List ℕ
fraction_text n = if n == 0 then [] else 46 ∷ without_last_zeros (six_digits n)

abbrev pub sign_text : ℤ → List ℕ
sign_text z = if int_lt z (pos 0) then 45 ∷ [] else []

-- how so many millionths are printed
abbrev pub decimal_text : ℤ → List ℕ
decimal_text z = sign_text z ++ (decimal (unsigned_abs z / 1000000) ++ fraction_text (unsigned_abs z % 1000000))

-- how a time of so many ticks, of which 10^9 are one unit, is printed
abbrev pub ticks_text : ℕ → List ℕ
ticks_text t = decimal (t / 1000000000) ++ (46 ∷ nine_digits (t % 1000000000))
