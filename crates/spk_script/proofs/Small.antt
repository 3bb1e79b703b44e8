-- Decimal numbers are no more than 10^12, and so are the numbers in the parts of a formula.
use Rattle.std.proofs.Common.{◌≡◌, ℕ, zero, suc, ◌+◌, ◌-◌, ◌^◌, ◌≤◌, Bool, true, false, not, ◌&&◌, if◌then◌else◌, List, [], ◌∷◌, length, drop, Result, Ok, Err, ℤ, refl, ap, arith}
use Rattle.std.specs.Prelude.{unsigned_abs, nat_lt, ◌==◌, take_while}
use Rattle.std.specs.List.{All, list_any}
use Rattle.std.proofs.lemmas.List.Elements.{All-nil, All-cons}
use Rattle.std.proofs.lemmas.Bool.Decides.{nat_tests}
use Rattle.spk_num.specs.Decimal.{Numeral, is_nil, value_of, millionths_of, numeral, magnitude, signed}
use Rattle.spk_num.specs.declared.decimal.DecFault.TheVariants.{BadByte, Empty, TooManyPlaces, TooLarge}
use Rattle.spk_num.specs.declared.decimal.DecFault.{DecFault}
use Rattle.spk_script.specs.declared.formula.part.Operator.TheVariants.{Plus, Minus, Times, Over}
use Rattle.spk_script.specs.declared.formula.part.Token.{Token}
use Rattle.spk_script.specs.declared.formula.part.Token.TheVariants.{Name, Open, Close, Sign, Broken}
use Rattle.spk_script.specs.declared.formula.part.Part.{Part}
use Rattle.spk_script.specs.Words.{is_blank}
use Rattle.spk_num.specs.Names.{is_name_byte}
use Rattle.spk_script.specs.Formulas.{is_number_byte, number_of, name_of, variable_of, token_of, more_of, parts_after, parts_of}
use Rattle.spk_script.specs.Evaluation.{IsSmall}

signed_abs : (negative : Bool) (m : ℕ) → unsigned_abs (signed negative m) ≡ m
signed_abs false m = refl
signed_abs true zero = refl
signed_abs true (suc m) = refl

not_above : (m : ℕ) → nat_lt (10 ^ 18) m ≡ false → m ≤ 10 ^ 18
not_above m is = grind (arith, nat_tests)

checked : (bytes empty places large negative : Bool) (a b c d : DecFault) (m : ℕ) (z : ℤ) → nat_lt (10 ^ 18) m ≡ large →
    (if bytes then Err a else (if empty then Err b else (if places then Err c else (if large then Err d else Ok (signed negative m))))) ≡
    Ok z → unsigned_abs z ≤ 10 ^ 18
checked true empty places large negative a b c d m z test is = absurd (cc)
checked false true places large negative a b c d m z test is = absurd (cc)
checked false false true large negative a b c d m z test is = absurd (cc)
checked false false false true negative a b c d m z test is = absurd (cc)
checked false false false false negative a b c d m z test is =
    let same : signed negative m ≡ z = cc in
    omega (arith, not_above m test, signed_abs negative m, ap unsigned_abs same)

value_small : (len : ℕ) (n : Numeral) (z : ℤ) → value_of len n ≡ Ok z → unsigned_abs z ≤ 10 ^ 18
value_small len n z is =
    checked (not (is_nil n.rest)) (is_nil n.whole && is_nil n.places) (list_any (λ d. not (d == 48)) (drop 6 n.places))
    (nat_lt (10 ^ 18) (magnitude n)) n.negative
    (BadByte (len - length n.rest)) Empty TooManyPlaces TooLarge (magnitude n) z refl is

-- a text that is a decimal number
pub millionths_small : (text : List ℕ) (z : ℤ) → millionths_of text ≡ Ok z → unsigned_abs z ≤ 10 ^ 18
millionths_small text z is = value_small (length text) (numeral text) z is

number_small : (place : ℕ) (read : Result ℤ DecFault) → ((z : ℤ) → read ≡ Ok z → unsigned_abs z ≤ 10 ^ 18) → IsSmall (number_of place read)
number_small place (Ok z) small = small z refl
number_small place (Err fault) small = tt

if_small : (b : Bool) (s t : Token) → IsSmall s → IsSmall t → IsSmall (if b then s else t)
if_small true s t s_small t_small = s_small
if_small false s t s_small t_small = t_small

-- a part that is neither a number nor a name
abbrev sign_of : ℕ → ℕ → Token
sign_of place b =
    if b == 40 then Open
    else (if b == 41 then Close
    else (if b == 43 then Sign Plus
    else (if b == 45 then Sign Minus
    else (if b == 42 then Sign Times
    else (if b == 47 then Sign Over
    else Broken place)))))

name_small : (place : ℕ) (name : List ℕ) → IsSmall (name_of place name)
name_small place name = if_small (length name == 0) (Broken place) _ tt
    (if_small (nat_lt 32 (length name)) (Broken (place + 32)) (Name name) tt tt)

variable_small : (place : ℕ) (text : List ℕ) → IsSmall (variable_of place text)
variable_small place [] = tt
variable_small place (b ∷ text) = if_small (b == 95) (name_of (place + 1) (take_while is_name_byte text)) (Broken place)
    (name_small (place + 1) (take_while is_name_byte text)) tt

sign_small : (place b : ℕ) → IsSmall (sign_of place b)
sign_small place b =
    if_small (b == 40) Open _ tt (if_small (b == 41) Close _ tt (if_small (b == 43) (Sign Plus) _ tt (if_small (b == 45) (Sign Minus) _ tt
    (if_small (b == 42) (Sign Times) _ tt (if_small (b == 47) (Sign Over) (Broken place) tt tt)))))

token_small : (place b : ℕ) (text : List ℕ) → IsSmall (token_of place b text)
token_small place b text =
    if_small (is_number_byte b) (number_of place (millionths_of (b ∷ take_while is_number_byte text))) _
    (number_small place (millionths_of (b ∷ take_while is_number_byte text)) (millionths_small (b ∷ take_while is_number_byte text)))
    (if_small (b == 118) (variable_of (place + 1) text) (sign_of place b) (variable_small (place + 1) text) (sign_small place b))

abbrev IsSmallPart : Part → Type 0
IsSmallPart part = IsSmall part.token

parts_after_small : (more place : ℕ) (text : List ℕ) → All IsSmallPart (parts_after more place text)
unfolding parts_after
parts_after_small more place [] = All-nil IsSmallPart
parts_after_small (suc more) place (b ∷ text) = parts_after_small more (place + 1) text
parts_after_small zero place (b ∷ text) =
    elim (is_blank b) as (λ v. All IsSmallPart
    (if v then parts_after 0 (place + 1) text
    else record { place = place; token = token_of place b text } ∷ parts_after (more_of b text) (place + 1) text)) [
      | true ↦ parts_after_small 0 (place + 1) text
      | false ↦ All-cons IsSmallPart _ _ (token_small place b text)
          (parts_after_small (more_of b text) (place + 1) text)
    ]

-- the numbers in a formula
pub parts_small : (text : List ℕ) → All (λ part. IsSmall part.token) (parts_of text)
parts_small text = parts_after_small 0 0 text
