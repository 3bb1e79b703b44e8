-- Formulas: their parts, and how they are read by the grammar
--
--     expression = term {(+|-) term}     term = factor {(*|/) factor}     factor = - factor | ( expression ) | number | v_NAME
--
-- Blanks may stand between the parts. The grammar is our own.
use Rattle.std.specs.Prelude.{ℕ, zero, suc, ◌+◌, ◌*◌, Bool, true, false, ◌||◌, ◌==◌, nat_lt, if◌then◌else◌, List, [], ◌∷◌, length, take_while, reverse, Option, Some, None, Result, Ok, Err, ℤ}
use Rattle.std.specs.Char.{is_ascii_digit}
use Rattle.spk_num.specs.Decimal.{millionths_of}
use Rattle.spk_num.specs.Names.{is_name_byte}
use Rattle.spk_num.specs.declared.decimal.DecFault.{DecFault}
use Rattle.spk_script.specs.declared.formula.part.Operator.{Operator}
use Rattle.spk_script.specs.declared.formula.part.Operator.TheVariants.{Plus, Minus, Times, Over}
use Rattle.spk_script.specs.declared.formula.part.Token.{Token}
use Rattle.spk_script.specs.declared.formula.part.Token.TheVariants.{Number, Name, Open, Close, Sign, Broken}
use Rattle.spk_script.specs.declared.formula.part.Part.{Part}
use Rattle.spk_script.specs.Words.{is_blank}

-- a number goes as far as digits and dots go
abbrev pub is_number_byte : ℕ → Bool
is_number_byte b = is_ascii_digit b || (b == 46)

-- what a run of digits and dots stands for; where it is no decimal number, it can't stand there from its first byte on
abbrev pub number_of : ℕ → Result ℤ DecFault → Token
number_of place (Ok z) = Number (record { millionths = z })
number_of place (Err fault) = Broken place

-- what stands after `v_`: a name of 1 to 32 bytes
abbrev pub name_of : ℕ → List ℕ → Token
name_of place name =
    if length name == 0 then Broken place
    else (if nat_lt 32 (length name) then Broken (place + 32) else Name name)

-- what stands after a `v`
abbrev pub variable_of : ℕ → List ℕ → Token
variable_of place [] = Broken place
variable_of place (b ∷ text) = if b == 95 then name_of (place + 1) (take_while is_name_byte text) else Broken place

-- the part that begins with this byte at this place, with what stands after it
abbrev pub token_of : ℕ → ℕ → List ℕ → Token
token_of place b text =
    if is_number_byte b then number_of place (millionths_of (b ∷ take_while is_number_byte text))
    else (if b == 118 then variable_of (place + 1) text
    else (if b == 40 then Open
    else (if b == 41 then Close
    else (if b == 43 then Sign Plus
    else (if b == 45 then Sign Minus
    else (if b == 42 then Sign Times
    else (if b == 47 then Sign Over
    else Broken place)))))))

-- how many more bytes it has
abbrev pub more_of : ℕ → List ℕ → ℕ
more_of b text =
    if is_number_byte b then length (take_while is_number_byte text)
    else (if b == 118 then length (take_while is_name_byte text)
    else 0)

-- the parts of a text from a place on, where so many bytes still belong to the part before
unfoldable pub parts_after : ℕ → ℕ → List ℕ → List Part
parts_after more place [] = []
parts_after (suc more) place (b ∷ text) = parts_after more (place + 1) text
parts_after zero place (b ∷ text) =
    if is_blank b then parts_after 0 (place + 1) text
    else record { place = place; token = token_of place b text } ∷ parts_after (more_of b text) (place + 1) text

abbrev pub parts_of : List ℕ → List Part
parts_of text = parts_after 0 0 text

-- A formula that was read. A number, a name, a minus before a factor and a parenthesis have the offset of their first byte.
pub data Formula : Type 0 where
  Amount : ℕ → ℤ → Formula
  Variable : ℕ → List ℕ → Formula
  Negative : ℕ → Formula → Formula
  Enclosed : ℕ → Formula → Formula
  Operation : Operator → Formula → Formula → Formula

-- what must be read: one of the three, or more terms or factors after those that were read
pub data Goal : Type 0 where
  Expression : Goal
  Term : Goal
  Factor : Goal
  MoreTerms : Formula → Goal
  MoreFactors : Formula → Goal

-- what was read, with the parts after it, or the offset of the first byte that can't stand there
abbrev pub Read : Type 0
Read = Result (Formula × List Part) ℕ

infixl 10 ◌then◌
abbrev pub ◌then◌ : Read → (Formula → List Part → Read) → Read
Ok found then next = next found.0 found.1
Err place then next = Err place

-- an operator of one of the two kinds at the start, with the parts after it
abbrev pub is_sum : Operator → Bool
is_sum Plus = true
is_sum Minus = true
is_sum operator = false

abbrev pub is_product : Operator → Bool
is_product Times = true
is_product Over = true
is_product operator = false

abbrev pub operator_by : (Operator → Bool) → Token → List Part → Option (Operator × List Part)
operator_by is (Sign operator) parts = if is operator then Some (operator, parts) else None
operator_by is token parts = None

abbrev pub operator_at : (Operator → Bool) → List Part → Option (Operator × List Part)
operator_at is [] = None
operator_at is (part ∷ parts) = operator_by is part.token parts

-- a parenthesis closes at the start
abbrev pub closed_by : ℕ → Formula → Part → List Part → Token → Read
closed_by place formula part parts Close = Ok (Enclosed place formula, parts)
closed_by place formula part parts token = Err part.place

abbrev pub closed : ℕ → ℕ → Formula → List Part → Read
closed end place formula [] = Err end
closed end place formula (part ∷ parts) = closed_by place formula part parts part.token

-- a factor that begins with this part, where more is read by `more`
abbrev pub factor_by : (Goal → List Part → Read) → ℕ → ℕ → List Part → Token → Read
factor_by more end place parts (Number z) = Ok (Amount place z.millionths, parts)
factor_by more end place parts (Name name) = Ok (Variable place name, parts)
factor_by more end place parts (Sign Minus) = more Factor parts then λ formula rest. Ok (Negative place formula, rest)
factor_by more end place parts Open = more Expression parts then λ formula rest. closed end place formula rest
factor_by more end place parts (Broken at) = Err at
factor_by more end place parts token = Err place

abbrev pub factor_of : (Goal → List Part → Read) → ℕ → List Part → Read
factor_of more end [] = Err end
factor_of more end (part ∷ parts) = factor_by more end part.place parts part.token

-- more after what was read, where an operator stands at the start
abbrev pub more_of_kind : (Goal → List Part → Read) → Goal → (Formula → Goal) → Formula → List Part → Option (Operator × List Part) → Read
more_of_kind more goal again left parts None = Ok (left, parts)
more_of_kind more goal again left parts (Some found) =
    more goal found.1 then λ right rest. more (again (Operation found.0 left right)) rest

-- What is read from the start of the parts of a text that ends at this offset, each step being one of so many at most.
unfoldable pub read : ℕ → ℕ → Goal → List Part → Read
read zero end goal parts = Err end
read (suc steps) end Expression parts = read steps end Term parts then λ left rest. read steps end (MoreTerms left) rest
read (suc steps) end Term parts = read steps end Factor parts then λ left rest. read steps end (MoreFactors left) rest
read (suc steps) end Factor parts = factor_of (read steps end) end parts
read (suc steps) end (MoreTerms left) parts = more_of_kind (read steps end) Term MoreTerms left parts (operator_at is_sum parts)
read (suc steps) end (MoreFactors left) parts = more_of_kind (read steps end) Factor MoreFactors left parts (operator_at is_product parts)

-- Blanks stand between the parts and nowhere else.
abbrev pub begins_blank : List ℕ → Bool
begins_blank [] = false
begins_blank (b ∷ text) = is_blank b

abbrev pub ends_blank : List ℕ → Bool
ends_blank text = begins_blank (reverse text)

-- nothing stands after a formula
abbrev pub whole : List ℕ → Read → Result Formula ℕ
whole text (Err place) = Err place
whole text (Ok (formula, [])) = if ends_blank text then Err (length text) else Ok formula
whole text (Ok (formula, part ∷ parts)) = Err part.place

-- what is read of these parts, for which so many steps are enough
abbrev pub read_of : List ℕ → List Part → Read
read_of text parts = read (3 * length parts + 3) (length text) Expression parts

-- the formula that a text is, or the offset of the first byte that can't stand there; it is the text's length where the
-- text ends too early
unfoldable pub formula_of : List ℕ → Result Formula ℕ
formula_of text = if begins_blank text then Err 0 else whole text (read_of text (parts_of text))
