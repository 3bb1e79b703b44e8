-- The part that a text begins with.
use Rattle.std.specs.Prelude.{ℕ, ◌+◌, ◌==◌, if◌then◌else◌, List, [], ◌∷◌}
use Rattle.spk_script.specs.declared.formula.part.Operator.TheVariants.{Plus, Minus, Times, Over}
use Rattle.spk_script.specs.declared.formula.part.Token.{Token}
use Rattle.spk_script.specs.declared.formula.part.Token.TheVariants.{Open, Close, Sign, Broken}
use Rattle.spk_script.specs.Formulas.{token_of, more_of}

-- what a byte is by itself, where it begins no number and no name
abbrev pub mark_of : ℕ → ℕ → Token
mark_of place b =
    if b == 40 then Open
    else (if b == 41 then Close
    else (if b == 43 then Sign Plus
    else (if b == 45 then Sign Minus
    else (if b == 42 then Sign Times
    else (if b == 47 then Sign Over
    else Broken place)))))

-- the first part of a text, if anything stands in it, and how many bytes it has
abbrev pub token_at : ℕ → List ℕ → Token
token_at place [] = Broken place
token_at place (b ∷ text) = token_of place b text

abbrev pub length_at : List ℕ → ℕ
length_at [] = 0
length_at (b ∷ text) = more_of b text + 1
