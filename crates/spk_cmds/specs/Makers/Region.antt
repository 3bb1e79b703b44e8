-- Regions by the values of their words.
use Rattle.std.specs.Prelude.{ℕ, if◌then◌else◌, List, [], ◌∷◌, codes}
use Rattle.std.specs.Str.{bytes_eq}
use Rattle.spk_num.specs.declared.shape.Shape.{Shape}
use Rattle.spk_num.specs.declared.shape.Shape.TheVariants.{Block, Sphere, Cylinder}
use Rattle.spk_cmds.specs.declared.command.Command.{Command}
use Rattle.spk_cmds.specs.declared.command.Command.TheVariants as command
use Rattle.spk_cmds.specs.declared.value.Value.{Value}
use Rattle.spk_cmds.specs.Values.{decimal_at, bound_at, word_at}

-- `block B B B B B B`, from the low and the high bound in x to those in z
abbrev pub block : List Value → Shape
block values = Block (bound_at values 2 ∷ bound_at values 4 ∷ bound_at values 6 ∷ []) (bound_at values 3 ∷ bound_at values 5 ∷ bound_at values 7 ∷ [])

-- `sphere D D D D`, the centre and the radius
abbrev pub sphere : List Value → Shape
sphere values = Sphere (decimal_at values 2 ∷ decimal_at values 3 ∷ decimal_at values 4 ∷ []) (decimal_at values 5)

-- the axis of a word, which is `x`, `y` or `z`
abbrev pub axis_of : List ℕ → ℕ
axis_of word = if bytes_eq word (codes "x") then 0 else (if bytes_eq word (codes "y") then 1 else 2)

-- `cylinder A D D D B B`: the axis, the centre, the radius, and the bounds along the axis
abbrev pub cylinder : List Value → Shape
cylinder values =
    Cylinder (axis_of (word_at values 2)) (decimal_at values 3 ∷ decimal_at values 4 ∷ []) (decimal_at values 5) (bound_at values 6) (bound_at values 7)

-- `region ID` and then a shape
abbrev pub region_of : List Value → Shape → Command
region_of values shape = command.Region (word_at values 0) shape
