-- What stands open in a formula, the innermost first.
use Rattle.std.specs.Prelude.{ℕ, ◌+◌, Bool, true, false, not, ◌||◌, if◌then◌else◌, List, [], ◌∷◌, Option, Some, None, Ok, ℤ, neg_ℤ, Result}
use Rattle.spk_script.specs.declared.fault.LineFault.{LineFault}
use Rattle.spk_script.specs.declared.formula.stack.Frame.{Frame}
use Rattle.spk_script.specs.declared.formula.stack.Frame.TheVariants.{Minus, Parenthesis, Pending}
use Rattle.spk_num.specs.Results.{◌>>=◌}
use Rattle.spk_script.specs.Formulas.{is_product}
use Rattle.spk_script.specs.Values.{result_of}

-- a minus or a parenthesis makes what stands in it one deeper
abbrev pub nests : Frame → ℕ
nests (Pending operator left) = 0
nests frame = 1

abbrev pub depth_of : List Frame → ℕ
depth_of [] = 0
depth_of (frame ∷ frames) = nests frame + depth_of frames

-- what a number finishes where the sign of a product comes next, or where something else does
abbrev pub is_finished : Bool → Frame → Bool
is_finished before_product Minus = true
is_finished before_product Parenthesis = false
is_finished before_product (Pending operator left) = is_product operator || not before_product

-- what becomes of a number inside
abbrev pub applied : Frame → ℤ → Result ℤ LineFault
applied Minus z = Ok (neg_ℤ z)
applied Parenthesis z = Ok z
applied (Pending operator left) z = result_of operator left z

-- the frames that a number doesn't finish, with what the others make of it
unfoldable pub settled : Bool → List Frame → ℤ → Result (List Frame × ℤ) LineFault
settled before_product [] z = Ok ([], z)
settled before_product (frame ∷ frames) z =
    if is_finished before_product frame then (applied frame z >>= λ y. settled before_product frames y) else Ok (frame ∷ frames, z)

-- the first frame
abbrev pub first_frame : List Frame → Option Frame
first_frame [] = None
first_frame (frame ∷ frames) = Some frame

-- the first frame, where a number finishes it
abbrev pub finished_first : Bool → List Frame → Option Frame
finished_first before_product [] = None
finished_first before_product (frame ∷ frames) = if is_finished before_product frame then Some frame else None
