-- How deep what stands open is, and what a number finishes of it.
use Rattle.std.proofs.Common.{if◌then◌else◌, ℤ, Ok, Err, ◌≡◌, ◌+◌, ◌≤◌, Bool, true, false, List, [], ◌∷◌, ◌++◌, reverse, length, Some, None, refl, sym, ap, ◌∙◌, arith, Result}
use Rattle.std.proofs.lemmas.List.{length-reverse, reverse-append}
use Rattle.spk_script.specs.declared.formula.stack.Frame.{Frame}
use Rattle.spk_script.specs.declared.formula.stack.Frame.TheVariants.{Minus, Parenthesis, Pending}
use Rattle.spk_script.specs.declared.fault.LineFault.{LineFault}
use Rattle.spk_num.specs.Results.{◌>>=◌}
use Rattle.spk_script.specs.Frames.{nests, depth_of, is_finished, applied, settled, finished_first}
use Rattle.spk_num.proofs.ResultLaws.{then_value, then_fault}
use Rattle.spk_script.proofs.Following.{then_then}

nests_one : (frame : Frame) → nests frame ≤ 1
nests_one Minus = omega arith
nests_one Parenthesis = omega arith
nests_one (Pending operator left) = omega arith

depth_within : (frames : List Frame) → depth_of frames ≤ length frames
depth_within [] = omega arith
depth_within (frame ∷ frames) = omega (arith, nests_one frame, depth_within frames)

-- no more minuses and parentheses stand open than frames
pub depth_of_reverse : (frames : List Frame) → depth_of (reverse frames) ≤ length frames
depth_of_reverse frames = omega (arith, depth_within (reverse frames), length-reverse frames)

-- the last frame taken
pub last_taken : (frames rest : List Frame) (frame : Frame) → frames ≡ rest ++ frame ∷ [] →
    depth_of (reverse frames) ≡ nests frame + depth_of (reverse rest)
last_taken frames rest frame is = ap (λ fs. depth_of (reverse fs)) is ∙ ap depth_of (reverse-append rest (frame ∷ []))

none_unless : (b : Bool) (frame : Frame) → None ≡ (if b then Some frame else None) → b ≡ false
none_unless true frame is = absurd (cc)
none_unless false frame is = refl

some_if : (b : Bool) (frame found : Frame) → Some found ≡ (if b then Some frame else None) → b ≡ true
some_if true frame found is = refl
some_if false frame found is = absurd (cc)

-- what a number finishes, one frame after another
pub settled_end : (before_product : Bool) (frames : List Frame) (z : ℤ) → None ≡ finished_first before_product frames →
    settled before_product frames z ≡ Ok (frames, z)
unfolding settled
settled_end before_product [] z none = refl
settled_end before_product (frame ∷ frames) z none = rw (none_unless (is_finished before_product frame) frame none)

settled_prefix : (before_product : Bool) (frame : Frame) (frames : List Frame) (z : ℤ) → is_finished before_product frame ≡ true →
    settled before_product (frame ∷ frames) z ≡ applied frame z >>= λ y. settled before_product frames y
unfolding settled
settled_prefix before_product frame frames z finished = rw finished refl

-- the first frame is applied before all others
pub settled_first : {B : Type 0} (before_product : Bool) (frame : Frame) (frames : List Frame) (z : ℤ)
    (next : List Frame × ℤ → Result B LineFault) → is_finished before_product frame ≡ true →
    settled before_product (frame ∷ frames) z >>= next ≡ applied frame z >>= λ y. settled before_product frames y >>= next
settled_first before_product frame frames z next finished =
    ap (λ settling. settling >>= next) (settled_prefix before_product frame frames z finished)
    ∙ then_then (applied frame z) (λ y. settled before_product frames y) next

settled_at : (before_product : Bool) (frames rest : List Frame) (frame : Frame) (z : ℤ) →
    Some frame ≡ finished_first before_product frames → frames ≡ frame ∷ rest →
    settled before_product frames z ≡ applied frame z >>= λ y. settled before_product rest y
settled_at before_product frames rest frame z prefix is =
    let here : Some frame ≡ finished_first before_product (frame ∷ rest) = prefix ∙ ap (finished_first before_product) is in
    ap (λ fs. settled before_product fs z) is
    ∙ settled_prefix before_product frame rest z (some_if (is_finished before_product frame) frame frame here)

pub settled_more : (before_product : Bool) (frames rest : List Frame) (frame : Frame) (z y : ℤ) →
    Some frame ≡ finished_first before_product frames → frames ≡ frame ∷ rest →
    Ok y ≡ applied frame z → settled before_product frames z ≡ settled before_product rest y
settled_more before_product frames rest frame z y prefix is found =
    settled_at before_product frames rest frame z prefix is ∙ then_value (applied frame z) (λ x. settled before_product rest x) y (sym found)

pub settled_fault : (before_product : Bool) (frames rest : List Frame) (frame : Frame) (z : ℤ) (fault : LineFault) →
    Some frame ≡ finished_first before_product frames → frames ≡ frame ∷ rest →
    Err fault ≡ applied frame z → settled before_product frames z ≡ Err fault
settled_fault before_product frames rest frame z fault prefix is found =
    settled_at before_product frames rest frame z prefix is
    ∙ then_fault (applied frame z) (λ x. settled before_product rest x) fault (sym found)
