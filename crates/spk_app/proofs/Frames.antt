-- A frame tells its lattice.
use Rattle.std.proofs.Common.{◌≡◌, ℕ, ◌==◌, if◌then◌else◌, List, get_or, refl, sym, ap, ◌∙◌}
use Rattle.spk_num.specs.declared.style.Style.{Style}
use Rattle.spk_num.specs.declared.style.Style.TheVariants.{Line2, Sq4, Sq8, Tri, Sc6, Sc26, Bcc, Fcc}
use Rattle.spk_lattice.specs.Layout.{Layout}
use Rattle.spk_app.specs.PlainViews.{style_number, frame_of}

-- the style that has a number
abbrev style_by : ℕ → Style
style_by number =
    if number == 0 then Line2
    else (if number == 1 then Sq4
    else (if number == 2 then Sq8
    else (if number == 3 then Tri
    else (if number == 4 then Sc6
    else (if number == 5 then Sc26
    else (if number == 6 then Bcc
    else Fcc))))))

style_is : (style : Style) → style_by (style_number style) ≡ style
style_is Line2 = refl
style_is Sq4 = refl
style_is Sq8 = refl
style_is Tri = refl
style_is Sc6 = refl
style_is Sc26 = refl
style_is Bcc = refl
style_is Fcc = refl

-- the lattice of a frame
abbrev lattice_by : List ℕ → Layout
lattice_by frame = record { style = style_by (get_or frame 0 0); nx = get_or frame 1 0; ny = get_or frame 2 0; nz = get_or frame 3 0 }

lattice_is : (lattice : Layout) → lattice_by (frame_of lattice) ≡ lattice
lattice_is lattice = ap (λ (style : Style). record { style = style; nx = lattice.nx; ny = lattice.ny; nz = lattice.nz }) (style_is lattice.style)

-- lattices with the same frame are the same
pub frame_same : (a b : Layout) → frame_of a ≡ frame_of b → a ≡ b
frame_same a b same = sym (lattice_is a) ∙ ap lattice_by same ∙ lattice_is b
