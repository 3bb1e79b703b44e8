-- The view of all sites of a lattice. A site's place is its id less 1.
use Rattle.std.specs.Prelude.{ℕ, ◌+◌, ◌-◌, List, [], ◌∷◌, map}
use Rattle.spk_num.specs.declared.style.Style.{Style}
use Rattle.spk_num.specs.declared.style.Style.TheVariants.{Line2, Sq4, Sq8, Tri, Sc6, Sc26, Bcc, Fcc}
use Rattle.spk_lattice.specs.Layout.{Layout}
use Rattle.spk_lattice.specs.Neighbours.{nb}
use Rattle.spk_app.specs.Sights.{Sight}

-- a lattice, and the values of its sites
pub record PlainSites : Type 0 where
  pub lattice : Layout
  pub values : List ℕ

-- the neighbours of a site, in the order of the lattice
abbrev pub places_beside : Layout → ℕ → List ℕ
places_beside lattice place = map (λ id. id - 1) (nb lattice (place + 1))

abbrev pub sight_of : PlainSites → Sight
sight_of sites = record { values = sites.values; near = places_beside sites.lattice }

abbrev pub style_number : Style → ℕ
style_number Line2 = 0
style_number Sq4 = 1
style_number Sq8 = 2
style_number Tri = 3
style_number Sc6 = 4
style_number Sc26 = 5
style_number Bcc = 6
style_number Fcc = 7

-- a lattice as a list of numbers
abbrev pub frame_of : Layout → List ℕ
frame_of lattice = style_number lattice.style ∷ lattice.nx ∷ lattice.ny ∷ lattice.nz ∷ []
