-- One rank has all cells of a lattice, and its only sector has them too.
use Rattle.std.proofs.Common.{◌≡◌, ℕ, refl, ap, ◌∙◌}
use Rattle.std.specs.List.{range_with_len}
use Rattle.spk_lattice.specs.Layout.{Layout, IsLattice, sites_of}
use Rattle.spk_lattice.specs.Boxes.{places_of, whole_box}
use Rattle.spk_lattice.proofs.Boxes.{whole_places}
use Rattle.spk_sched.specs.declared.part.Part.TheVariants.{Whole}
use Rattle.spk_sched.specs.Decompositions.{sector_box, whole_of}
use Rattle.spk_sched.specs.Rings.{part}
use Rattle.spk_sched.proofs.Rings.{first_cut, last_cut}

whole_interval : (n : ℕ) → part n 1 Whole 0 ≡ record { from = 0; to = n }
whole_interval n = rw (first_cut n, last_cut n) refl

-- the box of the only sector of the only rank
pub one_rank_box : (lattice : Layout) →
    sector_box (whole_of (record { lattice = lattice; ranks = record { x = 1; y = 1; z = 1 } })) 0 0 ≡ whole_box lattice
one_rank_box lattice = rw (whole_interval lattice.nx, whole_interval lattice.ny, whole_interval lattice.nz) refl

-- its places are all places of the lattice, in their order
pub one_rank_places : (lattice : Layout) → IsLattice lattice →
    places_of lattice (sector_box (whole_of (record { lattice = lattice; ranks = record { x = 1; y = 1; z = 1 } })) 0 0)
    ≡ range_with_len 0 (sites_of lattice)
one_rank_places lattice is = ap (places_of lattice) (one_rank_box lattice) ∙ whole_places lattice is
