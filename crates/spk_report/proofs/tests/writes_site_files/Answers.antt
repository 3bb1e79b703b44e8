use Rattle.std.proofs.Common.{◌≡◌, ℕ, ◌*◌, ◌^◌, ◌<◌, ◌≤◌, List, [], ◌∷◌, replicate, sym, ap, ◌∙◌, subst, arith}
use Rattle.std.specs.List.{All}
use Rattle.std.proofs.lemmas.List.Elements.{All-replicate}
use Rattle.spk_lattice.specs.Layout.{Layout, IsLattice, sites_of}
use Rattle.spk_report.specs.Pieces.{piece_of}
use Rattle.spk_report.proofs.SiteRoom.{site_file_room}
use Rattle.spk_report.proofs.tests.writes_site_files.Goals as goal

pub sites_write-requires-clause-room : goal.sites_write-requires-clause-room
sites_write-requires-clause-room g c =
    let on : IsLattice c.whole-sectors.result.grid.lattice = subst IsLattice (sym c.whole-sectors.ensures.lattice) c.known.ensures in
    let three : sites_of c.whole-sectors.result.grid.lattice ≡ 3 = ap sites_of (c.whole-sectors.ensures.lattice ∙ c.lattice_of-chain.ensures) in
    let fit : All (λ value. value < 2 ^ 32) c.in_ok-values.values.items = subst (λ vs. All (λ value. value < 2 ^ 32) vs) (sym c.in_ok-values.ensures.items) (All-replicate (λ value. value < 2 ^ 32) 3 1 (omega arith)) in
    site_file_room c.whole-sectors.result (record { values = c.in_ok-values.values; energy = 0; counts = c.none.result } ∷ []) 0 _ on c.whole-sectors.ensures.ranks (omega arith) (omega (arith, three)) fit
    (omega (arith, three, c.in_ok-buffer.ensures.capacity))
