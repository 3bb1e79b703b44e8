-- Room for site files.
use Rattle.std.proofs.Common.{◌≡◌, ℕ, ◌+◌, ◌*◌, ◌^◌, ◌<◌, ◌≤◌, List, length, subst, arith}
use Rattle.std.specs.List.{All}
use Rattle.spk_lattice.specs.Layout.{IsLattice, sites_of}
use Rattle.spk_sched.specs.Decompositions.{Decomposition}
use Rattle.spk_sched.specs.declared.letter.Letter.{Letter}
use Rattle.spk_sched.specs.SiteTexts.{sites_text}
use Rattle.spk_sched.proofs.SiteLengths.{sites_text_fits}
use Rattle.spk_report.specs.Pieces.{AreValuesOf, one_rank, piece_of}
use Rattle.spk_report.proofs.OnePiece.{piece_values}

-- a buffer of 80 bytes and 19 for each site has room for every site file
pub site_file_room : (boxes : Decomposition) (pieces : List Letter) (time room : ℕ) → IsLattice boxes.grid.lattice → boxes.grid.ranks ≡ one_rank → time < 2 ^ 64 →
    sites_of boxes.grid.lattice ≤ 4194304 → All (λ value. value < 2 ^ 32) (piece_of pieces 0) → 80 + 19 * sites_of boxes.grid.lattice ≤ room →
    (values : List ℕ) → AreValuesOf boxes pieces values → length (sites_text time values) ≤ room
site_file_room boxes pieces time room is one late few fit fits values are =
    let same : piece_of pieces 0 ≡ values = piece_values boxes pieces values is one are in
    let count : length values ≤ 4194304 = omega (arith, few, are.all) in
    omega (arith, sites_text_fits time values late count (subst (λ vs. All (λ value. value < 2 ^ 32) vs) same fit), fits, are.all)
