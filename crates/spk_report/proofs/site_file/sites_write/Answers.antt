use Rattle.std.proofs.Common.{◌≡◌, ◌<◌, length, refl, ap, subst, ◌∙◌, arith}
use Rattle.spk_lattice.specs.Layout.{IsLattice}
use Rattle.spk_world.proofs.Writes.{failed_adds, wrote_adds}
use Rattle.spk_sched.specs.SiteTexts.{sites_text}
use Rattle.spk_report.specs.Output.{failed_stop}
use Rattle.spk_report.specs.Pieces.{piece_of}
use Rattle.spk_report.proofs.OnePiece.{first_piece, one_exists, piece_shows, piece_values}
use Rattle.spk_sched.proofs.SiteLengths.{text_length}
use Rattle.spk_report.proofs.site_file.sites_write.Goals as goal

pub make_text-requires : goal.make_text-requires
make_text-requires g c =
    let some : 0 < length c.args.pieces.now = omega (arith, c.requires.pieces.all, one_exists c.args.sectors.now c.requires.one_rank) in
    let is : IsLattice c.args.sectors.now.grid.lattice = subst IsLattice c.lattice.ensures c.known.ensures in
    let shown : c.deref.result.now ≡ piece_of c.args.pieces.now 0 = c.deref.ensures.value ∙ first_piece c.args.pieces.now c.index-pieces-0.result some in
    rw shown (c.requires.room (piece_of c.args.pieces.now 0) (piece_shows c.args.sectors.now c.args.pieces.now is c.requires.one_rank c.requires.pieces))

pub returns-in-Ok-clause-wrote : goal.returns-in-Ok-clause-wrote
returns-in-Ok-clause-wrote g c values are =
    let some : 0 < length c.args.pieces.now = omega (arith, c.requires.pieces.all, one_exists c.args.sectors.now c.requires.one_rank) in
    let is : IsLattice c.args.sectors.now.grid.lattice = subst IsLattice c.lattice.ensures c.known.ensures in
    let shown : c.deref.result.now ≡ values = c.deref.ensures.value ∙ first_piece c.args.pieces.now c.index-pieces-0.result some
    ∙ piece_values c.args.sectors.now c.args.pieces.now values is c.requires.one_rank are in
    let text : c.as_slice-text.result.now ≡ sites_text c.args.time values = c.as_slice-text.ensures.value ∙ c.make_text.ensures.text ∙ ap (sites_text c.args.time) shown in
    wrote_adds _ _ _ c.args.file.now (sites_text c.args.time values) (omega (arith, text_length c.args.time values)) (rw (← text) c.in-Ok.ensures.ok) c.in-Ok.ensures.cause

pub returns-in-Err-clause-wrote : goal.returns-in-Err-clause-wrote
unfolding failed_stop
returns-in-Err-clause-wrote g c values are =
    let some : 0 < length c.args.pieces.now = omega (arith, c.requires.pieces.all, one_exists c.args.sectors.now c.requires.one_rank) in
    let is : IsLattice c.args.sectors.now.grid.lattice = subst IsLattice c.lattice.ensures c.known.ensures in
    let shown : c.deref.result.now ≡ values = c.deref.ensures.value ∙ first_piece c.args.pieces.now c.index-pieces-0.result some
    ∙ piece_values c.args.sectors.now c.args.pieces.now values is c.requires.one_rank are in
    let text : c.as_slice-text.result.now ≡ sites_text c.args.time values = c.as_slice-text.ensures.value ∙ c.make_text.ensures.text ∙ ap (sites_text c.args.time) shown in
    failed_adds _ _ _ c.args.file.now (sites_text c.args.time values) _ _ (omega (arith, text_length c.args.time values)) refl (rw (← text) c.in-Err.ensures.err) c.in-Err.ensures.cause
