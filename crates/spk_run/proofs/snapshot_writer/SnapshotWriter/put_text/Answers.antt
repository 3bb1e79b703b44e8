use Rattle.std.proofs.Common.{◌≡◌, ◌<◌, ◌^◌, true, length, refl, sym, ap, subst, ◌∙◌, arith}
use Rattle.std.specs.List.{All}
use Rattle.spk_report.specs.Pieces.{piece_of}
use Rattle.spk_report.proofs.OnePiece.{first_piece, one_exists}
use Rattle.spk_run.specs.declared.dump.DumpState.{DumpState}
use Rattle.spk_report.proofs.SiteRoom.{site_file_room}
use Rattle.spk_run.specs.Dumps.{is_of_sites}
use Rattle.spk_run.proofs.SnapshotWrites.{put_failed, put_whole, text_is}
use Rattle.spk_run.proofs.snapshot_writer.SnapshotWriter.put_text.Goals as goal

pub sites_write-requires-clause-room : goal.sites_write-requires-clause-room
sites_write-requires-clause-room g c =
    let sites : is_of_sites c.args.dump.now.style ≡ true = rw (← c.state.ensures, c.in-Sites.is) refl in
    let some : 0 < length c.args.pieces.now = omega (arith, c.requires.pieces.all, one_exists c.args.self.now.sectors c.requires.can_write.one) in
    let shown : c.as_slice.result.now ≡ piece_of c.args.pieces.now 0 = c.as_slice.ensures.value ∙ first_piece c.args.pieces.now c.index-pieces-0.result some in
    let fit : All (λ value. value < 2 ^ 32) (piece_of c.args.pieces.now 0) = subst (λ vs. All (λ value. value < 2 ^ 32) vs) shown c.known_values.ensures in
    site_file_room c.args.self.now.sectors c.args.pieces.now c.args.time _ c.requires.can_write.on c.requires.can_write.one c.ranges.time.fits c.requires.can_write.on.limit fit
    (c.requires.room sites)

pub returns-in-Ok-clause-wrote : goal.returns-in-Ok-clause-wrote
returns-in-Ok-clause-wrote g c = λ values are.
    let same = text_is c.args.self.now c.args.dump.now c.args.time values _ c.deref.result.now c.head-head.result c.as_slice-fields.result.now
    (sym (ap (λ (d : DumpState). d.style) c.state.ensures) ∙ c.in-Text.is) c.deref.ensures (c.head-head.ensures.head values) (c.as_slice-fields.ensures ∙ ap (λ (d : DumpState). d.fields) c.state-in-Text.ensures) c.requires.can_write.lattice in
    put_whole _ _ c.deref.result.now _ _ _ same (c.in-Ok.ensures.wrote values are)

pub returns-in-Err-clause-wrote : goal.returns-in-Err-clause-wrote
returns-in-Err-clause-wrote g c = λ values are.
    let same = text_is c.args.self.now c.args.dump.now c.args.time values _ c.deref.result.now c.head-head.result c.as_slice-fields.result.now
    (sym (ap (λ (d : DumpState). d.style) c.state.ensures) ∙ c.in-Text.is) c.deref.ensures (c.head-head.ensures.head values) (c.as_slice-fields.ensures ∙ ap (λ (d : DumpState). d.fields) c.state-in-Text.ensures) c.requires.can_write.lattice in
    put_failed _ _ c.deref.result.now _ _ _ _ _ c.in-Err.ensures.file c.deref.ensures same (c.in-Err.ensures.wrote values are)
