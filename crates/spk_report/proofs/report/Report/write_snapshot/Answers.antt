use Rattle.std.proofs.Common.{◌≡◌, ◌<◌, length, ap, sym, subst, ◌∙◌, arith}
use Rattle.spk_lattice.specs.Layout.{IsLattice, sites_of}
use Rattle.spk_report.specs.Snapshots.{snapshot_text}
use Rattle.spk_report.proofs.BufferLaws.{puts_broken, puts_whole}
use Rattle.spk_report.proofs.OnePiece.{first_piece, one_exists, piece_all, piece_values}
use Rattle.spk_report.proofs.report.Report.write_snapshot.Goals as goal

pub put-requires-clause-shown : goal.put-requires-clause-shown
put-requires-clause-shown g c =
    let some : 0 < length c.args.pieces.now = omega (arith, c.requires.pieces.all, one_exists c.args.sectors.now c.requires.one_rank) in
    let same : c.args.sectors.now.grid.lattice ≡ c.self.inside.lattice = c.requires.lattice ∙ sym c.self.view_is in
    record {
      some = c.requires.some;
      limit = c.requires.limit;
      all = ap length (c.as_slice.ensures.value ∙ first_piece c.args.pieces.now c.index-pieces-0.result some)
          ∙ piece_all c.args.sectors.now c.args.pieces.now c.requires.one_rank c.requires.pieces ∙ ap sites_of same;
    }

pub returns-in_err-put-clause-wrote : goal.returns-in_err-put-clause-wrote
returns-in_err-put-clause-wrote g c values are =
    let some : 0 < length c.args.pieces.now = omega (arith, c.requires.pieces.all, one_exists c.args.sectors.now c.requires.one_rank) in
    let same : c.args.sectors.now.grid.lattice ≡ c.self.inside.lattice = c.requires.lattice ∙ sym c.self.view_is in
    let is : IsLattice c.args.sectors.now.grid.lattice = subst IsLattice (sym same) c.known.ensures in
    let shown : c.as_slice.result.now ≡ values = c.as_slice.ensures.value ∙ first_piece c.args.pieces.now c.index-pieces-0.result some
    ∙ piece_values c.args.sectors.now c.args.pieces.now values is c.requires.one_rank are in
    rw (← shown, ← c.self.view_is) (puts_broken c.args.file.now (snapshot_text c.args.head.now c.self.inside.lattice c.args.fields.now c.as_slice.result.now) _ _ _ c.put.new.buffer.text.items _ _ c.clear.ensures.items c.in_err-put.ensures.puts c.from_residual.ensures.1)

pub returns-clause-wrote : goal.returns-clause-wrote
returns-clause-wrote g c values are =
    let some : 0 < length c.args.pieces.now = omega (arith, c.requires.pieces.all, one_exists c.args.sectors.now c.requires.one_rank) in
    let same : c.args.sectors.now.grid.lattice ≡ c.self.inside.lattice = c.requires.lattice ∙ sym c.self.view_is in
    let is : IsLattice c.args.sectors.now.grid.lattice = subst IsLattice (sym same) c.known.ensures in
    let shown : c.as_slice.result.now ≡ values = c.as_slice.ensures.value ∙ first_piece c.args.pieces.now c.index-pieces-0.result some
    ∙ piece_values c.args.sectors.now c.args.pieces.now values is c.requires.one_rank are in
    rw (← shown, ← c.self.view_is) (puts_whole c.args.file.now (snapshot_text c.args.head.now c.self.inside.lattice c.args.fields.now c.as_slice.result.now) _ _ _ _ _ _ c.clear.ensures.items c.in_ok-put.ensures.puts c.flush.ensures.wrote)
