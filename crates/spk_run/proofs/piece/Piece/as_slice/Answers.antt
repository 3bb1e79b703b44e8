use Rattle.std.proofs.Common.{◌∷◌, []}
use Rattle.spk_report.proofs.OnePiece.{only_piece, piece_shows}
use Rattle.spk_run.proofs.piece.Piece.as_slice.Goals as goal

pub returns-clause-values : goal.returns-clause-values
returns-clause-values c = λ boxes on one all.
    rw c.from_ref.ensures.value (rw (← c.self.view_is) (piece_shows boxes (c.self.inside.letter ∷ []) on one (only_piece boxes c.self.inside.letter one (rw c.self.view_is all))))
