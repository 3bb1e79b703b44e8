use Rattle.spk_turn.proofs.Changing.{FirstNoted}
use Rattle.spk_turn.proofs.changes.note_values.Given as goal

abbrev pub invariant-loop-k : goal.invariant-loop-k
invariant-loop-k g l = FirstNoted (g.V.View.sight l.view).values l.places l.values l.k
