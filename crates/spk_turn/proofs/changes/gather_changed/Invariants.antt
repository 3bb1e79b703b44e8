use Rattle.spk_turn.proofs.Changing.{FirstChanged}
use Rattle.spk_turn.proofs.changes.gather_changed.Given as goal

abbrev pub invariant-loop-k : goal.invariant-loop-k
invariant-loop-k g l = FirstChanged (g.V.View.sight l.view).values l.places l.before l.changed l.k
