use Rattle.std.proofs.Common.{List, ℕ, subst}
use Rattle.std.specs.Prelude.{All}
use Rattle.spk_turn.specs.Noted.{IsChanged}
use Rattle.spk_turn.proofs.changes.Changes.find.Goals as goal

pub returns-clause-other : goal.returns-clause-other
returns-clause-other g c = subst (λ (places : List ℕ). All (IsChanged (g.V.View.sight c.args.view.now).values places c.args.self.now.before) c.gather_changed.new.changed) c.as_slice.ensures.places c.gather_changed.ensures.other
