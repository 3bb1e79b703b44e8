use Rattle.std.proofs.Common.{sym, ◌∙◌}
use Rattle.spk_world.specs.Effects.{writes}
use Rattle.spk_run.specs.Dumps.{snapshot_events}
use Rattle.spk_run.specs.Snapshots.{scene_at}
use Rattle.spk_run.proofs.Tellers.{silent_teller, teller_failed, teller_wrote}
use Rattle.spk_run.proofs.teller.Teller.tell_snapshot.Goals as goal

pub returns-then-is_err-clause-telling : goal.returns-then-is_err-clause-telling
returns-then-is_err-clause-telling g c = λ log values are.
    silent_teller log (writes (snapshot_events (scene_at c.args.self.now.writer c.args.time values) c.args.dump.now)) _ c.args.self.now (sym c.is_err.ensures.value ∙ c.if-is_err.true)

pub returns-in-Ok-clause-telling : goal.returns-in-Ok-clause-telling
returns-in-Ok-clause-telling g c = λ log values are.
    teller_wrote log _ _ _ c.args.self.now c.write.new.self (sym c.is_err.ensures.value ∙ c.if-is_err.false) (c.in-Ok.ensures.wrote values are)

pub returns-in-Err-clause-telling : goal.returns-in-Err-clause-telling
returns-in-Err-clause-telling g c = λ log values are.
    teller_failed log _ _ _ c.args.self.now c.take_name.new.self _ c.take_name.result _ (sym c.is_err.ensures.value ∙ c.if-is_err.false) (c.take_name.ensures.name ∙ c.in-Err.ensures.name) (c.in-Err.ensures.wrote values are)
