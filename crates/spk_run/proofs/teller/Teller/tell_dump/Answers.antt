use Rattle.std.proofs.Common.{sym, ap, ◌∙◌}
use Rattle.spk_world.specs.Effects.{writes}
use Rattle.spk_run.specs.Snapshots.{scene_at}
use Rattle.spk_run.proofs.DumpTelling.{due_events, no_snapshot}
use Rattle.spk_run.proofs.SnapshotWrites.{no_events}
use Rattle.spk_run.proofs.Tellers.{tells_nothing, tells_same}
use Rattle.spk_run.proofs.teller.Teller.tell_dump.Goals as goal

pub returns-then-is_due-clause-telling : goal.returns-then-is_due-clause-telling
returns-then-is_due-clause-telling g c = λ log values are.
    tells_same log _ _ _ _ _ _ (ap writes (sym (due_events (scene_at c.args.self.now.writer c.args.time values) c.args.dump.now (sym c.is_due.ensures ∙ c.if-is_due.true)))) (c.tell_snapshot.ensures.telling log values are)

pub returns-else-is_due-clause-telling : goal.returns-else-is_due-clause-telling
returns-else-is_due-clause-telling g c = λ log values are.
    tells_nothing log _ _ _ (ap writes (no_snapshot (scene_at c.args.self.now.writer c.args.time values) c.args.dump.now (sym c.is_due.ensures ∙ c.if-is_due.false)) ∙ no_events)
