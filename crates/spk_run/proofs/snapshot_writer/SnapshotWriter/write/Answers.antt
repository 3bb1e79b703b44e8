use Rattle.std.proofs.Common.{◌∙◌}
use Rattle.spk_run.specs.Snapshots.{scene_at}
use Rattle.spk_run.proofs.SnapshotWrites.{snapshot_not_started, snapshot_put}
use Rattle.spk_run.proofs.snapshot_writer.SnapshotWriter.write.Goals as goal

pub returns-in_err-start_file-clause-wrote : goal.returns-in_err-start_file-clause-wrote
returns-in_err-start_file-clause-wrote g c = λ values are.
    snapshot_not_started _ _ (scene_at c.args.self.now c.args.time values) c.args.dump.now c.deref.result.now c.starts_file.result _ _ (c.deref.ensures ∙ c.write_name.ensures.name) c.starts_file.ensures
    c.from_residual.ensures.1 c.in_err-start_file.ensures

pub returns-clause-wrote : goal.returns-clause-wrote
returns-clause-wrote g c = λ values are.
    snapshot_put _ _ _ (scene_at c.args.self.now c.args.time values) c.args.dump.now c.deref.result.now c.starts_file.result _ (c.deref.ensures ∙ c.write_name.ensures.name) c.starts_file.ensures
    c.in_ok-start_file.ensures (rw (← c.deref.ensures) at (c.put_text.ensures.wrote values are))
