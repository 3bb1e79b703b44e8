use Rattle.spk_world.proofs.EffectLaws.{wrote_whole}
use Rattle.spk_report.proofs.BufferLaws.{file_is_failed}
use Rattle.spk_report.proofs.report.Report.dump_text.Goals as goal

pub returns-in_err-write_snapshot-clause-wrote : goal.returns-in_err-write_snapshot-clause-wrote
returns-in_err-write_snapshot-clause-wrote g c values are = file_is_failed _ _ _ _ _ _ c.from_residual.ensures.1 (c.in_err-write_snapshot.ensures.wrote values are)

pub returns-clause-wrote : goal.returns-clause-wrote
returns-clause-wrote g c values are = wrote_whole (c.in_ok-write_snapshot.ensures.wrote values are)
