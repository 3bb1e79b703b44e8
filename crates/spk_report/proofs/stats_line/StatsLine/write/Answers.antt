use Rattle.std.proofs.Common.{[], ◌∷◌}
use Rattle.spk_num.specs.Decimal.{ticks_text}
use Rattle.spk_report.proofs.LineParts.{six_parts}
use Rattle.spk_report.specs.Statistics.{column_text, energy_text, statistics_text}
use Rattle.spk_report.proofs.stats_line.StatsLine.write.Goals as goal

pub returns-clause-text : goal.returns-clause-text
unfolding statistics_text
returns-clause-text c =
    rw (
      c.append-2.ensures.items,
      c.append_energy.ensures.items,
      c.append_column-3.ensures.items,
      c.append_column-2.ensures.items,
      c.append_column.ensures.items,
      c.append.ensures.items,
      c.clear.ensures.items,
      c.as_bytes.ensures.value,
      c.print_ticks.ensures,
    ) (six_parts (ticks_text c.args.self.now.time) (column_text c.args.self.now.counts.accepted) (column_text c.args.self.now.counts.rejected) (column_text c.args.self.now.sweeps) (energy_text c.args.self.now.energy) (10 ∷ []))
