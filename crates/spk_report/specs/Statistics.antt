-- The texts of statistics. They are made after SPPARKS's; their form is our own.
use Rattle.std.specs.Prelude.{ℕ, List, [], ◌++◌, codes, decimal, Option, Some, None}
use Rattle.spk_num.specs.Decimal.{ticks_text}
use Rattle.spk_report.specs.declared.stats_line.StatsLine.{StatsLine}

-- a column more, after a blank
abbrev pub column_text : ℕ → List ℕ
column_text n = codes " " ++ decimal n

abbrev pub energy_text : Option ℕ → List ℕ
energy_text None = []
energy_text (Some energy) = column_text energy

-- a line: the time, what was accepted and rejected, the sweeps, and the energy of all sites where it is asked for
unfoldable pub statistics_text : StatsLine → List ℕ
statistics_text line =
    ticks_text line.time ++ (column_text line.counts.accepted ++ (column_text line.counts.rejected ++ (column_text line.sweeps ++ (energy_text line.energy ++ codes "\n"))))
