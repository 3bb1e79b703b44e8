-- What goes to the screen and to the log, and in which order.
use Rattle.std.specs.Prelude.{ℕ, Bool, if◌then◌else◌, List, Option, Some, None, codes}
use Rattle.spk_world.specs.Outside.{says, starts}
use Rattle.spk_world.specs.Effects.{Effect, ◌>>◌, answers, writes}
use Rattle.spk_report.specs.Output.{logs, prints}
use Rattle.spk_cmds.specs.declared.options.Echo.{Echo}
use Rattle.spk_cmds.specs.declared.options.Echo.TheVariants as echo
use Rattle.spk_run.specs.declared.answer.Target.{Target}
use Rattle.spk_run.specs.declared.answer.Target.TheVariants as target

-- where the log is; without one there is nothing but the screen
abbrev pub log_target : Option (List ℕ) → Target
log_target None = target.Screen
log_target (Some name) = target.File name

-- the line above a run's statistics, with a column of energies or without
abbrev pub header_text : Bool → List ℕ
header_text with_energy = if with_energy then codes "Time Naccept Nreject Nsweeps Energy\n" else codes "Time Naccept Nreject Nsweeps\n"

abbrev pub prints_then : Option (List ℕ) → List ℕ → Effect (Unit {0}) → Effect (Unit {0})
prints_then log text rest = prints log text >> rest

-- A command's lines are echoed as they stand in the script: all of them to the screen, and then all of them to the log.
abbrev pub echoes : Echo → Option (List ℕ) → List ℕ → Effect (Unit {0})
echoes echo.None log text = answers tt
echoes echo.Screen log text = writes (says text)
echoes echo.Log log text = logs log text
echoes echo.Both log text = prints log text

abbrev pub starts_log : Option (List ℕ) → Effect (Unit {0})
starts_log None = answers tt
starts_log (Some log) = writes (starts log)
