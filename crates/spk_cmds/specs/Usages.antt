-- What reading a command line comes to.
use Rattle.std.specs.Prelude.{◌≡◌, ℕ, Result, Ok, Err}
use Rattle.spk_cmds.specs.declared.options.Options.{Options}
use Rattle.spk_cmds.specs.declared.options.Usage.{Usage}
use Rattle.spk_cmds.specs.declared.options.Usage.TheVariants.{Word, Memory}
use Rattle.spk_cmds.specs.declared.option_values.Line as code
use Rattle.spk_cmds.specs.CommandLine.{Line}

-- the options, or the first bad place, or no memory is left
abbrev pub OptionsTo : Result Options ℕ → Result Options Usage → Type 0
OptionsTo plain (Ok options) = plain ≡ Ok options
OptionsTo plain (Err (Word place)) = plain ≡ Err place
OptionsTo plain (Err Memory) = Unit {0}

-- how definitions see the words that the code has read
abbrev pub line_seen : code.Line → Line
line_seen line = record { vars = line.vars; asked = line.asked.items; awaited = line.awaited }
