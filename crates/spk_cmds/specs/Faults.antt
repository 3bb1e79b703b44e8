-- Faults of commands.
use Rattle.std.specs.Prelude.{Bool, true, false}
use Rattle.spk_cmds.specs.declared.command.CommandFault.{CommandFault}
use Rattle.spk_cmds.specs.declared.command.CommandFault.TheVariants.{Memory}

abbrev pub is_memory : CommandFault → Bool
is_memory Memory = true
is_memory fault = false
