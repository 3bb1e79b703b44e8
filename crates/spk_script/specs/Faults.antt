-- Which fault of a line is out of memory.
use Rattle.std.specs.Prelude.{Bool, true, false}
use Rattle.spk_script.specs.declared.fault.LineFault.{LineFault}
use Rattle.spk_script.specs.declared.fault.LineFault.TheVariants.{Memory}

abbrev pub is_memory : LineFault → Bool
is_memory Memory = true
is_memory fault = false
