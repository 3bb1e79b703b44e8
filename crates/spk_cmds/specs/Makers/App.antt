-- Applications by the values of their words.
use Rattle.std.specs.Prelude.{if◌then◌else◌, List, codes}
use Rattle.std.specs.Str.{bytes_eq}
use Rattle.spk_cmds.specs.declared.command.AppStyle.{AppStyle}
use Rattle.spk_cmds.specs.declared.command.AppStyle.TheVariants.{DiffusionOff, DiffusionLinear}
use Rattle.spk_cmds.specs.declared.value.Value.{Value}
use Rattle.spk_cmds.specs.Values.{word_at}

-- `diffusion off hop` or `diffusion linear hop`
abbrev pub diffusion : List Value → AppStyle
diffusion values = if bytes_eq (word_at values 1) (codes "off") then DiffusionOff else DiffusionLinear
