-- Where a script comes from.
use Rattle.spk_cmds.specs.declared.options.Input.{Input}
use Rattle.spk_cmds.specs.declared.options.Input.TheVariants.{File, Generate}

-- the script comes from a file
abbrev pub IsFile : Input → Type 0
IsFile (File name) = Unit {0}
IsFile (Generate seed n) = ⊥
