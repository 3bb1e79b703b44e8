-- `set` by the values of its words.
use Rattle.std.specs.Prelude.{List, codes}
use Rattle.spk_cmds.specs.declared.command.SetValue.{SetValue}
use Rattle.spk_cmds.specs.declared.command.SetValue.TheVariants.{Range}
use Rattle.spk_cmds.specs.declared.command.Command.{Command}
use Rattle.spk_cmds.specs.declared.command.Command.TheVariants as command
use Rattle.spk_cmds.specs.declared.value.Value.{Value}
use Rattle.spk_cmds.specs.Values.{number_at, decimal_after, word_after}

-- `range W W`
abbrev pub range_of : List Value → SetValue
range_of values = Range (number_at values 2) (number_at values 3)

-- `set L` with its values, and then the pairs
abbrev pub set_to : SetValue → List Value → Command
set_to given pairs = command.Set given (decimal_after pairs (codes "fraction")) (word_after pairs (codes "region"))
