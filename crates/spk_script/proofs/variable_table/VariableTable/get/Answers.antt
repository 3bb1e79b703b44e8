use Rattle.std.proofs.Common.{rules}
use Rattle.spk_script.specs.Tables.{variables_of}
use Rattle.spk_script.proofs.variable_table.VariableTable.get.Goals as goal

pub returns : goal.returns
unfolding variables_of
returns c = search rules
