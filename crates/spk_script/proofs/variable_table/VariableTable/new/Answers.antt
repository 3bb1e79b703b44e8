use Rattle.spk_script.proofs.Tables.{variables_of_empty}
use Rattle.spk_script.proofs.variable_table.VariableTable.new.Goals as goal

pub returns : goal.returns
returns c = variables_of_empty _ c.new.ensures.empty
