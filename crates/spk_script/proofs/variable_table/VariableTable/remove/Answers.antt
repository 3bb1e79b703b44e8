use Rattle.spk_script.proofs.Tables.{variables_of_update}
use Rattle.spk_script.proofs.variable_table.VariableTable.remove.Goals as goal

pub returns : goal.returns
returns c = variables_of_update _ _ _ _ c.remove.ensures.updates
