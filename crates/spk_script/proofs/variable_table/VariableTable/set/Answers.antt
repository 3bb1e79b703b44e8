use Rattle.std.proofs.Common.{◌≡◌, Some, string_bytes, rules}
use Rattle.std.specs.Map.{update}
use Rattle.std.specs.Str.{bytes_eq}
use Rattle.spk_script.specs.Tables.{variables_of}
use Rattle.spk_script.proofs.Tables.{variables_of_update, variables_of_same}
use Rattle.spk_script.proofs.variable_table.VariableTable.set.Goals as goal

pub returns-in_err-insert-clause-err : goal.returns-in_err-insert-clause-err
returns-in_err-insert-clause-err c =
    let same : variables_of c.insert.new.self ≡ variables_of c.args.self.now.variables = variables_of_same _ _ c.in_err-insert.ensures.err in
    search (rules, same)

-- the key has the name's bytes
pub returns-clause-ok : goal.returns-clause-ok
returns-clause-ok c =
    let changed : variables_of c.insert.new.self ≡ update bytes_eq (variables_of c.args.self.now.variables) (string_bytes c.in_ok-key.key) (Some c.args.variable) =
    variables_of_update _ _ _ _ c.in_ok-insert.ensures.updates in
    rw c.in_ok-key.ensures.ok at changed
