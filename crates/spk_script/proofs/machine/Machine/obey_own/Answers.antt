use Rattle.std.proofs.Common.{rules}
use Rattle.spk_num.proofs.ResultLaws.{plain_value}
use Rattle.spk_script.proofs.machine.Machine.obey_own.Goals as goal

pub returns-in-empty-clause-own : goal.returns-in-empty-clause-own
returns-in-empty-clause-own c = search (rules, plain_value)
