use Rattle.std.proofs.Common.{rules}
use Rattle.spk_num.proofs.ResultLaws.{plain_fault}
use Rattle.spk_script.proofs.state.MachineState.make_styled.Goals as goal

pub returns-in_ok-copy-in_default-clause-answer : goal.returns-in_ok-copy-in_default-clause-answer
returns-in_ok-copy-in_default-clause-answer c = rw c.in_ok-copy-in_default.ensures (search (rules, plain_fault))
