use Rattle.spk_script.proofs.Obeying.{read_failed, read_obeyed}
use Rattle.spk_script.proofs.machine.Machine.next_command.Goals as goal

pub returns-in_err-words-clause-step : goal.returns-in_err-words-clause-step
returns-in_err-words-clause-step c = read_failed _ _ _ _ _ _ c.in_err-words.ensures.answer c.from_residual.ensures.1

pub returns-clause-step : goal.returns-clause-step
returns-clause-step c = read_obeyed _ _ _ _ _ _ _ c.number-number.ensures c.in_ok-words.ensures.answer c.obey.ensures.step
