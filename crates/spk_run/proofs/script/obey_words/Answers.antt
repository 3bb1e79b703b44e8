use Rattle.spk_run.proofs.Obeying.{read_words, holds_untold}
use Rattle.spk_run.proofs.script.obey_words.Goals as goal

pub returns-in-Ok-clause-wrote : goal.returns-in-Ok-clause-wrote
returns-in-Ok-clause-wrote g c = λ state.
    rw (read_words c.args.number state c.args.session.now.state _ c.in-Ok.command c.in-Ok.ensures.read) (c.obey_command.ensures.wrote state)

pub returns-in-Err-clause-wrote : goal.returns-in-Err-clause-wrote
returns-in-Err-clause-wrote g c = λ state. c.refuse_words.ensures.wrote _ state c.in-Err.ensures.read

pub returns-in-Err-clause-untold : goal.returns-in-Err-clause-untold
returns-in-Err-clause-untold g c = holds_untold _ _ c.refuse_words.ensures.untold
