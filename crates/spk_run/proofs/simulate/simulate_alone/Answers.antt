use Rattle.spk_run.proofs.Headline.{complete_by}
use Rattle.spk_run.proofs.simulate.simulate_alone.Goals as goal

pub returns-clause-complete : goal.returns-clause-complete
returns-clause-complete g c = λ none. complete_by _ _ _ _ _ _ c.run_words.ensures.simulated c.run_words.ensures.cause c.run_words.ensures.file_cause none
