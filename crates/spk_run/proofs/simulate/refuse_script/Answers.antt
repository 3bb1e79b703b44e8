use Rattle.spk_run.proofs.Obeying.{out_of_memory}
use Rattle.spk_run.proofs.simulate.refuse_script.Goals as goal

pub returns-in-Memory-clause-wrote : goal.returns-in-Memory-clause-wrote
returns-in-Memory-clause-wrote g c = λ vars plain is. out_of_memory
