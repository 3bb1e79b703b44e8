use Rattle.spk_run.proofs.simulate.obey_input.Goals as goal

pub returns-clause-wrote : goal.returns-clause-wrote
returns-clause-wrote g c = rw c.in-File.is (rw c.as_slice.ensures at c.obey_file.ensures.wrote)
