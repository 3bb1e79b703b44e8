use Rattle.spk_run.proofs.Headline.{simulated_by, cause_by, file_cause_by, not_usage, simulated_nothing}
use Rattle.spk_run.proofs.simulate.run_words.Goals as goal

pub returns-in-Ok-clause-simulated : goal.returns-in-Ok-clause-simulated
returns-in-Ok-clause-simulated g c = rw (c.in-Ok.ensures.ok, c.answer.ensures) (simulated_by _ c.obey_options.ensures.wrote)

pub returns-in-Ok-clause-counts : goal.returns-in-Ok-clause-counts
returns-in-Ok-clause-counts g c = c.obey_options.ensures.wrote.later

pub returns-in-Ok-clause-cause : goal.returns-in-Ok-clause-cause
returns-in-Ok-clause-cause g c = rw c.answer.ensures (cause_by _ c.obey_options.ensures.wrote)

pub returns-in-Ok-clause-file_cause : goal.returns-in-Ok-clause-file_cause
returns-in-Ok-clause-file_cause g c = rw c.answer.ensures (file_cause_by (g.W.World.state c.args.world.now).told (g.W.World.state c.args.world.now).faults (g.W.World.state c.obey_options.new.world).faults c.obey_options.result c.obey_options.ensures.untold)

pub returns-in-Ok-clause-usage : goal.returns-in-Ok-clause-usage
returns-in-Ok-clause-usage g c = rw (c.in-Ok.ensures.ok, c.answer.ensures) (not_usage c.in-Ok.options c.obey_options.result)

pub returns-in-Err-Memory-clause-simulated : goal.returns-in-Err-Memory-clause-simulated
returns-in-Err-Memory-clause-simulated g c = simulated_nothing _ _
