use Rattle.spk_world.proofs.EffectLaws.{wrote_then, wrote_failed}
use Rattle.spk_run.proofs.Obeying.{stops_for_memory, ending_since, since_wrote, since_start}
use Rattle.spk_run.proofs.simulate.obey_options.Goals as goal

pub returns-in_err-session-clause-wrote : goal.returns-in_err-session-clause-wrote
returns-in_err-session-clause-wrote g c = stops_for_memory c.from_residual.ensures.1

pub returns-in_err-start_log-clause-wrote : goal.returns-in_err-start_log-clause-wrote
returns-in_err-start_log-clause-wrote g c = wrote_failed _ c.from_residual-in_err-start_log.ensures.1 (rw c.in_ok-session.ensures at c.in_err-start_log.ensures)

pub returns-clause-wrote : goal.returns-clause-wrote
returns-clause-wrote g c = wrote_then _ (rw c.in_ok-session.ensures at c.in_ok-start_log.ensures) (rw c.in_ok-session.ensures at c.obey_input.ensures.wrote)

pub returns-clause-untold : goal.returns-clause-untold
returns-clause-untold g c = ending_since (g.W.World.state c.obey_input.new.world).faults c.obey_input.result (since_wrote since_start c.in_ok-start_log.ensures) c.obey_input.ensures.untold
