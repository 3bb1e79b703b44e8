use Rattle.std.proofs.Common.{◌∙◌}
use Rattle.spk_run.proofs.Headline.{simulated_nothing, usage_said, usage_not_said, screen_cause}
use Rattle.spk_run.proofs.simulate.refuse_command_line.Goals as goal

pub returns-in_default-clause-simulated : goal.returns-in_default-clause-simulated
returns-in_default-clause-simulated g c = simulated_nothing _ _

pub returns-in-Ok-say-clause-simulated : goal.returns-in-Ok-say-clause-simulated
returns-in-Ok-say-clause-simulated g c = usage_said _ _ (c.as_bytes.ensures.value ∙ c.in-Ok.ensures) c.in-Ok-say.ensures.wrote

pub returns-in-Ok-say-clause-counts : goal.returns-in-Ok-say-clause-counts
returns-in-Ok-say-clause-counts g c = c.in-Ok-say.ensures.wrote.later

pub returns-clause-simulated : goal.returns-clause-simulated
returns-clause-simulated g c = usage_not_said _ _ _ (c.as_bytes.ensures.value ∙ c.in-Ok.ensures) c.in-Err.ensures.screen c.in-Err.ensures.wrote

pub returns-clause-counts : goal.returns-clause-counts
returns-clause-counts g c = c.in-Err.ensures.wrote.later

pub returns-clause-cause : goal.returns-clause-cause
returns-clause-cause g c = screen_cause _ c.in-Err.ensures.screen c.in-Err.ensures.wrote
