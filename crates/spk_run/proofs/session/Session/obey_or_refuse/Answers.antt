use Rattle.std.proofs.Common.{◌∙◌, sym}
use Rattle.spk_run.proofs.Sessions.{refused_command, command_out_of_memory, performed, performed_leaves}
use Rattle.spk_run.proofs.session.Session.obey_or_refuse.Goals as goal

pub returns-in_err-cause-clause-wrote : goal.returns-in_err-cause-clause-wrote
returns-in_err-cause-clause-wrote g c = command_out_of_memory _ _ c.from_residual.ensures.1

pub returns-in-Some-clause-wrote : goal.returns-in-Some-clause-wrote
returns-in-Some-clause-wrote g c = refused_command _ _ _ (sym c.in_ok-cause.ensures.cause ∙ c.in-Some.is)

pub returns-clause-wrote : goal.returns-clause-wrote
returns-clause-wrote g c = performed _ _ _ (sym c.in_ok-cause.ensures.cause ∙ c.in_default.is) c.perform.ensures.wrote

pub returns-clause-leaves : goal.returns-clause-leaves
returns-clause-leaves g c = performed_leaves _ _ _ _ _ (sym c.in_ok-cause.ensures.cause ∙ c.in_default.is) c.perform.ensures.session
