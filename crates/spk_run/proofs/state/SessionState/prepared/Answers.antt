use Rattle.std.proofs.Common.{ap, ◌∙◌}
use Rattle.spk_app.specs.Applications.{Application}
use Rattle.spk_run.specs.Commands.Run.{settings_of}
use Rattle.spk_run.proofs.state.SessionState.prepared.Goals as goal

pub returns : goal.returns
returns c = rw (c.in-Some.is, c.in-Some-lattice.is, c.in-Some-domain.is) (record {
  application = c.application-application.ensures.rules;
  plan = c.in_ok-plan.ensures ∙ ap (λ (a : Application). settings_of c.args.self.now c.args.length a c.in-Some-domain.domain) c.application-application.ensures.rules;
  trials = c.application-application.ensures.trials;
  room_for = rw c.sweep.ensures at c.in_ok-room.ensures.room;
  solver = c.in_ok-room.ensures.solver;
  display = c.in_ok-room.ensures.display;
})
