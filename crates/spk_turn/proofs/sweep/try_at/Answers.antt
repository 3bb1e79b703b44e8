use Rattle.spk_turn.proofs.Events.{all_seen}
use Rattle.spk_turn.proofs.Sweeping.{trial_length, trial_ready}
use Rattle.spk_turn.proofs.sweep.try_at.Goals as goal

pub trial-requires-clause-seen : goal.trial-requires-clause-seen
trial-requires-clause-seen g c = all_seen _ _ _ _ _ c.args.place c.requires.ready

pub returns-then-trial-clause-all : goal.returns-then-trial-clause-all
returns-then-trial-clause-all g c = trial_length (g.A.App.rules c.args.app.now) c.args.place c.args.stream.now (g.V.View.sight c.args.view.now) (g.V.View.sight c.trial.new.view) c.trial.ensures.sight

pub returns-then-trial-clause-ready : goal.returns-then-trial-clause-ready
returns-then-trial-clause-ready g c = trial_ready _ _ _ _ _ c.args.place c.args.stream.now _ _ c.requires.ready (g.met.A.App.stays_valid c.args.app.now) c.requires.place c.trial.ensures.sight c.trial.ensures.whole

pub returns-else-trial-clause-all : goal.returns-else-trial-clause-all
returns-else-trial-clause-all g c = trial_length (g.A.App.rules c.args.app.now) c.args.place c.args.stream.now (g.V.View.sight c.args.view.now) (g.V.View.sight c.trial.new.view) c.trial.ensures.sight

pub returns-else-trial-clause-ready : goal.returns-else-trial-clause-ready
returns-else-trial-clause-ready g c = trial_ready _ _ _ _ _ c.args.place c.args.stream.now _ _ c.requires.ready (g.met.A.App.stays_valid c.args.app.now) c.requires.place c.trial.ensures.sight c.trial.ensures.whole
