use Rattle.spk_sched.specs.Globals.{kinetics_of}
use Rattle.spk_run.specs.Runs.{domain_at}
use Rattle.spk_run.proofs.DumpTelling.{shows_same}
use Rattle.spk_run.proofs.RunSteps.{line_told, no_line, show_telling}
use Rattle.spk_run.proofs.Tellers.{tells_nothing, tells_same}
use Rattle.spk_run.proofs.running.Running.tell_line.Goals as goal

pub returns-then-not-lined-clause-telling : goal.returns-then-not-lined-clause-telling
returns-then-not-lined-clause-telling g c = λ display rule settings domain done one has shown.
    tells_nothing display.log _ _ _ (no_line c.args.lined _ c.if-not-lined.true)

pub returns-clause-telling : goal.returns-clause-telling
returns-clause-telling g c = λ display rule settings domain done one has shown.
    tells_same display.log _ _ _ _ _ _
    (line_told display (g.A.App.rules c.args.app.now) c.args.lined (domain_at (kinetics_of (g.A.App.rules c.args.app.now) rule) settings domain done) _ c.args.self.now.with_energy c.if-not-lined.false shown.with_energy (c.line-line.ensures rule settings domain done one has))
    (c.tell_line.ensures.telling display.log)

pub returns-clause-show : goal.returns-clause-show
returns-clause-show g c =
    show_telling c.args.self.now c.args.self.now.piece c.tell_line.new.self c.requires.show.piece (c.tell_line.ensures.can_tell c.requires.show.tell) (shows_same _ _ c.tell_line.ensures.writer) c.requires.show
