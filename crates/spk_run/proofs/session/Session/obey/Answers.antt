use Rattle.spk_run.specs.Causes.{FileRefusalRose}
use Rattle.spk_run.specs.Commands.{obeys}
use Rattle.spk_run.specs.Faults.{trouble_of}
use Rattle.spk_run.proofs.Sessions.{obeyed_publicly, complete_command, refused_publicly}
use Rattle.spk_run.proofs.session.Session.obey.Goals as goal

pub returns-clause-wrote : goal.returns-clause-wrote
returns-clause-wrote g c = rw c.trouble_of.ensures (obeyed_publicly _ _ _ _ _ c.obey_or_refuse.ensures.wrote)

pub returns-clause-complete : goal.returns-clause-complete
returns-clause-complete g c = λ none.
    let before = g.W.World.state c.args.world.now in
    let now = g.W.World.state c.obey_or_refuse.new.world in
    let untold = refused_publicly before.told c.obey_or_refuse.result (FileRefusalRose before.faults now.faults) c.obey_or_refuse.ensures.untold in
    rw c.trouble_of.ensures
    (complete_command before now (obeys c.args.self.now.state c.args.command.now) c.obey_or_refuse.new.self.state (trouble_of c.obey_or_refuse.result)
    (obeyed_publicly _ _ _ _ _ c.obey_or_refuse.ensures.wrote) untold none)
