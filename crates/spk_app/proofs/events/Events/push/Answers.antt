use Rattle.spk_app.proofs.Listed.{pushed}
use Rattle.spk_app.proofs.events.Events.push.Goals as goal

pub returns-clause-events : goal.returns-clause-events
returns-clause-events c =
    rw (c.put.ensures.list, c.put-2.ensures.list)
    (pushed c.args.self.now.count c.args.mark c.args.weight c.args.self.now.weights c.args.self.now.marks c.put.ensures.length c.put-2.ensures.length c.requires)
