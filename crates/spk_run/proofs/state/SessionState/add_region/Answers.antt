use Rattle.spk_run.proofs.AddedRegions.{added_by}
use Rattle.spk_run.proofs.state.SessionState.add_region.Goals as goal

pub returns : goal.returns
returns c = added_by c.out_of_memory.result c.args.self.now c.args.name.now c.args.shape.now c.add.new.self c.add.result c.add.ensures.plain c.add.ensures.kept c.out_of_memory.ensures
