use Rattle.std.proofs.Common.{refl}
use Rattle.spk_world.proofs.Files.{files_of-empty}
use Rattle.spk_world.proofs.memory.MemWorld.new.Goals as goal

pub returns : goal.returns
returns c = record {
  files = files_of-empty _ c.new.ensures.empty;
  said = c.new-2.ensures.items;
  faults = refl;
  no_plan = c.new-3.ensures.items;
  calls = refl;
  starved = refl;
}
