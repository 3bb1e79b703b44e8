use Rattle.spk_solve.proofs.GroupChanges.{bin_by_power}
use Rattle.spk_solve.proofs.group.bin_of.Goals as goal

pub returns-else-p-eq0 : goal.returns-else-p-eq0
returns-else-p-eq0 c = bin_by_power _ _ c.ilog2.ensures.power_le c.ilog2.ensures.next_power_gt c.requires
