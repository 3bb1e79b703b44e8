use Rattle.std.proofs.Common.{◌≡◌, ◌≤◌, ◌*◌}
use Rattle.spk_patch.specs.Patches.{sight_of}
use Rattle.spk_run.specs.Energies.{energy_of_first}
use Rattle.spk_run.proofs.energy.energy_of_all.Given as goal

abbrev pub invariant-loop-place : goal.invariant-loop-place
invariant-loop-place g l = record {
  total : l.total ≡ energy_of_first (g.A.App.rules l.app) (sight_of l.patch) l.place;
  small : l.total ≤ l.place * 4294967295;
}
