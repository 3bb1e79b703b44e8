use Rattle.std.proofs.Common.{◌≡◌, ◌≤◌, count_by, take}
use Rattle.spk_report.specs.Energies.{is_counted, value_of}
use Rattle.spk_report.proofs.energy.site_energy.Given as goal

abbrev pub invariant-loop-neighbour : goal.invariant-loop-neighbour
invariant-loop-neighbour l = record {
  so_far : l.energy ≡ count_by (λ neighbour. is_counted l.kind (value_of l.values l.id) (value_of l.values neighbour)) (take l.neighbour-index l.neighbour-items);
  few : l.energy ≤ l.neighbour-index;
}
