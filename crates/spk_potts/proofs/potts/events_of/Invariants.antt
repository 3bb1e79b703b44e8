use Rattle.std.proofs.Common.{◌≡◌, ◌≤◌, map, take}
use Rattle.spk_app.specs.Applications.{listed}
use Rattle.spk_potts.specs.Potts.{event_to}
use Rattle.spk_potts.proofs.potts.events_of.Given as goal

abbrev pub invariant-others : goal.invariant-others
invariant-others l = record {
  so_far : listed l.events ≡ map (event_to l.weights l.own l.near) (take l.value-index l.value-items);
  count : l.events.count ≤ l.value-index;
}
