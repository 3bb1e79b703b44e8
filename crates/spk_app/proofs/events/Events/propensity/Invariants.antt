use Rattle.std.proofs.Common.{◌≡◌, ◌*◌, ◌^◌, ◌≤◌}
use Rattle.spk_app.specs.Applications.{propensity}
use Rattle.spk_app.proofs.Listed.{first_events}
use Rattle.spk_app.proofs.events.Events.propensity.Given as goal

abbrev pub invariant-weights : goal.invariant-weights
invariant-weights l = record {
  sum_is : l.sum ≡ propensity (first_events l.self l.k);
  room : l.sum ≤ l.k * 2 ^ 32;
}
