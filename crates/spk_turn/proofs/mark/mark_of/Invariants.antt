use Rattle.std.proofs.Common.{◌≡◌, ◌≤◌, ◌*◌, ◌^◌, drop, take}
use Rattle.spk_app.specs.Applications.{Event, listed, propensity}
use Rattle.spk_solve.specs.Choice.{named, named_from}
use Rattle.spk_turn.proofs.mark.mark_of.Given as goal

abbrev pub invariant-weights : goal.invariant-weights
invariant-weights l = record {
  so_far : l.passed ≡ propensity (take l.k (listed l.events));
  not_passed : l.passed ≤ l.rest;
  room : l.passed ≤ l.k * 2 ^ 32;
  same : named_from (λ (e : Event). e.weight) l.passed l.rest (drop l.k (listed l.events)) ≡ named (λ (e : Event). e.weight) l.rest (listed l.events);
}
