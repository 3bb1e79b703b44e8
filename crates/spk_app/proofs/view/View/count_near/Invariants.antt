use Rattle.std.proofs.Common.{◌≡◌, ◌≤◌, ◌==◌, ◌&&◌, not, count_by, take}
use Rattle.std.specs.Prelude.{slice_index}
use Rattle.spk_app.proofs.view.View.count_near.Given as goal

abbrev pub invariant-loop-j : goal.invariant-loop-j
invariant-loop-j g l = record {
  so_far : l.count ≡ count_by (λ j. not (j == l.but) && (slice_index (g.Self.View.sight l.self).values j == l.value)) (take l.j-index l.j-items);
  few : l.count ≤ l.j-index;
}
