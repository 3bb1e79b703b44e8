use Rattle.std.proofs.Common.{◌≡◌}
use Rattle.spk_app.proofs.Places.{FirstPlaces}
use Rattle.spk_app.proofs.plain_view.list_beside.Given as goal

abbrev pub invariant-near : goal.invariant-near
invariant-near l = record {
  so_far : FirstPlaces l.lattice l.place l.k l.near.ids;
  count : l.near.count ≡ l.count;
}
