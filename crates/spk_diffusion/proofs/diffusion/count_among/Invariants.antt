use Rattle.std.proofs.Common.{◌≡◌, ◌≤◌, ◌==◌, count_by, map, take}
use Rattle.std.specs.Prelude.{slice_index}
use Rattle.spk_diffusion.proofs.diffusion.count_among.Given as goal

abbrev pub invariant-loop-j : goal.invariant-loop-j
invariant-loop-j g l = record {
  so_far : l.count ≡ count_by (λ v. v == l.value) (map (slice_index (g.V.View.sight l.view).values) (take l.j-index l.j-items));
  few : l.count ≤ l.j-index;
}
