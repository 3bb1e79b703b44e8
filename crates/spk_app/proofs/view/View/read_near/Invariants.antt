use Rattle.std.proofs.Common.{◌≡◌, take, map}
use Rattle.std.specs.Prelude.{slice_index}
use Rattle.spk_app.proofs.view.View.read_near.Given as goal

abbrev pub invariant-loop-j : goal.invariant-loop-j
invariant-loop-j g l = l.near ≡ map (slice_index (g.Self.View.sight l.self).values) (take l.j-index l.j-items)
