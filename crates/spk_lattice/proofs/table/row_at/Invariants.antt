use Rattle.std.proofs.Common.{◌≡◌}
use Rattle.spk_lattice.specs.Table.{filled, first_steps}
use Rattle.spk_lattice.proofs.table.row_at.Given as goal

abbrev pub invariant-loop-k : goal.invariant-loop-k
invariant-loop-k l = l.row ≡ filled (first_steps l.grid l.basis l.points l.k)
