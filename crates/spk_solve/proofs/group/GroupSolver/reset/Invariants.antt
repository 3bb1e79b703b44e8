use Rattle.std.proofs.Common.{◌≡◌, ℕ, ◌<◌, take, length, replicate}
use Rattle.std.specs.Prelude.{slice_index}
use Rattle.spk_solve.proofs.group.GroupSolver.reset.Given as goal

abbrev pub invariant-zeros : goal.invariant-zeros
invariant-zeros l = record {
  zeros : take l.place l.self-inside.weights.items ≡ replicate l.place 0;
  none : (k : ℕ) → k < l.place → slice_index l.self-inside.bytes.items k ≡ 36;
  weights : length l.self-inside.weights.items ≡ length l.initial.self-inside.weights.items;
  bytes : length l.self-inside.bytes.items ≡ length l.initial.self-inside.bytes.items;
  totals : l.self-inside.totals ≡ l.initial.self-inside.totals;
  trees : l.self-inside.trees ≡ l.initial.self-inside.trees;
}
