use Rattle.std.proofs.Common.{◌≡◌, ◌≤◌, take, length, replicate}
use Rattle.spk_solve.proofs.flat.Flat.reset.Given as goal

abbrev pub invariant-zeros : goal.invariant-zeros
invariant-zeros l = record {
  zeros : take l.place l.self-inside.weights.items ≡ replicate l.place 0;
  all : length l.self-inside.weights.items ≡ l.fn.self.room;
  few : length l.self-inside.weights.items ≤ 4194304;
}
