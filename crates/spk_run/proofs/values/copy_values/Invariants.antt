use Rattle.std.proofs.Common.{◌≡◌, ℕ, ◌<◌, length, get_or}
use Rattle.spk_run.proofs.values.copy_values.Given as goal

abbrev pub invariant-loop-place : goal.invariant-loop-place
invariant-loop-place l = record {
  all : length l.values.items ≡ length l.patch.values;
  done : (k : ℕ) → k < l.place → get_or l.values.items k 0 ≡ get_or l.patch.values k 0;
}
