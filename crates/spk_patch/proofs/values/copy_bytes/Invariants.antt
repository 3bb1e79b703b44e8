use Rattle.std.proofs.Common.{◌≡◌, length, take}
use Rattle.spk_patch.proofs.values.copy_bytes.Given as goal

abbrev pub invariant-bytes : goal.invariant-bytes
invariant-bytes l = record {
  all : length l.words.items ≡ length l.bytes.items;
  so_far : take l.i l.words.items ≡ take l.i l.bytes.items;
}
