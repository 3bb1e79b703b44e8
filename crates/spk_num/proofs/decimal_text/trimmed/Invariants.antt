use Rattle.std.proofs.Common.{◌≡◌, ◌≤◌, take}
use Rattle.spk_num.specs.Decimal.{without_last_zeros}
use Rattle.spk_num.proofs.decimal_text.trimmed.Given as goal

abbrev pub invariant-loop-i : goal.invariant-loop-i
invariant-loop-i l = record {
  trims : take l.end l.digits ≡ without_last_zeros (take l.i l.digits);
  within : l.end ≤ l.i;
}
