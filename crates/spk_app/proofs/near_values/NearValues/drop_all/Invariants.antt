use Rattle.std.proofs.Common.{◌≡◌}
use Rattle.spk_app.proofs.Dropping.{AreKept, unlike}
use Rattle.spk_app.proofs.near_values.NearValues.drop_all.Given as goal

abbrev pub invariant-values : goal.invariant-values
invariant-values l = record {
  kept : AreKept (unlike l.value) l.kept l.k l.initial.self-inside.values l.self-inside.values;
  count : l.self-inside.count ≡ l.initial.self-inside.count;
}
