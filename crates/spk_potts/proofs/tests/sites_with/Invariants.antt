use Rattle.std.proofs.Common.{◌≡◌, length}
use Rattle.std.specs.Prelude.{All, IsTrue}
use Rattle.spk_potts.proofs.tests.sites_with.Given as goal

abbrev pub invariant-values : goal.invariant-values
invariant-values g l = record {
  count : length l.kept.items ≡ l.value-index;
  valid : All (λ v. IsTrue ((g.A.App.rules l.app).is_valid v)) l.kept.items;
}
