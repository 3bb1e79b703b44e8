use Rattle.std.specs.Prelude.{All, IsTrue}
use Rattle.spk_potts.specs.Ising.{is_one_or_two}
use Rattle.spk_turn.proofs.patch_turns.tests.values_of.Given as goal

abbrev pub invariant-loop-digit : goal.invariant-loop-digit
invariant-loop-digit g l = All (λ v. IsTrue (is_one_or_two v)) l.values.items
