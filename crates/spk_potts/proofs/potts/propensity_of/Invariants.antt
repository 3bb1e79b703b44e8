use Rattle.std.proofs.Common.{◌≡◌, length}
use Rattle.spk_potts.specs.Energies.{unlike}
use Rattle.spk_potts.proofs.KindSums.{AreSummed}
use Rattle.spk_potts.proofs.potts.propensity_of.Given as goal

abbrev pub invariant-kinds : goal.invariant-kinds
invariant-kinds l = record {
  degree : l.degree ≡ length l.fn.near;
  before : l.before ≡ unlike l.own l.fn.near;
  summed : AreSummed l.weights l.own l.fn.near l.near l.sum l.counter;
}
