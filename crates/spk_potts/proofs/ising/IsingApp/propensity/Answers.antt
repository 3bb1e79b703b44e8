use Rattle.std.proofs.Common.{ap, ◌∙◌}
use Rattle.spk_potts.specs.Ising.{IsingSettings}
use Rattle.spk_potts.proofs.Propensities.{ising_same}
use Rattle.spk_potts.proofs.ising.IsingApp.propensity.Goals as goal

pub returns-clause-sum : goal.returns-clause-sum
returns-clause-sum g c =
    c.propensity_of.ensures.sum ∙ ising_same _ _ _ _ _ _ (ap (λ (a : IsingSettings). a.temperature) c.self.view_is) c.value.ensures (c.as_slice.ensures.values ∙ c.read_near.ensures)
