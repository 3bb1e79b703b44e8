use Rattle.std.proofs.Common.{◌<◌, set, ap, ◌∙◌, arith}
use Rattle.std.proofs.Math.Seq.{take-set-lt}
use Rattle.std.proofs.lemmas.List.{length-take}
use Rattle.std.specs.Prelude.{length, List, ℕ}
use Rattle.spk_app.proofs.near_values.NearValues.set.Goals as goal

pub returns : goal.returns
returns c =
    let within : c.args.k < c.self.inside.count = omega (arith, c.requires.k, ap length c.self.view_is, length-take c.self.inside.count c.self.inside.values) in
    take-set-lt c.self.inside.count c.self.inside.values c.args.k c.args.value within ∙ ap (λ (xs : List ℕ). set xs c.args.k c.args.value) c.self.view_is
