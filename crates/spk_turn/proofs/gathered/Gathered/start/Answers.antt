use Rattle.std.proofs.Common.{[], List, ℕ, ap, ◌∙◌, length, arith, refl}
use Rattle.spk_turn.specs.Reached.{with_place}
use Rattle.spk_turn.proofs.Adding.{place_new}
use Rattle.spk_turn.proofs.gathered.Gathered.start.Goals as goal

pub add-requires : goal.add-requires
add-requires c = omega (arith, ap length (ap (λ (places : List ℕ). with_place places c.args.place) c.clear.ensures ∙ place_new [] c.args.place refl))

pub returns : goal.returns
returns c = c.add.ensures ∙ ap (λ (places : List ℕ). with_place places c.args.place) c.clear.ensures ∙ place_new [] c.args.place refl
