use Rattle.std.proofs.Common.{◌≡◌, ℕ, ◌+◌, IsTrue, refl, ◌∙◌, arith}
use Rattle.std.proofs.lemmas.List.FromFn.{sum_by-map-range_with_len_more}
use Rattle.spk_patch.specs.Patches.{sight_of, is_whole}
use Rattle.spk_turn.proofs.Hops.{around_all}
use Rattle.spk_run.specs.Energies.{energy_of_first}
use Rattle.spk_run.proofs.energy.energy_of_all.Goals as goal

pub energy-requires-clause-seen : goal.energy-requires-clause-seen
energy-requires-clause-seen g c = around_all _ _ _ (λ j. IsTrue (is_whole c.args.patch.now j)) (λ j. rw c.requires.wrapped refl)

pub loop-place-preserved : goal.loop-place-preserved
loop-place-preserved g c =
    let energies : ℕ → ℕ = (g.A.App.rules c.args.app.now).energy (sight_of c.args.patch.now) in
    let more : energy_of_first (g.A.App.rules c.args.app.now) (sight_of c.args.patch.now) (c.loop-place.place + 1)
    ≡ energy_of_first (g.A.App.rules c.args.app.now) (sight_of c.args.patch.now) c.loop-place.place + energies c.loop-place.place =
    sum_by-map-range_with_len_more (λ energy. energy) energies 0 c.loop-place.place c.loop-place.place (omega arith) in
    let found : c.from-total.result ≡ energies c.loop-place.place = c.from-total.ensures ∙ c.energy.ensures in
    record {
      total = omega (arith, more, found, c.loop-place.invariant.total);
      small = omega (arith, c.from-total.ensures, c.energy.type_inv, c.loop-place.invariant.small);
    }
